-- The state in which a call of the plain machine is carried out, in the terms of the laws of
-- decisions: no close is half made, and the jobs that the call reaches are in no call.
use Rattle.std.specs.Prelude.{◌≡◌, ℕ, Bool, true, false, Option, Some, None, IfSome, List, [], ◌∷◌, length, refl}
use Rattle.std.proofs.Common.{sym, ap, subst, arith}
use Rattle.its_word.specs.Core.{zero_page}
use Rattle.its_records.specs.declared.calls.Ask.{Ask}
use Rattle.its_records.specs.declared.calls.Site.{Site}
use Rattle.its_word.specs.declared.plan.Store.{Store}
use Rattle.its_frame.specs.declared.change.Change.{Change}
use Rattle.its_frame.specs.declared.change.Change.TheVariants as changes
use Rattle.its_frame.specs.declared.frame.Frame.{Frame}
use Rattle.its_plain.specs.Machine.Change.{superior_in, job_after_removal, is_gone, on_slot, inferior, poke, with_protection, after_removal, with_alarm, with_inf, with_page_at, effect, effects}
use Rattle.its_plain.specs.Call.Decide.{reach}
use Rattle.its_plain.specs.Call.Footprint.{Stands, among}
use Rattle.its_plain.specs.Machine.{Shut, Linked, Whole, Machine, changed}
use Rattle.its_plain.specs.Machine.Own.{at_position, on_channel, opened_on, with_registers, with_stores, with_variable, with_word}
use Rattle.its_stepped.specs.Calling.{Calling}
use Rattle.its_stepped.specs.Commit.{effect_on, effects_on}
use Rattle.its_stepped.specs.Forest.{Forest}
use Rattle.its_stepped.specs.Quiet.{IsStill}
use Rattle.its_stepped.specs.Sound.{Stored, Paged}
use Rattle.its_stepped.specs.State.{State}
use Rattle.its_stepped.specs.Tick.{reserves, quarters}
use Rattle.its_stepped.proofs.Frame.DebtLaws.{debts_none}
use Rattle.its_stepped.proofs.Frame.DecodingLaws.{decoding}
use Rattle.its_stepped.proofs.Duties.GivenLaws.{reach_apart}

-- the state in which slot j's call is carried out, with these other calls in progress: it has a
-- clear page if it makes one
abbrev pub page_for : Bool → Option ℕ
page_for true = Some quarters
page_for false = None

abbrev pub beginning : Machine → (ℕ → Option Frame) → Option ℕ → State
beginning m frames r = record { raw = m; frames = frames; reserved = λ k. r; mark = None }

-- none is in progress
abbrev pub nobody : ℕ → Option Frame
nobody k = None

page_paged : (a : Ask) (b : Bool) → reserves a ≡ b → IfSome (page_for b) (Paged a 0)
page_paged a true e = record { most = omega arith; reserves = e; owes = refl }
page_paged a false e = tt

-- the jobs that it reaches are in no call, and its own has nothing pending
pub calling : (m : Machine) (j : ℕ) (q : Whole) (s : Site) (a : Ask) (frames : ℕ → Option Frame) → Forest m → m.jobs j ≡ Some q
    → Stands q.core q.job s a → IsStill (frames j)
    → ((k : ℕ) → among k (reach m j q a) ≡ true → frames k ≡ None) → ((k : ℕ) → m.jobs k ≡ None → frames k ≡ None)
    → Calling m (beginning m frames (page_for (reserves a))) j q s a 0
calling m j q s a frames forest here st still reached empty = record {
  stands = st;
  fetched = decoding.fetched q.core q.job s a st;
  debts = record {
    few = omega arith;
    read = ap (λ (ss : List Store). length ss) (debts_none a);
    stored = subst (λ (ss : List Store). Stored q.core ss) (sym (debts_none a)) tt;
  };
  page = page_paged a (reserves a) refl;
  full = λ h. ap page_for h;
  still = λ n. still;
  reached = reached;
  apart = reach_apart m j q a forest here;
  here = here;
  tree = λ k. refl;
  forest = forest;
  empty = empty;
  unmarked = λ h. refl;
}

-- the jobs after changes are those of the machine
slot_alike : (jobs others : ℕ → Option Whole) (s : ℕ) (f : Whole → Whole) → jobs ≡ others → on_slot jobs s f ≡ on_slot others s f
slot_alike jobs others s f e = ap (λ (xs : ℕ → Option Whole). on_slot xs s f) e

jobs_alike : (c : Change) (j : ℕ) (w : State) (m : Machine) → w.raw.jobs ≡ m.jobs → (effect_on c j w).raw.jobs ≡ (effect c j m).jobs
unfolding effect_on effect after_removal
jobs_alike (changes.Open n on) j w m e = slot_alike w.raw.jobs m.jobs j (on_channel n (λ c. opened_on on)) e
jobs_alike (changes.Shut n) j w m e = slot_alike w.raw.jobs m.jobs j (on_channel n (λ c. Shut)) e
jobs_alike (changes.Move n at) j w m e = slot_alike w.raw.jobs m.jobs j (on_channel n (at_position at)) e
jobs_alike (changes.Append n x) j w m e = slot_alike w.raw.jobs m.jobs j (on_channel n (with_word x)) e
jobs_alike (changes.Close n) j w m e = slot_alike w.raw.jobs m.jobs j (on_channel n (λ c. Shut)) e
jobs_alike (changes.Poke s a x) j w m e = slot_alike w.raw.jobs m.jobs s (with_stores (poke a x ∷ [])) e
jobs_alike (changes.Set s v x) j w m e = slot_alike w.raw.jobs m.jobs s (with_registers (with_variable v x)) e
jobs_alike (changes.Map s k) j w m e = slot_alike w.raw.jobs m.jobs s (with_page_at k (Some zero_page)) e
jobs_alike (changes.Unmap s k) j w m e = slot_alike w.raw.jobs m.jobs s (with_page_at k None) e
jobs_alike (changes.Protect s k on) j w m e = slot_alike w.raw.jobs m.jobs s (with_protection k on) e
jobs_alike (changes.Make s u n) j w m e = ap (λ (jobs : ℕ → Option Whole). changed jobs s (Some (inferior j (jobs j) u n))) e
jobs_alike (changes.Remove s) j w m e = λ t k. job_after_removal (is_gone (λ i. superior_in (e t i)) s) (is_gone (λ i. superior_in (e t i)) s k) (e t k)
jobs_alike (changes.Inform s) j w m e = slot_alike w.raw.jobs m.jobs s with_inf e
jobs_alike (changes.Arm alarm) j w m e = slot_alike w.raw.jobs m.jobs j (with_alarm alarm) e
jobs_alike (changes.Join n l write x y) j w m e = slot_alike w.raw.jobs m.jobs j (on_channel n (λ c. Linked l write)) e
jobs_alike (changes.CloseEnd n l write) j w m e = slot_alike w.raw.jobs m.jobs j (on_channel n (λ c. Shut)) e
jobs_alike _ j w m e = e

pub all_alike : (cs : List Change) (j : ℕ) (w : State) (m : Machine) → w.raw.jobs ≡ m.jobs → (effects_on cs j w).raw.jobs ≡ (effects cs j m).jobs
all_alike [] j w m e = e
all_alike (c ∷ cs) j w m e = all_alike cs j (effect_on c j w) (effect c j m) (jobs_alike c j w m e)
