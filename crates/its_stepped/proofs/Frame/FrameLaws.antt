-- Reading a job through its frame: what frames do not touch, and turns of one slot under the plain
-- view.
use Rattle.std.specs.Prelude.{if◌then◌else◌, ◌==◌, ◌≡◌, ◌≢◌, ℕ, Bool, true, false, Option, Some, None, List, [], ◌∷◌, option_map, is_some, sum_by, refl}
use Rattle.std.specs.List.{range_with_len}
use Rattle.std.proofs.Common.{sym, ◌∙◌, ap, inl, inr}
use Rattle.std.proofs.lemmas.Bool.{cases_eq, eq-eqb, ne_eqb}
use Rattle.its_word.specs.Core.{Core, Page, page_stored, word_at, can_store, store, page_of, pages_present, pages_mapped}
use Rattle.its_word.specs.Limits.{slots}
use Rattle.its_word.specs.Only.{Only}
use Rattle.its_records.specs.declared.calls.Exit.{Exit}
use Rattle.its_records.specs.declared.calls.Owed.{Owed}
use Rattle.its_records.specs.declared.calls.Owed.TheVariants as owed
use Rattle.its_word.specs.declared.plan.Store.{Store}
use Rattle.its_word.proofs.CoreLaws.{page_alike, can_store-store, is_some-store}
use Rattle.its_word.proofs.PageLaws.{pages_present-store}
use Rattle.its_frame.specs.declared.frame.Frame.{Frame}
use Rattle.its_frame.specs.declared.frame.Frame.TheVariants.{Holding, Waiting, Moving, Ending}
use Rattle.its_plain.specs.Machine.{Whole, changed, core_of, mapped}
use Rattle.its_plain.specs.Machine.Own.{with_stores, after_leave}
use Rattle.its_plain.specs.Machine.Change.{on_slot, in_job, poke}
use Rattle.its_plain.specs.Call.Arguments.{input, debts}
use Rattle.its_plain.specs.Call.Step.{deposited}
use Rattle.its_word.specs.Stores.{place, stored}
use Rattle.its_plain.proofs.MachineLaws.{jobs_are}
use Rattle.its_stepped.specs.State.{State, held_at, after_owed, seen, seen_jobs, plain, with_slot}
use Rattle.its_word.proofs.StoreLaws.{stored_none}

pub stored_one : (c : Core) (s : Store) → stored c (s ∷ []) ≡ store c (place s) s.word
unfolding stored
stored_one c s = refl

pub stores_none : (q : Whole) → with_stores [] q ≡ q
stores_none q = λ t. record q { core = stored_none q.core t }

pub stores_cons : (s : Store) (ss : List Store) (q : Whole) → with_stores (s ∷ ss) q ≡ with_stores ss (with_stores (s ∷ []) q)
unfolding stored
stores_cons s ss q = refl

-- what no single store and no leaving of a call touches is the same in the raw job and in its plain
-- job
module _ {X : Type 0} (g : Whole → X) (stores : (s : Store) (q : Whole) → g (with_stores (s ∷ []) q) ≡ g q)
    (leaves : (e : Exit) (q : Whole) → g (after_leave e q) ≡ g q) where
  stores_alike : (ss : List Store) (q : Whole) → g (with_stores ss q) ≡ g q
  stores_alike [] q = ap g (stores_none q)
  stores_alike (s ∷ ss) q = ap g (stores_cons s ss q) ∙ stores_alike ss (with_stores (s ∷ []) q) ∙ stores s q

  owed_alike : (os : List Owed) (q : Whole) → g (after_owed os q) ≡ g q
  owed_alike [] q = refl
  owed_alike (owed.Store a w ∷ os) q = owed_alike os (with_stores (poke a w ∷ []) q) ∙ stores (poke a w) q
  owed_alike (owed.Leave e ∷ os) q = owed_alike os (after_leave e q) ∙ leaves e q
  owed_alike (owed.GiveBack ∷ os) q = owed_alike os q
  owed_alike (owed.Unlink ∷ os) q = owed_alike os q
  owed_alike (owed.Link ∷ os) q = owed_alike os q
  owed_alike (owed.Free ∷ os) q = owed_alike os q

  frame_alike : (f : Option Frame) (q : Whole) → g (seen f q) ≡ g q
  unfolding seen
  frame_alike (Some (Holding f)) q = stores_alike (debts f.ask f.owes) q
  frame_alike (Some (Waiting f)) q = stores_alike (debts f.ask f.owes) q
  frame_alike (Some (Moving f)) q =
      stores_alike (debts f.ask 2) (with_stores (deposited q.core (input f.ask 1) (held_at f.place f.byte) ∷ []) q)
      ∙ stores (deposited q.core (input f.ask 1) (held_at f.place f.byte)) q
  frame_alike (Some (Ending f)) q = owed_alike f.owed.items q
  frame_alike _ q = refl

pub seen_alike : {X : Type 0} (g : Whole → X) → ((s : Store) (q : Whole) → g (with_stores (s ∷ []) q) ≡ g q)
    → ((e : Exit) (q : Whole) → g (after_leave e q) ≡ g q)
    → (f : Option Frame) (q : Whole) → g (seen f q) ≡ g q
seen_alike g stores leaves f q = frame_alike g stores leaves f q

pub seen_superior : (f : Option Frame) (q : Whole) → (seen f q).superior ≡ q.superior
seen_superior f q = seen_alike (λ p. p.superior) (λ s p. refl) (λ e p. refl) f q

pub seen_channels : (f : Option Frame) (q : Whole) → (seen f q).channels ≡ q.channels
seen_channels f q = seen_alike (λ p. p.channels) (λ s p. refl) (λ e p. refl) f q

pub seen_stopped : (f : Option Frame) (q : Whole) → (seen f q).job.stopped ≡ q.job.stopped
seen_stopped f q = seen_alike (λ p. p.job.stopped) (λ s p. refl) (λ e p. refl) f q

-- user name, job name and console
pub record SameNames (p q : Whole) : Type 0 where
  pub uname : p.job.uname ≡ q.job.uname
  pub jname : p.job.jname ≡ q.job.jname
  pub console : p.job.console ≡ q.job.console

pub seen_names : (f : Option Frame) (q : Whole) → SameNames (seen f q) q
seen_names f q = record {
  uname = seen_alike (λ p. p.job.uname) (λ s p. refl) (λ e p. refl) f q;
  jname = seen_alike (λ p. p.job.jname) (λ s p. refl) (λ e p. refl) f q;
  console = seen_alike (λ p. p.job.console) (λ s p. refl) (λ e p. refl) f q;
}

pub seen_pages : (f : Option Frame) (q : Whole) → pages_present (seen f q).core ≡ pages_present q.core
seen_pages f q =
    seen_alike (λ p. pages_present p.core) (λ s p. ap pages_present (stored_one p.core s) ∙ pages_present-store p.core (place s) s.word) (λ e p. refl) f q

pub seen_can_store : (f : Option Frame) (q : Whole) (a : ℕ) → can_store (seen f q).core a ≡ can_store q.core a
seen_can_store f q a =
    seen_alike (λ p. can_store p.core a) (λ s p. ap (λ c. can_store c a) (stored_one p.core s) ∙ can_store-store p.core (place s) a s.word) (λ e p. refl) f q

pub seen_present : (f : Option Frame) (q : Whole) (a : ℕ) → is_some (word_at (seen f q).core a) ≡ is_some (word_at q.core a)
seen_present f q a =
    seen_alike (λ p. is_some (word_at p.core a)) (λ s p. ap (λ c. is_some (word_at c a)) (stored_one p.core s)
    ∙ is_some-store p.core (place s) a s.word) (λ e p. refl) f q

page_stored_some : (p : Option Page) (i w : ℕ) → is_some (page_stored p i w) ≡ is_some p
page_stored_some (Some p) i w = refl
page_stored_some None i w = refl

pub seen_page : (f : Option Frame) (q : Whole) (k : ℕ) → is_some (page_of (seen f q).core k) ≡ is_some (page_of q.core k)
seen_page f q k =
    seen_alike (λ p. is_some (page_of p.core k)) (λ s p. ap (λ c. is_some (page_of c k)) (stored_one p.core s)
    ∙ page_alike is_some page_stored_some p.core (place s) s.word k) (λ e p. refl) f q

-- the pages of all jobs
core_pages : (f : Option Frame) (o : Option Whole) → pages_present (core_of (option_map (seen f) o)) ≡ pages_present (core_of o)
core_pages f None = refl
core_pages f (Some q) = seen_pages f q

pub mapped_plain : (w : State) → mapped (plain w) ≡ mapped w.raw
unfolding plain pages_mapped
mapped_plain w = λ t. sum_by (λ k. core_pages (w.frames k) (w.raw.jobs k) t) (range_with_len 0 slots)

-- to give a function a value that it has changes nothing
pub changed_same : {X : Type 0} (f : ℕ → X) (s k : ℕ) (x : X) → f s ≡ x → f k ≡ changed f s x k
changed_same f s k x e = elim (cases_eq k s) [
  | inl is ↦ rw (is, eq-eqb s s refl) e
  | inr ne ↦ rw (ne_eqb k s ne) refl
]

-- one slot of many
pub changed_only : {X : Type 0} (f : ℕ → X) (i : ℕ) (x : X) → Only f (changed f i x) i x
changed_only f i x = record { here = rw (eq-eqb i i refl); others = λ k ne. rw (ne_eqb k i ne) }

pub on_slot_here : {X : Type 0} (jobs : ℕ → Option X) (s : ℕ) (h : X → X) → on_slot jobs s h s ≡ option_map h (jobs s)
on_slot_here jobs s h = rw (eq-eqb s s refl)

pub on_slot_other : {X : Type 0} (jobs : ℕ → Option X) (s k : ℕ) (h : X → X) → k ≢ s → on_slot jobs s h k ≡ jobs k
on_slot_other jobs s k h ne = rw (ne_eqb k s ne)

pub on_slot_same : {X : Type 0} (jobs : ℕ → Option X) (s k : ℕ) → on_slot jobs s (λ q. q) k ≡ jobs k
on_slot_same jobs s k = go (k == s) (jobs k)
  where
    go : {X : Type 0} (b : Bool) (o : Option X) → (if b then option_map (λ q. q) o else o) ≡ o
    go true (Some q) = refl
    go true None = refl
    go false o = refl

-- jobs through their frames, if one job and its frame are changed
seen_here : (f f' : Option Frame) (h g : Whole → Whole) (o : Option Whole) → ((q : Whole) → o ≡ Some q → seen f' (h q) ≡ g (seen f q))
    → option_map (seen f') (option_map h o) ≡ option_map g (option_map (seen f) o)
seen_here f f' h g None e = refl
seen_here f f' h g (Some q) e = ap Some (e q refl)

pub jobs_is : (f f' : ℕ → Option Frame) (jobs : ℕ → Option Whole) (s : ℕ) (h g : Whole → Whole) → ((k : ℕ) → k ≢ s → f' k ≡ f k)
    → ((q : Whole) → jobs s ≡ Some q → seen (f' s) (h q) ≡ g (seen (f s) q))
    → (k : ℕ) → seen_jobs f' (on_slot jobs s h) k ≡ on_slot (seen_jobs f jobs) s g k
jobs_is f f' jobs s h g others here k = elim (cases_eq k s) [
  | inl e ↦ rw e (ap (option_map (seen (f' s))) (on_slot_here jobs s h) ∙ seen_here (f s) (f' s) h g (jobs s) here
      ∙ sym (on_slot_here (seen_jobs f jobs) s g))
  | inr ne ↦
      ap (option_map (seen (f' k))) (on_slot_other jobs s k h ne)
      ∙ ap (λ o. option_map (seen o) (jobs k)) (others k ne)
      ∙ sym (on_slot_other (seen_jobs f jobs) s k g ne)
]

pub turned : (w : State) (j : ℕ) (h g : Whole → Whole) (f : Option Frame) → ((q : Whole) → w.raw.jobs j ≡ Some q → seen f (h q) ≡ g (seen (w.frames j) q))
    → plain (with_slot w j h f) ≡ in_job (plain w) j g
unfolding plain
turned w j h g f e = jobs_are _ _ (jobs_is w.frames (changed w.frames j f) w.raw.jobs j h g (changed_only w.frames j f).others
    (λ q is. rw (changed_only w.frames j f).here (e q is))) refl
