-- What a call looks at is the same on the raw machine and on the plain one, if the job that it
-- reaches into is in user mode and no close is half made. So it may be decided on raw jobs.
use Rattle.std.specs.Prelude.{if◌then◌else◌, ◌==◌, ◌≡◌, ℕ, false, Option, Some, None, [], ◌∷◌, ◌++◌, option_map, refl}
use Rattle.std.proofs.Common.{◌∙◌, ap}
use Rattle.its_records.specs.Tree.{slots_below}
use Rattle.its_records.specs.declared.calls.Ask.{Ask}
use Rattle.its_frame.specs.declared.frame.Frame.{Frame}
use Rattle.its_frame.specs.declared.name.CallName.{CallName}
use Rattle.its_frame.specs.declared.name.CallName.TheVariants.{Logout, Uclose}
use Rattle.its_frame.specs.declared.name.OnFiles.{OnFiles}
use Rattle.its_frame.specs.declared.name.OnFiles.TheVariants.{ByChannel}
use Rattle.its_plain.specs.Machine.{Whole, Machine, limit}
use Rattle.its_plain.specs.Machine.Change.{superiors}
use Rattle.its_plain.specs.Call.Arguments.{input}
use Rattle.its_plain.specs.Machine.View.{outline, job_at, view}
use Rattle.its_plain.specs.Call.Basic.{is_oneself, channel_at}
use Rattle.its_plain.specs.Call.Decide.{call_row, call_named, decided, inferior_on, target_by, argument_of, target, listed, with_below, reach_by, reach}
use Rattle.its_plain.specs.Call.Step.{decision}
use Rattle.its_stepped.specs.State.{State, after_help, seen, plain}
use Rattle.its_stepped.specs.Tick.{is_disk, is_on_files, helps_by, helps}
use Rattle.its_stepped.specs.Quiet.{IsStill}
use Rattle.its_stepped.proofs.Frame.FrameLaws.{seen_superior, seen_channels, seen_names, SameNames, mapped_plain}
use Rattle.its_stepped.proofs.Committing.EffectLaws.{still_seen, superiors_plain, unmarked_files}

-- nothing is pending for the job that a call reaches into
abbrev pub StillAt : State → Option ℕ → Type 0
StillAt w (Some s) = IsStill (w.frames s)
StillAt w None = Unit {0}

still_job : (f : Option Frame) (o : Option Whole) → IsStill f → option_map (seen f) o ≡ o
still_job f None h = refl
still_job f (Some q) h = ap Some (still_seen f q h)

other_plain : (w : State) (t : Option ℕ) → StillAt w t → job_at (plain w) t ≡ job_at w.raw t
unfolding plain
other_plain w (Some s) h = still_job (w.frames s) (w.raw.jobs s) h
other_plain w None h = refl

outline_alike : (p q : Whole) → SameNames p q → p.superior ≡ q.superior → p.channels ≡ q.channels → outline p ≡ outline q
outline_alike p q names superior channels = λ t. record { uname = names.uname t; jname = names.jname t; superior = superior t; channels = channels t }

outline_seen : (f : Option Frame) (o : Option Whole) → option_map outline (option_map (seen f) o) ≡ option_map outline o
outline_seen f None = refl
outline_seen f (Some q) = ap Some (outline_alike (seen f q) q (seen_names f q) (seen_superior f q) (seen_channels f q))

-- except for the directory, which has the pending parts of a marked close
pub view_plain : (w : State) (j : ℕ) (own : Whole) (t : Option ℕ) → StillAt w t
    → view (plain w) j own t ≡ record (view w.raw j own t) { files = (plain w).files }
unfolding view plain
view_plain w j own t h = λ i. record {
  slot = j;
  own = own;
  other = other_plain w t h i;
  outlines = λ k. outline_seen (w.frames k) (w.raw.jobs k) i;
  pages = mapped_plain w i;
  consoles = w.raw.consoles;
  holders = w.raw.holders;
  files = after_help w.mark w.raw.files;
  clock = w.raw.clock;
  limit = limit w.raw;
  links = w.raw.links;
}

pub view_unmarked : (w : State) (j : ℕ) (own : Whole) (t : Option ℕ) → StillAt w t → w.mark ≡ None → view (plain w) j own t ≡ view w.raw j own t
unfolding view
view_unmarked w j own t h e = view_plain w j own t h ∙ ap (λ fs. record (view w.raw j own t) { files = fs }) (unmarked_files w e)

pub decision_plain : (w : State) (j : ℕ) (own : Whole) (a : Ask) → StillAt w (target own a) → w.mark ≡ None
    → decision (plain w) j own a ≡ decision w.raw j own a
unfolding decision
decision_plain w j own a h e = ap (λ v. decided v a) (view_unmarked w j own (target own a) h e)

-- what a call reaches, and whether it helps, is read off channels and superiors alone
target_by_alike : (p q : Whole) (a : Ask) (o : Option ℕ) → p.channels ≡ q.channels → target_by p a o ≡ target_by q a o
target_by_alike p q a (Some k) e = ap (λ cs. if is_oneself (input a k) then None else inferior_on (channel_at cs (input a k))) e
target_by_alike p q a None e = refl

pub target_alike : (p q : Whole) (a : Ask) → p.channels ≡ q.channels → target p a ≡ target q a
unfolding target
target_alike p q a e = ap (λ o. if a.fail == 0 then o else None) (target_by_alike p q a (argument_of (call_named a.name)) e)

pub target_seen : (f : Option Frame) (q : Whole) (a : Ask) → target (seen f q) a ≡ target q a
target_seen f q a = target_alike (seen f q) q a (seen_channels f q)

below_alike : (m n : Machine) (o : Option ℕ) → superiors m ≡ superiors n → with_below m o ≡ with_below n o
below_alike m n (Some s) e = ap (λ sup. slots_below sup s ++ s ∷ []) e
below_alike m n None e = refl

reach_by_alike : (m n : Machine) (j : ℕ) (p q : Whole) (a : Ask) (c : Option CallName) → superiors m ≡ superiors n → p.superior ≡ q.superior
    → target p a ≡ target q a
    → reach_by m j p a c ≡ reach_by n j q a c
reach_by_alike m n j p q a (Some Logout) sup s t = (λ i. slots_below (sup i) j ++ listed (s i))
reach_by_alike m n j p q a (Some Uclose) sup s t = below_alike m n (target p a) sup ∙ ap (with_below n) t
reach_by_alike m n j p q a _ sup s t = ap listed t

pub reach_plain : (w : State) (j : ℕ) (f : Option Frame) (q : Whole) (a : Ask) → reach (plain w) j (seen f q) a ≡ reach w.raw j q a
unfolding reach
reach_plain w j f q a =
    ap (λ ks. if a.fail == 0 then ks else [])
    (reach_by_alike (plain w) w.raw j (seen f q) q a (call_named a.name) (superiors_plain w) (seen_superior f q) (target_seen f q a))

files_alike : (p q : Whole) (a : Ask) (f : OnFiles) → p.channels ≡ q.channels → is_on_files p a f ≡ is_on_files q a f
files_alike p q a ByChannel e = ap (λ cs. is_disk (channel_at cs (input a 0))) e
files_alike p q a _ e = refl

helps_by_alike : (p q : Whole) (a : Ask) (c : Option CallName) → p.channels ≡ q.channels → helps_by p a c ≡ helps_by q a c
helps_by_alike p q a (Some n) e = files_alike p q a (call_row n).files e
helps_by_alike p q a None e = refl

pub helps_seen : (f : Option Frame) (q : Whole) (a : Ask) → helps (seen f q) a ≡ helps q a
unfolding helps
helps_seen f q a = ap (λ b. if a.fail == 0 then b else false) (helps_by_alike (seen f q) q a (call_named a.name) (seen_channels f q))
