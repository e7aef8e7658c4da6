-- A job of the stepped machine in user mode, and the result of a line there, as on its plain
-- machine.
use Rattle.std.specs.Prelude.{◌≡◌, ℕ, Option, Some, None, Result, Ok, Err, option_map, is_some, refl}
use Rattle.std.proofs.Common.{◌∙◌, ap, subst, inl, inr}
use Rattle.std.proofs.lemmas.Bool.{cases_eq, eq-eqb, ne_eqb}
use Rattle.its_records.specs.declared.session.Reason.{Reason}
use Rattle.its_frame.specs.declared.frame.Frame.{Frame}
use Rattle.its_plain.specs.Machine.{Whole, Machine, changed, with_job}
use Rattle.its_plain.specs.Operator.{and_then}
use Rattle.its_plain.specs.Operator.Files.{channels_of}
use Rattle.its_plain.proofs.MachineLaws.{jobs_are}
use Rattle.its_stepped.specs.State.{State, seen_jobs, plain}
use Rattle.its_stepped.specs.State as state
use Rattle.its_stepped.specs.Sound.{SoundBy, Sound}
use Rattle.its_stepped.specs.Lines.{with_raw}
use Rattle.its_stepped.proofs.Committing.EffectLaws.{channel_seen}

-- a job in user mode is itself
user_job : (f : Option Frame) (o : Option Whole) → f ≡ None → option_map (state.seen f) o ≡ o
unfolding state.seen
user_job f None e = refl
user_job f (Some q) e = ap (λ g. Some (state.seen g q)) e

pub job_here : (v : State) (s : ℕ) → v.frames s ≡ None → (plain v).jobs s ≡ v.raw.jobs s
unfolding plain
job_here v s e = user_job (v.frames s) (v.raw.jobs s) e

-- a job in user mode is put into a slot
pub job_put : (v : State) (s : ℕ) (q : Whole) (k : ℕ) → v.frames s ≡ None
    → seen_jobs v.frames (changed v.raw.jobs s (Some q)) k ≡ changed (seen_jobs v.frames v.raw.jobs) s (Some q) k
job_put v s q k e = elim (cases_eq k s) [
  | inl is ↦ rw (is, eq-eqb s s refl) (user_job (v.frames s) (Some q) e)
  | inr ne ↦ rw (ne_eqb k s ne) refl
]

pub put_plain : (v : State) (s : ℕ) (q : Whole) → v.frames s ≡ None → plain (with_raw v (with_job v.raw s q)) ≡ with_job (plain v) s q
unfolding plain
put_plain v s q e = jobs_are _ _ (λ k. job_put v s q k e) refl

-- a machine or a refusal, on the plain machine
abbrev pub lift : State → Result Machine Reason → Result Machine Reason
lift v (Ok m) = Ok (plain (with_raw v m))
lift v (Err r) = Err r

lift_again : (v : State) (n : Machine) (r : Result Machine Reason) → lift (with_raw v n) r ≡ lift v r
lift_again v n (Ok m) = refl
lift_again v n (Err r) = refl

-- what goes on after a result
pub then_lifted : (v : State) (r : Result Machine Reason) (f : Machine → Result Machine Reason)
    → ((n : Machine) → f (plain (with_raw v n)) ≡ lift (with_raw v n) (f n))
    → and_then (lift v r) f ≡ lift v (and_then r f)
then_lifted v (Ok n) f h = h n ∙ lift_again v n (f n)
then_lifted v (Err r) f h = refl

-- a slot has a job on both or on neither
pub some_alike : (f : Option Frame) (o : Option Whole) → is_some (option_map (state.seen f) o) ≡ is_some o
some_alike f (Some q) = refl
some_alike f None = refl

-- and the same channels
pub channels_plain : (v : State) → channels_of (plain v) ≡ channels_of v.raw
unfolding plain
channels_plain v = λ t k n. channel_seen (v.frames k) (v.raw.jobs k) n t

-- a slot without a job has no frame
empty_frame : (f : Option Frame) (r : Option ℕ) → SoundBy None f r → f ≡ None
empty_frame f r h = h.0

pub free_frame : (v : State) (s : ℕ) → Sound v → v.raw.jobs s ≡ None → v.frames s ≡ None
free_frame v s sound e = empty_frame (v.frames s) (v.reserved s) (subst (λ (o : Option Whole). SoundBy o (v.frames s) (v.reserved s)) e (sound.each s).by)
