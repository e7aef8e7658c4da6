-- All jobs unwound, slot by slot, and the pending parts of a close performed: the raw machine is
-- the plain one then.
use Rattle.std.specs.Prelude.{◌≡◌, ◌<◌, ◌≤◌, ◌+◌, ◌≢◌, ℕ, Option, Some, None, option_map, refl}
use Rattle.std.proofs.Common.{sym, ◌∙◌, ap, inl, inr, arith}
use Rattle.std.proofs.lemmas.Bool.{cases_eq, cases_lt}
use Rattle.its_word.specs.Limits.{slots}
use Rattle.its_frame.specs.declared.frame.Frame.{Frame}
use Rattle.its_plain.specs.Machine.{Whole}
use Rattle.its_plain.proofs.MachineLaws.{machine_is}
use Rattle.its_stepped.specs.SlotSame.{SlotSame}
use Rattle.its_stepped.specs.State.{State, seen, plain}
use Rattle.its_stepped.specs.Unwind.{help}
use Rattle.its_stepped.proofs.Committing.EffectLaws.{unmarked_files}
use Rattle.its_stepped.proofs.Committing.HelpLaws.{help_others, help_unmarked}
use Rattle.its_stepped.proofs.Keeping.ForestLaws.{forest_few}
use Rattle.its_stepped.proofs.Lining.LiftLaws.{job_here, free_frame}
use Rattle.its_world.specs.World.{state_of}
use Rattle.its_world.specs.declared.world.World.{World}
use Rattle.its_monitor.specs.Kept.{Kept, Helped}
use Rattle.its_monitor.specs.Settled.{IsSettled}

-- the slots below one are in user mode, and this one too
pub unwound_next : (mid new : World) (n : ℕ) → ((k : ℕ) → k < n → (state_of mid).frames k ≡ None) → (state_of new).frames n ≡ None
    → ((k : ℕ) → k ≢ n → SlotSame (state_of mid) (state_of new) k) → (k : ℕ) → k < n + 1 → (state_of new).frames k ≡ None
unwound_next mid new n below here others k l = elim (cases_eq k n) [
  | inl is ↦ ap (state_of new).frames is ∙ here
  | inr ne ↦ (others k ne).frame ∙ below k (omega arith)
]

-- a slot past the last has no job, and so no frame
bare_by : (f : Option Frame) (o : Option Whole) → option_map (seen f) o ≡ None → o ≡ None
bare_by f (Some q) e = cc
bare_by f None e = refl

bare_raw : (v : State) (k : ℕ) → (plain v).jobs k ≡ None → v.raw.jobs k ≡ None
unfolding plain
bare_raw v k e = bare_by (v.frames k) (v.raw.jobs k) e

pub unwound_each : (w : World) (n : ℕ) → slots ≤ n → Kept w → ((k : ℕ) → k < n → (state_of w).frames k ≡ None) → (k : ℕ)
    → (state_of w).frames k ≡ None
unwound_each w n all kept below k = elim (cases_lt k slots) [
  | inl l ↦ below k (omega arith)
  | inr past ↦ free_frame (state_of w) k kept.sound (bare_raw (state_of w) k (forest_few (plain (state_of w)) kept.forest k past))
]

-- nothing is half done
raw_plain : (v : State) → ((k : ℕ) → v.frames k ≡ None) → v.mark ≡ None → v.raw ≡ plain v
unfolding plain
raw_plain v none unmarked = machine_is _ _ (λ k. sym (job_here v k (none k))) (λ k. refl) (λ k. refl) (sym (unmarked_files v unmarked)) refl refl
    (λ k. refl) (λ k. refl)

helped_frame : (v : State) (k : ℕ) → v.frames k ≡ None → (help v).frames k ≡ None
helped_frame v k e = (help_others v k).frame ∙ e

pub settled_is : (mid new : World) → ((k : ℕ) → (state_of mid).frames k ≡ None) → Helped mid new → IsSettled (state_of new)
settled_is mid new none h =
    let frames : (k : ℕ) → (state_of new).frames k ≡ None =
    λ k. ap (λ (v : State). v.frames k) h.state ∙ helped_frame (state_of mid) k (none k) in
    let mark : (state_of new).mark ≡ None = ap (λ (v : State). v.mark) h.state ∙ help_unmarked (state_of mid) in
    record { frames = frames; mark = mark; machine = raw_plain (state_of new) frames mark }
