-- One step of unwinding changes, beside the frame of its slot, at most one small thing: a word of
-- core, a reserved page's place, a part of a marked close, or the registers (docs/STEPS.md,
-- "Unwinding").
-- No promise rests on this.
use Rattle.std.specs.Prelude.{◌≡◌, ℕ, Some, None, List, [], ◌∷◌}
use Rattle.its_records.specs.declared.calls.Exit.{Exit}
use Rattle.its_word.specs.declared.plan.Store.{Store}
use Rattle.its_plain.specs.Machine.{changed}
use Rattle.its_plain.specs.Machine.Own.{with_stores, after_leave}
use Rattle.its_plain.specs.Machine.Change.{in_job}
use Rattle.its_stepped.specs.State.{Part, Mark, State, after_part}
use Rattle.its_stepped.specs.Unwind.{rest_marked}

pub data OneChange (w v : State) (j : ℕ) : Type 0 where
  FrameAlone : v ≡ record w { frames = v.frames } → OneChange w v j
  OneWord : (s : Store) → v ≡ record w { raw = in_job w.raw j (with_stores (s ∷ [])); frames = v.frames } → OneChange w v j
  OnePage : v ≡ record w { frames = v.frames; reserved = changed w.reserved j None } → OneChange w v j
  OnePart : (m : Mark) (p : Part) (ps : List Part) → w.mark ≡ Some m → m.parts ≡ p ∷ ps
      → v ≡ record w { raw = record w.raw { files = after_part m.draft p w.raw.files }; frames = v.frames; mark = rest_marked m ps } → OneChange w v j
  Registers : (e : Exit) → v ≡ record w { raw = in_job w.raw j (after_leave e); frames = v.frames } → OneChange w v j
