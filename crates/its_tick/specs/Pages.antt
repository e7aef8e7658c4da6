-- In which page frames pages are after a tick, and which page frames are free. No state says it:
-- two worlds that differ in this alone have the same state.
-- No promise rests on this.
use Rattle.std.specs.Prelude.{if◌then◌else◌, ℕ, Bool, true, false, Option, Some, None, nat_lt}
use Rattle.its_records.specs.declared.calls.Ask.{Ask}
use Rattle.its_core.specs.Frames.{Frames, frames_reserve}
use Rattle.its_frame.specs.declared.frame.Frame.{Frame}
use Rattle.its_frame.specs.declared.frame.Frame.TheVariants.{Entered, Parsed, Asked, Holding, Waiting, Moving, Ending}
use Rattle.its_plain.specs.Call.Step.{decision, informed_slots}
use Rattle.its_plain.specs.Call.Decide.{reach}
use Rattle.its_plain.specs.Unit.Interrupt.{deliverable, delivered}
use Rattle.its_plain.specs.Machine.{Whole}
use Rattle.its_stepped.specs.State.{State}
use Rattle.its_stepped.specs.Tick.{after_help_if, helps, quarters, reserves}
use Rattle.its_stepped.specs.Unwind.{all_unwound, unwind_one}
use Rattle.its_world.specs.World.{frames_after}
use Rattle.its_commit.specs.Pages.{pages_carried}
use Rattle.its_pclsr.specs.Pages.{pages_unwound}

-- a call is tried: those that it reaches are unwound, and its decision is then carried out
abbrev pub pages_tried : State → ℕ → Whole → Ask → Frames → Frames
pages_tried w j q a f =
    let v = after_help_if (helps q a) (all_unwound (reach w.raw j q a) w) in pages_carried (decision v.raw j q a) j v (pages_unwound (reach w.raw j q a) w f)

abbrev pub pages_held : State → ℕ → Whole → Ask → Option ℕ → Frames → Frames
pages_held w j q a None f = pages_tried w j q a f
pages_held w j q a (Some p) f = if nat_lt p quarters then f else pages_tried w j q a f

-- in user mode a superior in which INF is set is unwound first
abbrev pub pages_user : State → ℕ → Whole → Bool → Frames → Frames
pages_user w j q true f = pages_unwound (informed_slots (delivered q.core q.job).stops q.superior) w f
pages_user w j q false f = f

abbrev pub pages_in : State → ℕ → Whole → Option Frame → Frames → Frames
pages_in w j q None f = pages_user w j q (deliverable q.job) f
pages_in w j q (Some (Entered g)) f = f
pages_in w j q (Some (Parsed g)) f = f
pages_in w j q (Some (Asked g)) f = if reserves g.ask then frames_reserve j f else f
pages_in w j q (Some (Holding g)) f = pages_held w j q g.ask g.page f
pages_in w j q (Some (Waiting g)) f = pages_tried w j q g.ask f
pages_in w j q (Some (Moving g)) f = frames_after (w.reserved j) ((unwind_one w j).reserved j) j f
pages_in w j q (Some (Ending g)) f = frames_after (w.reserved j) ((unwind_one w j).reserved j) j f

abbrev pub pages_unless : State → ℕ → Whole → Bool → Frames → Frames
pages_unless w j q true f = f
pages_unless w j q false f = pages_in w j q (w.frames j) f

abbrev pub pages_of : State → ℕ → Option Whole → Frames → Frames
pages_of w j (Some q) f = pages_unless w j q q.job.stopped f
pages_of w j None f = f

-- after a tick of slot j
unfoldable pub pages_ticked : State → ℕ → Frames → Frames
pages_ticked w j f = pages_of w j (w.raw.jobs j) f
