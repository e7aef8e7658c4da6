use Rattle.its_plain.specs.Machine.Own.{names_of}
use Rattle.its_world.specs.World.{state_of}
use Rattle.its_monitor.proofs.ChannelLineLaws.{draft_lands, draft_shut}
use Rattle.its_monitor.proofs.restoring_channels.put_draft.Goals as goal

pub open_draft-requires-clause-job : goal.open_draft-requires-clause-job
open_draft-requires-clause-job c = let a = c.args in (draft_shut (state_of a.w.now) a.s a.n (names_of a.d a.x a.y) c.requires.can).job

pub open_draft-requires-clause-closed : goal.open_draft-requires-clause-closed
open_draft-requires-clause-closed c = let a = c.args in (draft_shut (state_of a.w.now) a.s a.n (names_of a.d a.x a.y) c.requires.can).closed

pub returns-clause-done : goal.returns-clause-done
returns-clause-done c =
    let a = c.args in
    draft_lands (state_of a.w.now) (state_of c.open_draft.new.self) a.s a.n a.d a.x a.y c.requires.can c.open_draft.ensures.row
