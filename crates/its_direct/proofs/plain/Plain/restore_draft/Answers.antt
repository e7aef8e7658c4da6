use Rattle.its_direct.proofs.RestoringLaws.{draft_done}
use Rattle.its_direct.proofs.plain.Plain.restore_draft.Goals as goal

pub returns-clause-done : goal.returns-clause-done
returns-clause-done c =
    draft_done c.args.self.now c.open_draft.new.self c.touch_only.new.self c.args.s c.args.n c.args.d c.args.x c.args.y c.requires.channel
    c.in_ok-closed.ensures.job c.in_ok-closed.ensures.closed c.within.ensures c.open_draft.ensures.row c.touch_only.ensures
