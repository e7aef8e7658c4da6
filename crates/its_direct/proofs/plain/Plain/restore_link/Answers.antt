use Rattle.its_direct.proofs.RestoringLaws.{link_done}
use Rattle.its_direct.proofs.plain.Plain.restore_link.Goals as goal

pub returns-clause-done : goal.returns-clause-done
returns-clause-done c =
    link_done c.args.self.now c.args.s c.args.n c.requires.channel c.in_ok-closed.ensures.job c.in_ok-closed.ensures.closed _
    c.join.new.self c.touch_only.new.self c.args.l c.args.x c.args.y c.args.write c.within.ensures c.requires.link c.can_join.ensures
    c.if-not-can_join.false c.join.ensures.row c.touch_only.ensures
