use Rattle.its_direct.proofs.RestoringLaws.{end_done}
use Rattle.its_direct.proofs.plain.Plain.restore_end.Goals as goal

pub returns-clause-done : goal.returns-clause-done
returns-clause-done c =
    end_done c.args.self.now c.args.l _ c.has_link.ensures c.if-not-has_link.false c.args.write _ c.has_unopened.ensures c.close_unopened.new.self
    c.touch_none.new.self c.if-not-has_unopened.false c.close_unopened.ensures.row c.touch_none.ensures
