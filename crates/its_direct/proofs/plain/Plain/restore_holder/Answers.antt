use Rattle.its_direct.proofs.RestoringLaws.{holder_done}
use Rattle.its_direct.proofs.plain.Plain.restore_holder.Goals as goal

pub returns-in-None-clause-done : goal.returns-in-None-clause-done
returns-in-None-clause-done c =
    holder_done c.args.self.now c.args.c c.args.s c.in_ok-present.ensures.job _ c.holder.ensures c.give.new.self c.touch_none.new.self _ c.in-None.is
    c.number.ensures.value c.give.ensures.row c.touch_none.ensures
