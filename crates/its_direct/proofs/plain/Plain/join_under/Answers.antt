use Rattle.its_direct.proofs.RestoringLaws.{under_done}
use Rattle.its_direct.proofs.plain.Plain.join_under.Goals as goal

pub returns-clause-done : goal.returns-clause-done
returns-clause-done c =
    under_done c.args.self.now c.args.s c.args.t c.requires.job c.requires.above c.requires.none _ c.is_at_or_above.ensures c.put_under.new.self
    c.touch_only.new.self c.within.ensures c.if-is_at_or_above.false c.put_under.ensures.row c.touch_only.ensures
