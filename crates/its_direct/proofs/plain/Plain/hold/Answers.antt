use Rattle.its_direct.proofs.LoadLaws.{held_keeps}
use Rattle.its_direct.proofs.plain.Plain.hold.Goals as goal

pub returns-in-Some-clause-row : goal.returns-in-Some-clause-row
returns-in-Some-clause-row c = held_keeps c.args.self.now c.args.slot c.args.c _ _ c.holder.ensures c.in-Some.is
