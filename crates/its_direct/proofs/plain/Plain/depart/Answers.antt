use Rattle.its_direct.proofs.ActLaws.{departed_can, departed}
use Rattle.its_direct.proofs.plain.Plain.depart.Goals as goal

pub apply-requires-clause-can : goal.apply-requires-clause-can
apply-requires-clause-can c = departed_can _ _ c.args.slot c.args.changes.now c.remove.ensures.row.machine c.requires.can

pub returns-clause-row : goal.returns-clause-row
returns-clause-row c = departed c.args.self.now _ _ c.args.slot c.args.changes.now c.remove.ensures.row c.apply.ensures.row
