use Rattle.std.proofs.Common.{sym, ◌∙◌}
use Rattle.its_direct.proofs.RemovalLaws.{superiors_are}
use Rattle.its_direct.proofs.plain.Plain.superior.Goals as goal

pub returns : goal.returns
returns c = c.superior.ensures.value ∙ (λ i. sym (superiors_are c.args.self.now c.tree.ensures) i c.args.s)
