use Rattle.std.specs.Prelude.{Some}
use Rattle.std.proofs.Common.{sym, ◌∙◌}
use Rattle.its_word.specs.Limits.{slots}
use Rattle.its_records.specs.Tree.{climbs_to}
use Rattle.its_direct.proofs.RemovalLaws.{superiors_are}
use Rattle.its_direct.proofs.plain.Plain.is_at_or_above.Goals as goal

pub returns : goal.returns
returns c = c.is_at_or_above.ensures ∙ (λ i. climbs_to (sym (superiors_are c.args.self.now c.tree.ensures) i) c.args.s slots (Some c.args.t))
