use Rattle.std.proofs.Common.{sym, ◌∙◌}
use Rattle.its_saving.proofs.WritingLaws.{turn_none, turn_some}
use Rattle.its_saving.proofs.saving.write_turn.Goals as goal

pub returns-then-is_none : goal.returns-then-is_none
returns-then-is_none g c = turn_none _ _ _ _ c.args.last (sym c.is_none.ensures ∙ c.if-is_none.true)

pub returns : goal.returns
returns g c = turn_some _ _ _ _ _ c.args.last (sym c.is_none.ensures ∙ c.if-is_none.false) c.write_line.ensures
