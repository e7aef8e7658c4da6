use Rattle.std.proofs.Common.{sym, ◌∙◌}
use Rattle.its_commit.proofs.ChangeLaws.{armed_missing}
use Rattle.its_commit.proofs.changes.arm.Goals as goal

pub returns-else-is_some-clause-row : goal.returns-else-is_some-clause-row
returns-else-is_some-clause-row c = armed_missing c.args.w.now c.args.slot c.args.alarm c.registers.result c.registers.ensures
    (sym c.is_some.ensures ∙ c.if-is_some.false)
