use Rattle.std.proofs.Common.{◌∙◌}
use Rattle.its_commit.proofs.ChangeLaws.{variable_missing, variable_tidy}
use Rattle.its_commit.proofs.changes.set.Goals as goal

pub returns-in_default-clause-row : goal.returns-in_default-clause-row
returns-in_default-clause-row c = variable_missing _ _ _ _ _ (c.copied.ensures ∙ c.numbered.ensures.job) c.in_default.is

pub returns-in-Some-clause-tidy : goal.returns-in-Some-clause-tidy
returns-in-Some-clause-tidy c =
    variable_tidy c.args.w.now _ c.args.slot _ _ _ c.in-Some.job _ (c.copied.ensures ∙ c.numbered.ensures.job) c.in-Some.is
    c.with_variable.ensures (rw c.new.ensures at c.put_registers.ensures) c.requires.tidy
