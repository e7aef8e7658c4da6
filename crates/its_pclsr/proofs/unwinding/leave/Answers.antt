use Rattle.std.proofs.Common.{sym, ◌∙◌}
use Rattle.its_commit.proofs.TidyLaws.{tidy_left}
use Rattle.its_pclsr.proofs.unwinding.leave.Goals as goal

pub returns-in-Some-clause-tidy : goal.returns-in-Some-clause-tidy
returns-in-Some-clause-tidy c = tidy_left _ _ _ _ _ c.in-Some.job (sym c.in-Some.is ∙ c.registers.ensures) c.left_with.ensures
    c.put_registers.ensures c.requires.tidy
