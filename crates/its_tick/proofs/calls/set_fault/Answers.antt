use Rattle.std.proofs.Common.{◌∙◌, refl, sym}
use Rattle.its_commit.proofs.TidyLaws.{tidy_put}
use Rattle.its_tick.proofs.calls.set_fault.Goals as goal

pub returns-in-Some-clause-tidy : goal.returns-in-Some-clause-tidy
returns-in-Some-clause-tidy c = tidy_put _ _ _ _ c.in-Some.job _ _ _ (sym c.registers.ensures ∙ c.in-Some.is) refl c.put_registers.ensures c.requires.tidy
