use Rattle.std.proofs.Common.{◌∙◌, ap, sym}
use Rattle.its_records.specs.declared.jobs.Job.{Job}
use Rattle.its_commit.proofs.TidyLaws.{tidy_put}
use Rattle.its_tick.proofs.user_mode.put_back.Goals as goal

pub returns-in-Some-clause-tidy : goal.returns-in-Some-clause-tidy
returns-in-Some-clause-tidy c =
    tidy_put _ _ _ _ c.in-Some.now _ _ _ (sym c.registers.ensures ∙ c.in-Some.is) (ap (λ (j : Job). j.channels) c.with_channels.ensures)
    c.put_registers.ensures c.requires.tidy
