use Rattle.std.proofs.Common.{ap}
use Rattle.its_records.specs.declared.state_line.StateLine.TheVariants as states
use Rattle.its_saving.proofs.jobs.head_of.Goals as goal

pub returns : goal.returns
returns c = ap (λ x. states.Job c.args.s c.args.job.now.uname c.args.job.now.jname x) c.console_of.ensures
