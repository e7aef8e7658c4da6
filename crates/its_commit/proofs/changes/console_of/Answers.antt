use Rattle.its_commit.proofs.ChangeLaws.{console_some, console_none}
use Rattle.its_commit.proofs.changes.console_of.Goals as goal

pub returns-in-Some : goal.returns-in-Some
returns-in-Some c = console_some c.args.w.now c.args.slot c.in-Some.job.now c.in-Some.ensures.job

pub returns-in-None : goal.returns-in-None
returns-in-None c = console_none c.args.w.now c.args.slot c.in-None.ensures.job
