use Rattle.std.proofs.Common.{sym, true}
use Rattle.its_records.specs.declared.jobs.Channel.TheVariants.{Usr}
use Rattle.its_commit.proofs.IdleLaws.{elsewhere_opened}
use Rattle.test_decisions.proofs.removals.open_on.Goals as goal

pub returns-in-Some-clause-jobs : goal.returns-in-Some-clause-jobs
returns-in-Some-clause-jobs c = elsewhere_opened c.args.jobs.now c.args.k c.in-Some.job.now _ (Usr c.args.slot true 16) c.within.ensures
    (sym c.in-Some.ensures.value) c.opened.ensures tt c.requires.jobs
