use Rattle.std.proofs.lemmas.Result.{err_from_is_err_and}
use Rattle.its_monitor.proofs.ChannelLineLaws.{job_there, open_missing, open_taken, shut_there}
use Rattle.its_monitor.proofs.restoring_channels.closed.Goals as goal

pub returns-in_err-present-clause-refused : goal.returns-in_err-present-clause-refused
returns-in_err-present-clause-refused c =
    let p = err_from_is_err_and c.from_residual.result c.from_residual.ensures.1 in
    rw (p.1, p.2) (open_missing c.args.w.now c.args.s c.args.n c.requires.channel _ c.in_err-present.ensures.refused)

pub returns-in-Closed-clause-job : goal.returns-in-Closed-clause-job
returns-in-Closed-clause-job c = job_there c.args.w.now c.args.s c.in_ok-present.ensures.some

pub returns-in-Closed-clause-closed : goal.returns-in-Closed-clause-closed
returns-in-Closed-clause-closed c = shut_there c.args.w.now c.args.s c.args.n c.in-Closed.ensures

pub returns-in_default : goal.returns-in_default
returns-in_default c = record {
  some = tt;
  job = tt;
  closed = tt;
  refused = open_taken c.args.w.now c.args.s c.args.n c.requires.channel c.channel.result c.in_ok-present.ensures.some c.channel.ensures
      c.in_default.not-Closed;
}
