use Rattle.std.proofs.Common.{sym, ◌∙◌}
use Rattle.std.proofs.lemmas.Result.{err_from_is_err_and}
use Rattle.its_world.proofs.StorageLaws.{has_job}
use Rattle.its_monitor.proofs.JobLineLaws.{calmed_elsewhere, tty_lands, tty_plain, tty_kept, tty_closed, tty_unfit}
use Rattle.its_monitor.proofs.monitor.Monitor.open_tty.Goals as goal

pub returns-in_err-closed-clause-refused : goal.returns-in_err-closed-clause-refused
returns-in_err-closed-clause-refused c =
    let p = err_from_is_err_and c.from_residual.result c.from_residual.ensures.1 in
    rw (p.1, p.2) (tty_closed c.args.self.now.world c.args.s c.args.n c.args.write c.requires.kept c.in_err-closed.field-0.0
    c.in_err-closed.ensures.refused)

pub returns-then-not-has_console-clause-refused : goal.returns-then-not-has_console-clause-refused
returns-then-not-has_console-clause-refused c = tty_unfit _ _ _ _ c.requires.kept _ c.requires.channel c.in_ok-closed.ensures.job
    c.in_ok-closed.ensures.closed c.has_console.ensures c.if-not-has_console.true

pub calm-requires-clause-some : goal.calm-requires-clause-some
calm-requires-clause-some c = has_job _ _ c.in_ok-closed.ensures.job

pub put_channel-requires-clause-old : goal.put_channel-requires-clause-old
put_channel-requires-clause-old c = calmed_elsewhere _ c.calm.new.w _ _ c.requires.kept c.calm.ensures c.in_ok-closed.ensures.closed

pub put_channel-requires-clause-tidy : goal.put_channel-requires-clause-tidy
put_channel-requires-clause-tidy c = c.calm.ensures.calm.kept.tidy

pub returns-clause-done : goal.returns-clause-done
returns-clause-done c = tty_lands _ c.calm.new.w _ _ c.requires.kept c.calm.ensures c.put_channel.new.self c.args.write c.tty.result
    c.requires.channel c.in_ok-closed.ensures.job c.in_ok-closed.ensures.closed (sym c.has_console.ensures ∙ c.if-not-has_console.false)
    (c.tty.ensures.on c.calm.new.w.files) c.put_channel.ensures.row

pub returns-clause-plain : goal.returns-clause-plain
returns-clause-plain c = tty_plain _ c.calm.new.w _ _ c.requires.kept c.calm.ensures c.put_channel.new.self c.args.write c.tty.result
    c.requires.channel c.in_ok-closed.ensures.job c.in_ok-closed.ensures.closed (sym c.has_console.ensures ∙ c.if-not-has_console.false)
    (c.tty.ensures.on c.calm.new.w.files) c.put_channel.ensures.row

pub returns-clause-kept : goal.returns-clause-kept
returns-clause-kept c = tty_kept _ c.calm.new.w _ _ c.requires.kept c.calm.ensures c.put_channel.new.self c.args.write c.tty.result
    c.requires.channel c.in_ok-closed.ensures.job c.in_ok-closed.ensures.closed (sym c.has_console.ensures ∙ c.if-not-has_console.false)
    (c.tty.ensures.on c.calm.new.w.files) c.put_channel.ensures.row c.put_channel.ensures.tidy
