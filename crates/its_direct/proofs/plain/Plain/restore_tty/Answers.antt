use Rattle.its_direct.proofs.RestoringLaws.{tty_done}
use Rattle.its_direct.proofs.plain.Plain.restore_tty.Goals as goal

pub returns-clause-done : goal.returns-clause-done
returns-clause-done c =
    tty_done c.args.self.now c.args.s c.args.n c.requires.channel c.in_ok-closed.ensures.job c.in_ok-closed.ensures.closed _
    c.open_channel.new.self c.touch_only.new.self c.args.write c.tty_end.result c.within.ensures c.has_console.ensures
    c.if-not-has_console.false c.tty_end.ensures.on c.open_channel.ensures.row c.touch_only.ensures
