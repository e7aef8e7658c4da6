use Rattle.its_direct.proofs.RestoringLaws.{usr_done}
use Rattle.its_direct.proofs.plain.Plain.restore_usr.Goals as goal

pub returns-clause-done : goal.returns-clause-done
returns-clause-done c =
    usr_done c.args.self.now c.args.s c.args.n c.requires.channel c.in_ok-closed.ensures.job c.in_ok-closed.ensures.closed _
    c.open_channel.new.self c.move_to.new.self c.touch_only.new.self c.args.t _ c.args.at c.args.write c.within.ensures c.is_inferior.ensures
    c.if-not-is_inferior.false c.number-slot.ensures.value c.open_channel.ensures.row c.move_to.ensures.row c.touch_only.ensures
