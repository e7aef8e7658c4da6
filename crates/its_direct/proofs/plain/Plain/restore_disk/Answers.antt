use Rattle.its_direct.proofs.RestoringLaws.{disk_done}
use Rattle.its_direct.proofs.plain.Plain.restore_disk.Goals as goal

pub returns-clause-done : goal.returns-clause-done
returns-clause-done c =
    disk_done c.args.self.now c.args.s c.args.n c.requires.channel c.in_ok-closed.ensures.job c.in_ok-closed.ensures.closed _
    c.open_file.new.self c.move_to.new.self c.touch_only.new.self c.args.d c.args.x c.args.y c.args.at c.within.ensures c.has_file.ensures
    c.if-not-has_file.false c.open_file.ensures.row c.move_to.ensures.row c.touch_only.ensures
