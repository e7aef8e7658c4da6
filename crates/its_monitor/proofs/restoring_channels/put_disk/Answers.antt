use Rattle.its_world.specs.World.{state_of}
use Rattle.its_monitor.proofs.ChannelLineLaws.{disk_file, disk_lands, disk_shut}
use Rattle.its_monitor.proofs.restoring_channels.put_disk.Goals as goal

pub open_file-requires-clause-job : goal.open_file-requires-clause-job
open_file-requires-clause-job c = let a = c.args in (disk_shut (state_of a.w.now) a.s a.n a.d a.x a.y a.at c.requires.can).job

pub open_file-requires-clause-closed : goal.open_file-requires-clause-closed
open_file-requires-clause-closed c = let a = c.args in (disk_shut (state_of a.w.now) a.s a.n a.d a.x a.y a.at c.requires.can).closed

pub open_file-requires-clause-file : goal.open_file-requires-clause-file
open_file-requires-clause-file c = let a = c.args in disk_file (state_of a.w.now) a.s a.n a.d a.x a.y a.at c.requires.can

pub returns-clause-done : goal.returns-clause-done
returns-clause-done c =
    let a = c.args in
    disk_lands (state_of a.w.now) (state_of c.open_file.new.self) (state_of c.move_to.new.self) a.s a.n a.d a.x a.y a.at c.requires.can
    c.open_file.ensures.row c.move_to.ensures.row
