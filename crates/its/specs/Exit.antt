-- The exit statuses (docs/SESSION.md, "The program").
-- No promise rests on this.
use Rattle.std.specs.Prelude.{ℕ}
use Rattle.its_top.specs.declared.commands.status.Status.{Status}
use Rattle.its_top.specs.declared.commands.status.Status.TheVariants.{Done, Usage, Refused, ReadFault, WriteFault, NoMemory, TooLong}

abbrev pub exit_status : Status → ℕ
exit_status Done = 0
exit_status Usage = 1
exit_status Refused = 2
exit_status ReadFault = 3
exit_status WriteFault = 4
exit_status NoMemory = 5
exit_status TooLong = 6
