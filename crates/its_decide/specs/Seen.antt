-- The machine of which a caller sees the parts, and the raw job of a slot.
-- No promise rests on this.
use Rattle.std.specs.Prelude.{ℕ}
use Rattle.its_records.specs.declared.jobs.Job.{Job}
use Rattle.its_core.specs.Cores.{core_at}
use Rattle.its_jobs.specs.Table.{superior_at}
use Rattle.its_plain.specs.Machine.{Machine, Whole}
use Rattle.its_shared.specs.Parts.{alarm_at, bare, chans_of, raw_machine}
use Rattle.its_decide.specs.declared.caller.Seen.{Seen}

abbrev pub machine_seen : Seen → Machine
machine_seen s = raw_machine s.files.now s.core.now s.jobs.now s.alarms.now.items s.consoles.now.items s.holders.now s.clock s.version s.symbols.now.items s.pipes.now

-- the raw job of a slot with these registers
abbrev pub raw_with : Seen → ℕ → Job → Whole
raw_with s k j = record {
  core = core_at s.core.now k;
  job = bare j;
  superior = superior_at s.jobs.now k;
  channels = chans_of s.files.now j;
  alarm = alarm_at s.alarms.now.items k;
}
