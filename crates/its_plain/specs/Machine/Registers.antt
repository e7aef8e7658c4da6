-- A job's registers: the PC word, and the bits of pending word 1 (docs/MACHINE.md, "Interrupts").
-- A promise rests on this.
use Rattle.std.specs.Prelude.{ℕ, bit_or}
use Rattle.its_records.specs.declared.jobs.Job.{Job}
pub use Rattle.its_word.specs.Flags.{named_flags, pc_word, flags_of, bit_of, BRK, ILO, MPV, WRO, IOC, TBL, PDL, INF, ALR, FATAL}

-- the job with more bits of pending word 1 set
abbrev pub with_pending : Job → ℕ → Job
with_pending j bits = record j { pend1 = bit_or j.pend1 bits }
