-- What a USRVAR finds in the job into which it reaches.
use Rattle.std.specs.Prelude.{◌≡◌, ℕ, Some, None}
use Rattle.std.proofs.Common.{sym, ap}
use Rattle.its_records.specs.declared.jobs.Job.{Job}
use Rattle.its_frame.specs.declared.variable.Variable.{Variable}
use Rattle.its_jobs.specs.Table.{job_at}
use Rattle.its_plain.specs.Call.Basic.{value_of_other}
use Rattle.its_plain.specs.Machine.Own.{variable_of}
use Rattle.its_world.specs.World.{raw_at}
use Rattle.its_world.specs.declared.world.World.{World}
use Rattle.its_world.proofs.StateLaws.{raw_none, raw_some}
use Rattle.call_basic.specs.Seen.{raw_with}

pub value_some : (w : World) (s : ℕ) (x : Variable) (j : Job) → job_at w.jobs s ≡ Some j
    → variable_of s (raw_with w s j) x ≡ value_of_other s x (raw_at w.files w.core w.jobs w.alarms.items s)
value_some w s x j h = ap (value_of_other s x) (sym (raw_some w s j h))

pub value_none : (w : World) (s : ℕ) (x : Variable) → job_at w.jobs s ≡ None → 0 ≡ value_of_other s x (raw_at w.files w.core w.jobs w.alarms.items s)
value_none w s x h = ap (value_of_other s x) (sym (raw_none w s h))
