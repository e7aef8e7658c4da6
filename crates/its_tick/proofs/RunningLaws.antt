-- Whether the job of a slot runs: its raw registers say so.
use Rattle.std.specs.Prelude.{◌≡◌, ℕ, not, false, Option, Some, None}
use Rattle.std.proofs.Common.{sym, ap}
use Rattle.its_records.specs.declared.jobs.Job.{Job}
use Rattle.its_core.specs.Cores.{core_at}
use Rattle.its_jobs.specs.Table.{job_at, superior_at}
use Rattle.its_plain.specs.Transcript.Turns.{is_running, runs}
use Rattle.its_world.specs.World.{alarm_at, raw_of, state_of}
use Rattle.its_world.specs.declared.world.World.{World}

runs_by : (w : World) (s : ℕ) (o : Option Job) → job_at w.jobs s ≡ o
    → runs (state_of w).raw s ≡ is_running (raw_of w.files (core_at w.core s) (superior_at w.jobs s) (alarm_at w.alarms.items s) o)
unfolding state_of
runs_by w s o e = ap (λ o. is_running (raw_of w.files (core_at w.core s) (superior_at w.jobs s) (alarm_at w.alarms.items s) o)) e

pub job_runs : (w : World) (s : ℕ) (j : Job) → Some j ≡ job_at w.jobs s → not j.stopped ≡ runs (state_of w).raw s
job_runs w s j e = sym (runs_by w s (Some j) (sym e))

pub empty_rests : (w : World) (s : ℕ) → None ≡ job_at w.jobs s → false ≡ runs (state_of w).raw s
empty_rests w s e = sym (runs_by w s None (sym e))
