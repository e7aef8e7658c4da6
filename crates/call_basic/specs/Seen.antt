-- What a call of a slot's job looks at in a world.
-- No promise rests on this.
use Rattle.std.specs.Prelude.{ℕ, Bool, true, false, Option, option_map}
use Rattle.its_records.specs.declared.calls.Ask.{Ask}
use Rattle.its_records.specs.declared.jobs.Job.{Job}
use Rattle.its_core.specs.Cores.{core_at}
use Rattle.its_jobs.specs.Table.{superior_at}
use Rattle.its_frame.specs.declared.decision.Decision.{Decision}
use Rattle.its_frame.specs.declared.decision.Decision.TheVariants.{Waits}
use Rattle.its_plain.specs.Call.Decide.{target}
use Rattle.its_plain.specs.Machine.{Whole}
use Rattle.its_plain.specs.Machine.View.{Outline, View, outline, view}
use Rattle.its_world.specs.World.{alarm_at, bare, chans_of, raw_at, state_of}
use Rattle.its_world.specs.declared.world.World.{World}

-- the raw job of a slot with these registers
abbrev pub raw_with : World → ℕ → Job → Whole
raw_with w s j = record { core = core_at w.core s; job = bare j; superior = superior_at w.jobs s; channels = chans_of w.files j; alarm = alarm_at w.alarms.items s }

-- what its call looks at
abbrev pub seen_by : World → ℕ → Job → Ask → View
seen_by w s j a = view (state_of w).raw s (raw_with w s j) (target (raw_with w s j) a)

-- what all calls see of a slot's job
abbrev pub outline_at : World → ℕ → Option Outline
outline_at w k = option_map outline (raw_at w.files w.core w.jobs w.alarms.items k)

-- a call that cannot go on
abbrev pub is_waiting : Decision → Bool
is_waiting (Waits r) = true
is_waiting _ = false
