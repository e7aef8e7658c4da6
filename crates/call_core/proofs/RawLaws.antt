-- The decision is made on the raw job of the slot.
use Rattle.std.specs.Prelude.{◌≡◌, ℕ, Some, IfSome}
use Rattle.std.proofs.Common.{subst}
use Rattle.its_records.specs.declared.calls.Ask.{Ask}
use Rattle.its_records.specs.declared.jobs.Job.{Job}
use Rattle.its_frame.specs.declared.decision.Decision.{Decision}
use Rattle.its_jobs.specs.Table.{job_at}
use Rattle.its_plain.specs.Call.Step.{decision}
use Rattle.its_plain.specs.Call.Decide.{decided}
use Rattle.its_plain.specs.Machine.{Whole}
use Rattle.its_world.specs.World.{raw_at, state_of}
use Rattle.its_world.specs.declared.world.World.{World}
use Rattle.its_world.proofs.StateLaws.{raw_some}
use Rattle.call_basic.specs.Seen.{raw_with, seen_by}
use Rattle.call_basic.proofs.RawLaws.{raw_here}

pub decision_here : (w : World) (s : ℕ) (j : Job) (a : Ask) (d : Decision) → job_at w.jobs s ≡ Some j → d ≡ decided (seen_by w s j a) a
    → IfSome (raw_at w.files w.core w.jobs w.alarms.items s) (λ q. d ≡ decision (state_of w).raw s q a)
unfolding decision
decision_here w s j a d h e = raw_here (λ q. d ≡ decision (state_of w).raw s q a) w s j h e

-- what holds of it holds of the registers
pub raw_there : (P : Whole → Type 0) (w : World) (s : ℕ) (j : Job) → job_at w.jobs s ≡ Some j
    → IfSome (raw_at w.files w.core w.jobs w.alarms.items s) P → P (raw_with w s j)
raw_there P w s j h p = subst (λ o. IfSome o P) (raw_some w s j h) p
