-- The raw job of a slot that has a job.
use Rattle.std.specs.Prelude.{◌≡◌, ℕ, Bool, Option, Some, IfSome, refl}
use Rattle.std.proofs.Common.{sym, subst}
use Rattle.its_records.specs.declared.calls.Ask.{Ask}
use Rattle.its_records.specs.declared.jobs.Channel.TheVariants.{Usr}
use Rattle.its_records.specs.declared.jobs.Job.{Job}
use Rattle.its_frame.specs.declared.name.CallName.TheVariants.{Usrvar}
use Rattle.its_jobs.specs.Table.{job_at}
use Rattle.its_plain.specs.Call.Arguments.{input}
use Rattle.its_plain.specs.Call.Decide.{call_named, target}
use Rattle.its_plain.specs.Machine.{Whole}
use Rattle.its_plain.proofs.TargetLaws.{target_on}
use Rattle.its_shared.specs.Called.{channel_under}
use Rattle.its_shared.proofs.NumberLaws.{usr_on}
use Rattle.its_world.specs.World.{raw_at}
use Rattle.its_world.specs.declared.world.World.{World}
use Rattle.its_world.proofs.StateLaws.{raw_some}
use Rattle.call_basic.specs.Seen.{raw_with}

pub raw_here : (P : Whole → Type 0) (w : World) (s : ℕ) (j : Job) → job_at w.jobs s ≡ Some j → P (raw_with w s j)
    → IfSome (raw_at w.files w.core w.jobs w.alarms.items s) P
raw_here P w s j h p = subst (λ o. IfSome o P) (sym (raw_some w s j h)) p

pub target_here : (w : World) (s : ℕ) (j : Job) (a : Ask) (t : Option ℕ) → job_at w.jobs s ≡ Some j → t ≡ target (raw_with w s j) a
    → IfSome (raw_at w.files w.core w.jobs w.alarms.items s) (λ q. t ≡ target q a)
target_here w s j a t h e = raw_here (λ q. t ≡ target q a) w s j h e

-- USRVAR reaches the job that its channel is on
pub usrvar_target : (w : World) (s : ℕ) (j : Job) (a : Ask) (k at : ℕ) (b : Bool) → a.fail ≡ 0 → call_named a.name ≡ Some Usrvar
    → channel_under j (input a 0) ≡ Usr k b at
    → target (raw_with w s j) a ≡ Some k
usrvar_target w s j a k at b z n e = target_on (raw_with w s j) a Usrvar 0 k at b z n refl (usr_on w.files j (input a 0) k at b e)
