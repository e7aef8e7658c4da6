-- The inferior that the channel of a call is on: its slot has a job, the call reaches it, and sees
-- its core.
use Rattle.std.specs.Prelude.{◌≡◌, ℕ, Bool, Some}
use Rattle.std.proofs.Common.{◌∙◌, ap}
use Rattle.its_records.specs.declared.calls.Ask.{Ask}
use Rattle.its_records.specs.declared.jobs.Channel.TheVariants.{Usr}
use Rattle.its_records.specs.declared.jobs.Job.{Job}
use Rattle.its_frame.specs.declared.name.CallName.{CallName}
use Rattle.its_core.specs.Cores.{core_at}
use Rattle.its_jobs.specs.Table.{job_at}
use Rattle.its_plain.specs.Call.Arguments.{input}
use Rattle.its_plain.specs.Call.Usr.{other_core}
use Rattle.its_plain.specs.Call.Decide.{call_named, reaching}
use Rattle.its_plain.specs.Machine.{core_of}
use Rattle.its_plain.specs.Machine.View.{job_at as job_seen, view}
use Rattle.its_stepped.specs.Forest.{Forest}
use Rattle.its_stepped.proofs.Keeping.ForestLaws.{inferior_stands, job_few, on_inferior}
use Rattle.its_plain.proofs.TargetLaws.{target_on}
use Rattle.its_world.specs.Storage.{HasJob}
use Rattle.its_world.specs.World.{state_of}
use Rattle.its_world.specs.declared.world.World.{World}
use Rattle.its_world.proofs.StateLaws.{raw_some}
use Rattle.its_world.proofs.StorageLaws.{has_job}
use Rattle.its_shared.specs.Called.{channel_under}
use Rattle.call_basic.specs.Seen.{raw_with, seen_by}
use Rattle.its_shared.proofs.NumberLaws.{usr_number, usr_on}
use Rattle.its_shared.proofs.SeenLaws.{core_here}
use Rattle.call_usr.specs.Targets.{Targets}

pub usr_stands : (w : World) (s : ℕ) (j : Job) (n k at : ℕ) (b : Bool) → Forest (state_of w).raw → job_at w.jobs s ≡ Some j
    → channel_under j n ≡ Usr k b at → HasJob (state_of w) k
unfolding state_of
usr_stands w s j n k at b f h e =
    inferior_stands (state_of w).raw k s (on_inferior (state_of w).raw s (raw_with w s j) n k at b f (raw_some w s j h) (usr_on w.files j n k at b e))

pub targets : (w : World) (s : ℕ) (j : Job) (a : Ask) (c : CallName) (k at : ℕ) (b : Bool) → Forest (state_of w).raw → job_at w.jobs s ≡ Some j
    → a.fail ≡ 0 → call_named a.name ≡ Some c → reaching c ≡ Some 0 → channel_under j (input a 0) ≡ Usr k b at → Targets w s j a k
targets w s j a c k at b f h z n r e =
    let stands = usr_stands w s j (input a 0) k at b f h e in
    record {
      number = usr_number j (input a 0) k at b e;
      few = job_few (state_of w).raw f k stands;
      job = has_job w k stands;
      target = target_on (raw_with w s j) a c 0 k at b z n r (usr_on w.files j (input a 0) k at b e);
    }

-- the core of the inferior, as the call sees it
pub other_here : (w : World) (s : ℕ) (j : Job) (a : Ask) (k : ℕ) → Targets w s j a k → other_core (seen_by w s j a) ≡ core_at w.core k
unfolding view state_of
other_here w s j a k t =
    ap (λ o. core_of (job_seen (state_of w).raw o)) t.target ∙ core_here w.files w.core w.jobs w.alarms.items k t.job
