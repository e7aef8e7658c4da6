-- The inferior that the channel of CORBLK is on: it has a slot, and the call sees its core.
use Rattle.std.specs.Prelude.{◌≡◌, ◌<◌, ◌≤◌, ℕ, Bool, true, false, Some, nat_lt, refl}
use Rattle.std.proofs.Common.{sym, ◌∙◌, ap, arith}
use Rattle.std.proofs.lemmas.Bool.Decides.{nat_tests}
use Rattle.its_word.specs.Limits.{slots}
use Rattle.its_records.specs.declared.calls.Ask.{Ask}
use Rattle.its_records.specs.declared.jobs.Channel.TheVariants.{Usr}
use Rattle.its_records.specs.declared.jobs.Job.{Job}
use Rattle.its_core.specs.Cores.{core_at}
use Rattle.its_frame.specs.declared.name.CallName.TheVariants.{Corblk}
use Rattle.its_jobs.specs.Table.{job_at}
use Rattle.its_plain.specs.Call.Arguments.{input}
use Rattle.its_plain.specs.Call.Basic.{channel_at, is_oneself}
use Rattle.its_plain.specs.Call.Core.{corblk, highest_operation, pages_of}
use Rattle.its_plain.specs.Call.Usr.{other_core}
use Rattle.its_plain.specs.Call.Decide.{call_named}
use Rattle.its_plain.specs.Machine.{On, core_of}
use Rattle.its_plain.specs.Machine.View.{View, job_at as job_seen, view}
use Rattle.its_stepped.specs.Forest.{Forest}
use Rattle.its_stepped.proofs.Keeping.ForestLaws.{job_few}
use Rattle.its_plain.proofs.TargetLaws.{target_on}
use Rattle.its_world.specs.Tidy.{Tidy}
use Rattle.its_world.specs.World.{state_of}
use Rattle.its_world.specs.declared.world.World.{World}
use Rattle.its_world.proofs.MappedLaws.{core_raw}
use Rattle.its_shared.specs.Called.{channel_under}
use Rattle.call_basic.specs.Seen.{raw_with, seen_by}
use Rattle.its_shared.proofs.NumberLaws.{usr_on}
use Rattle.call_usr.proofs.OtherLaws.{usr_stands}

pub other_few : (w : World) (s : ℕ) (j : Job) (n k at : ℕ) (b : Bool) → Forest (state_of w).raw → job_at w.jobs s ≡ Some j
    → channel_under j n ≡ Usr k b at → k < slots
other_few w s j n k at b f h e = job_few (state_of w).raw f k (usr_stands w s j n k at b f h e)

other_here : (w : World) (s : ℕ) (j : Job) (a : Ask) (k at : ℕ) (b : Bool) → Tidy w → a.fail ≡ 0 → call_named a.name ≡ Some Corblk
    → channel_under j (input a 1) ≡ Usr k b at
    → other_core (seen_by w s j a) ≡ core_at w.core k
unfolding view
other_here w s j a k at b tidy z n e =
    ap (λ o. core_of (job_seen (state_of w).raw o)) (target_on (raw_with w s j) a Corblk 1 k at b z n refl
    (usr_on w.files j (input a 1) k at b e)) ∙ core_raw w k tidy

-- CORBLK on it, by the channel that has leave to write
written_by : (v : View) (a : Ask) (k at : ℕ) → input a 0 ≤ highest_operation → is_oneself (input a 1) ≡ false
    → channel_at v.own.channels (input a 1) ≡ On k true at
    → pages_of v a (input a 0) k (other_core v) (input a 2) ≡ corblk v a
unfolding corblk
written_by v a k at low other is = let test : nat_lt highest_operation (input a 0) ≡ false = grind (arith, nat_tests) in rw (test, other, is) refl

pub through : (w : World) (s : ℕ) (j : Job) (a : Ask) (k at : ℕ) (b : Bool) → Tidy w → a.fail ≡ 0 → call_named a.name ≡ Some Corblk
    → input a 0 ≤ highest_operation → is_oneself (input a 1) ≡ false
    → channel_under j (input a 1) ≡ Usr k b at → b ≡ true → pages_of (seen_by w s j a) a (input a 0) k (core_at w.core k)
    (input a 2) ≡ corblk (seen_by w s j a) a
unfolding view
through w s j a k at b tidy z n low other e write =
    ap (λ c. pages_of (seen_by w s j a) a (input a 0) k c (input a 2)) (sym (other_here w s j a k at b tidy z n e))
    ∙ written_by (seen_by w s j a) a k at low other (usr_on w.files j (input a 1) k at b e ∙ ap (λ x. On k x at) write)
