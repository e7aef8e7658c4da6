-- OPEN of an inferior, if none of its tests stops it, and the least free slot.
use Rattle.std.specs.Prelude.{◌≡◌, ◌≤◌, ◌==◌, ◌&&◌, ℕ, true, None, nat_lt, unwrap_or, refl}
use Rattle.std.proofs.Common.{sym, ◌∙◌, ap, subst}
use Rattle.std.proofs.lemmas.Bool.{le-ltb}
use Rattle.its_records.specs.Tree.{least_free}
use Rattle.its_records.specs.declared.calls.Ask.{Ask}
use Rattle.its_records.specs.declared.jobs.Job.{Job}
use Rattle.its_jobs.specs.Table.{job_at}
use Rattle.its_plain.specs.Call.Arguments.{input}
use Rattle.its_plain.specs.Call.Basic.{channel_at, is_shut}
use Rattle.its_plain.specs.Call.Usr.{inferior_named, opens_job, opens_usr, usr_tests}
use Rattle.its_plain.specs.Machine.View.{View, view}
use Rattle.its_world.specs.World.{state_of}
use Rattle.its_world.specs.declared.world.World.{World}
use Rattle.its_shared.specs.Called.{first_of}
use Rattle.call_basic.specs.Seen.{seen_by}
use Rattle.call_basic.specs.Channels.{is_free}
use Rattle.call_basic.proofs.ChannelLaws.{free}
use Rattle.its_shared.proofs.SeenLaws.{free_seen}
use Rattle.its_shared.proofs.StopLaws.{unstopped}

-- the channel is free, and the control argument is 0 or 1
seen_free : (w : World) (s : ℕ) (j : Job) (a : Ask) (n : ℕ) → is_free j n ≡ (nat_lt n 16 && is_shut (channel_at (seen_by w s j a).own.channels n))
unfolding view
seen_free w s j a n = free w.files j n

no_test : (v : View) (a : Ask) (n control : ℕ) → (nat_lt n 16 && is_shut (channel_at v.own.channels n)) ≡ true → control ≤ 1
    → first_of (usr_tests v a n control) ≡ None
no_test v a n control f l = let low = le-ltb 1 control l in rw (f, low) refl

pub opens_goes : (w : World) (s : ℕ) (j : Job) (a : Ask) (n control : ℕ) → n ≡ input a 0 → control ≡ unwrap_or a.control 0
    → is_free j (input a 0) ≡ true → control ≤ 1
    → opens_job (seen_by w s j a) a n (input a 2) (input a 3) (control == 1)
    (inferior_named (seen_by w s j a) (input a 2) (input a 3)) ≡ opens_usr (seen_by w s j a) a
unfolding opens_usr
opens_goes w s j a n control en ec f l =
    let v = seen_by w s j a in
    let named = inferior_named v (input a 2) (input a 3) in
    ap (λ i. opens_job v a i (input a 2) (input a 3) (control == 1) named) en
    ∙ ap (λ (c : ℕ). opens_job v a (input a 0) (input a 2) (input a 3) (c == 1) named) ec
    ∙ unstopped (usr_tests v a (input a 0) (unwrap_or a.control 0)) (opens_job v a (input a 0) (input a 2) (input a 3) (unwrap_or a.control 0 == 1) named)
    (no_test v a (input a 0) (unwrap_or a.control 0) (sym (seen_free w s j a (input a 0)) ∙ f) (subst (λ (c : ℕ). c ≤ 1) ec l))

-- the least slot in which the call sees no job
pub outlines_free : (w : World) (s : ℕ) (j : Job) (a : Ask) → least_free (seen_by w s j a).limit (seen_by w s j a).outlines ≡ least_free
    w.jobs.limit (job_at w.jobs)
unfolding view state_of
outlines_free w s j a = free_seen w.files w.core w.jobs w.alarms.items (seen_by w s j a).limit w.limited
