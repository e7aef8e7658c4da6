-- Whether a byte of SIOT can be moved next, from what the code finds.
use Rattle.std.specs.Prelude.{◌≡◌, ℕ, Bool, true, Option, Some, None, IfSome, is_some, refl}
use Rattle.std.proofs.Common.{sym, ◌∙◌, ap}
use Rattle.call_basic.specs.declared.transfer.NextByte.{NextByte}
use Rattle.call_core.specs.Parts.{next_part}
use Rattle.its_records.specs.declared.calls.Ask.{Ask}
use Rattle.its_records.specs.declared.jobs.Job.{Job}
use Rattle.its_jobs.specs.Table.{job_at}
use Rattle.its_frame.specs.declared.frame.Holding.{Holding}
use Rattle.its_commit.specs.Carried.{standing_of}
use Rattle.its_plain.specs.Machine.{Whole}
use Rattle.its_world.specs.World.{call_in, raw_at, state_of}
use Rattle.its_world.specs.declared.world.World.{World}
use Rattle.its_world.proofs.StateLaws.{raw_some}
use Rattle.its_tick.specs.Bytes.{has_part, part_due}

-- a job that is there is one of the machine
raw_by : (w : World) (s : ℕ) (o : Option Job) → job_at w.jobs s ≡ o → is_some o ≡ true → is_some (raw_at w.files w.core w.jobs w.alarms.items s) ≡ true
raw_by w s (Some j) is t = ap is_some (raw_some w s j is)
raw_by w s None is t = absurd cc

part_found : (w : World) (s : ℕ) (a : Ask) (n : ℕ) (r : Option NextByte) (o : Option Holding) (m : Option Whole) → is_some o ≡ true
    → is_some m ≡ true → IfSome o (λ f. (a ≡ f.ask) × (n ≡ f.owes))
    → IfSome m (λ q. r ≡ next_part w.files.mark (state_of w).raw s q a) → is_some r ≡ has_part w s o m
part_found w s a n r (Some f) (Some q) i k e h = ap is_some h ∙ ap (λ (b : Ask). is_some (next_part w.files.mark (state_of w).raw s q b)) e.0
part_found w s a n r (Some f) None i k e h = absurd cc
part_found w s a n r None m i k e h = absurd cc

-- the call that can be committed has a next part exactly if one was found
pub found_due : (w : World) (s : ℕ) (a : Ask) (n : ℕ) (r : Option NextByte) (b : Bool) → is_some r ≡ b
    → is_some (standing_of (call_in w s)) ≡ true → is_some (job_at w.jobs s) ≡ true → IfSome (standing_of (call_in w s)) (λ f. (a ≡ f.ask) × (n ≡ f.owes))
    → IfSome (raw_at w.files w.core w.jobs w.alarms.items s) (λ q. r ≡ next_part w.files.mark (state_of w).raw s q a) → b ≡ part_due w s
found_due w s a n r b is i j e h =
    sym is ∙ part_found w s a n r (standing_of (call_in w s)) (raw_at w.files w.core w.jobs w.alarms.items s) i (raw_by w s (job_at w.jobs s) refl j) e h
