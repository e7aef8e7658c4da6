-- A settled world that the monitor keeps can be written.
use Rattle.std.specs.Prelude.{if◌then◌else◌, ◌≡◌, ◌==◌, ◌<◌, ◌≤◌, ℕ, Bool, true, false, Option, Some, None, IfSome, is_some, refl}
use Rattle.std.proofs.Common.{sym, ◌∙◌, ap, subst, arith, inl, inr}
use Rattle.std.proofs.lemmas.Bool.{cases_lt}
use Rattle.its_word.specs.Core.{Core}
use Rattle.its_word.specs.Limits.{slots, limit_of}
use Rattle.its_records.specs.declared.jobs.Channel.{Channel}
use Rattle.its_records.specs.declared.jobs.Channel.TheVariants.{Closed, TtyIn, TtyOut, Reading, Writing, Usr, Link}
use Rattle.its_records.specs.declared.jobs.Job.{Job}
use Rattle.its_core.specs.Cores.{core_at}
use Rattle.its_jobs.specs.Table.{job_at, superior_at}
use Rattle.its_files.specs.Files.{Store, entry_at}
use Rattle.its_files.proofs.EntryLaws.{draft_stands, file_stands}
use Rattle.its_plain.specs.Machine.{Whole, Machine}
use Rattle.its_plain.specs.Machine.Change.{superior_in}
use Rattle.its_stepped.specs.Forest.{Forest, OnInferior, OnLink}
use Rattle.its_shared.specs.Across.{channel_at}
use Rattle.its_shared.specs.Parts.{alarm_at, chan_of, console_at, holder_at, raw_at, raw_of, symbols_at}
use Rattle.its_shared.proofs.StandLaws.{reading_file, writing_draft}
use Rattle.its_world.specs.Tidy.{Tidy}
use Rattle.its_world.specs.World.{state_of}
use Rattle.its_world.specs.declared.world.World.{World}
use Rattle.its_world.proofs.StorageLaws.{chan_is}
use Rattle.its_monitor.specs.Kept.{Kept}
use Rattle.its_monitor.specs.Settled.{IsSettled}
use Rattle.its_saving.specs.Writable.{Stands, Writable}

-- a slot with a job is one of the places
below_limit : (v s : ℕ) → slots ≤ s → limit_of v ≤ s
unfolding limit_of
below_limit v s h = by (v == 2)
  where
    by : (t : Bool) → (if t then slots else 64) ≤ s
    by true = h
    by false = omega arith

slot_below : (m : Machine) → Forest m → (s : ℕ) → is_some (m.jobs s) ≡ true → s < slots
slot_below m f s h = elim (cases_lt s slots) [
  | inl lt ↦ lt
  | inr ge ↦ let none : false ≡ true = sym (ap is_some (f.few s (below_limit m.version s ge))) ∙ h in absurd cc
]

inferior_some : (o : Option Whole) (k : ℕ) → superior_in o ≡ Some k → is_some o ≡ true
inferior_some (Some q) k h = refl
inferior_some None k h = cc

holder_below : (m : Machine) → Forest m → (o : Option ℕ) → IfSome o (λ s. is_some (m.jobs s) ≡ true) → IfSome o (λ s. s < slots)
holder_below m f (Some s) h = slot_below m f s h
holder_below m f None h = tt

-- consoles and alarms of jobs
few_by : (o : Option ℕ) → IfSome o (λ c. c < 8) → IfSome o (λ c. c ≤ 7)
few_by (Some c) h = omega arith
few_by None h = tt

consoled_by : (f : Store) (c : Core) (u : Option ℕ) (a : Option (ℕ × ℕ)) (o : Option Job) → IfSome (raw_of f c u a o) (λ q. IfSome q.job.console (λ n. n < 8))
    → IfSome o (λ j. IfSome j.console (λ n. n ≤ 7))
consoled_by f c u a (Some j) h = few_by j.console h
consoled_by f c u a None h = tt

-- the parts of the raw machine
job_raw : (w : World) (k : ℕ) → (state_of w).raw.jobs k ≡ raw_at w.files w.core w.jobs w.alarms.items k
unfolding state_of
job_raw w k = refl

symbols_raw : (w : World) (k : ℕ) → (state_of w).raw.symbols k ≡ symbols_at w.symbols.items k
unfolding state_of
symbols_raw w k = refl

holder_raw : (w : World) (c : ℕ) → (state_of w).raw.holders c ≡ holder_at w.holders c
unfolding state_of
holder_raw w c = refl

console_raw : (w : World) (c : ℕ) → (state_of w).raw.consoles c ≡ console_at w.consoles.items c
unfolding state_of
console_raw w c = refl

-- what holds of the raw machine of a world
record Holds (w : World) (m : Machine) : Type 0 where
  forest : Forest m
  consoled : (k : ℕ) → IfSome (m.jobs k) (λ q. IfSome q.job.console (λ c. c < 8))

module _ (w : World) (tidy : Tidy w) (h : Holds w (state_of w).raw) where
  stands_by : (k n : ℕ) (c : Channel) → channel_at w.jobs k n ≡ c → OnInferior (state_of w).raw k (chan_of w.files c) → OnLink (state_of w).raw k n
      (chan_of w.files c)
      → Stands w.files c
  stands_by k n (Reading f at) e i l = file_stands (entry_at w.files f) (reading_file w.files w.jobs tidy.across k n f at e)
  stands_by k n (Writing d) e i l = draft_stands (entry_at w.files d) (writing_draft w.files w.jobs tidy.across k n d e)
  stands_by k n (Usr s write at) e i l = slot_below (state_of w).raw h.forest s (inferior_some ((state_of w).raw.jobs s) k i)
  stands_by k n (Link x write) e i l = tt
  stands_by k n Closed e i l = tt
  stands_by k n TtyIn e i l = tt
  stands_by k n TtyOut e i l = tt

  writable_raw : Writable w
  writable_raw = record {
    consoles = λ k. consoled_by w.files (core_at w.core k) (superior_at w.jobs k) (alarm_at w.alarms.items k) (job_at w.jobs k)
        (subst (λ o. IfSome o (λ q. IfSome q.job.console (λ c. c < 8))) (job_raw w k) (h.consoled k));
    quiet = tidy.quiet;
    channels = λ k n. stands_by k n (channel_at w.jobs k n) refl
        (subst (λ c. OnInferior (state_of w).raw k c) (chan_is w k n) (h.forest.channels k n))
        (subst (λ c. OnLink (state_of w).raw k n c) (chan_is w k n) (h.forest.links.channels k n));
    holders = λ c. subst (λ o. IfSome o (λ s. s < slots)) (holder_raw w c)
        (holder_below (state_of w).raw h.forest ((state_of w).raw.holders c) (h.forest.holders c));
  }

pub writable : (w : World) → Kept w → IsSettled (state_of w) → Writable w
writable w k s = writable_raw w k.tidy (subst (Holds w) (sym s.machine) (record {
  forest = k.forest;
  consoled = k.consoled;
}))
