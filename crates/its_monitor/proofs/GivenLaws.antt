-- A superior that is written: the state of the world after it, and that the world is tidy.
use Rattle.std.specs.Prelude.{◌≡◌, ◌<◌, ℕ, Bool, false, Option, Some, None, is_some, option_map, slice_index_or, refl}
use Rattle.std.proofs.Common.{sym, ◌∙◌, ap, subst}
use Rattle.its_word.specs.Core.{Core}
use Rattle.its_word.specs.Limits.{slots}
use Rattle.its_records.specs.Tree.{climbs_to}
use Rattle.its_records.specs.declared.jobs.Job.{Job}
use Rattle.its_core.specs.Cores.{core_at, clear_at}
use Rattle.its_files.specs.Files.{Store, directory}
use Rattle.its_jobs.specs.Table.{job_at, superior_at, IsTree}
use Rattle.its_pipes.specs.Pipes.{piped}
use Rattle.its_plain.specs.Machine.Change.{superiors}
use Rattle.its_plain.specs.Operator.Clock.{clock_end}
use Rattle.its_plain.specs.Operator.State.{under}
use Rattle.its_plain.proofs.MachineLaws.{machine_is}
use Rattle.its_shared.proofs.AcrossLaws.{across_table}
use Rattle.its_world.specs.Tidy.{channel_by, Across, Tidy}
use Rattle.its_world.specs.World.{alarm_at, raw_of, raw_at, frame_at, console_at, holder_at, mark_of, state_of, in_raw, symbols_at}
use Rattle.its_world.specs.declared.world.World.{World}
use Rattle.its_world.proofs.ContentsLaws.{core_as, frames_as, consoles_as, holders_as, files_as, clock_as, lists_as, version_as, symbols_as, alarms_as, pipes_as}
use Rattle.its_world.proofs.PlaceLaws.{doors_in, on_lists_jobs}
use Rattle.its_world.proofs.StateLaws.{state_is, slot_at}
use Rattle.its_commit.proofs.RemovalLaws.{superiors_are}
use Rattle.its_monitor.specs.Restoring.{SuperiorBecomes}

-- the superiors of the raw machine are those of the table of jobs
module _ (w : World) (s t : ℕ) (tree : IsTree w.jobs.jobs w.jobs.superiors) where
  pub superior_read : (o : Option ℕ) (b : Bool) → o ≡ superior_at w.jobs s → b ≡ is_some o → b ≡ is_some (superiors (state_of w).raw s)
  superior_read o b e is = is ∙ ap is_some (e ∙ ap (λ (f : ℕ → Option ℕ). f s) (sym (superiors_are w tree)))

  pub climbs_read : (b : Bool) → b ≡ climbs_to (superior_at w.jobs) s slots (Some t) → b ≡ climbs_to (superiors (state_of w).raw) s slots (Some t)
  climbs_read b is = is ∙ ap (λ (f : ℕ → Option ℕ). climbs_to f s slots (Some t)) (sym (superiors_are w tree))

  pub alone_read : superiors (state_of w).raw s ≡ None → superior_at w.jobs s ≡ None
  alone_read e = ap (λ (f : ℕ → Option ℕ). f s) (sym (superiors_are w tree)) ∙ e

  pub apart_read : climbs_to (superiors (state_of w).raw) s slots (Some t) ≡ false → climbs_to (superior_at w.jobs) s slots (Some t) ≡ false
  apart_read e = ap (λ (f : ℕ → Option ℕ). climbs_to f s slots (Some t)) (sym (superiors_are w tree)) ∙ e

-- a job with another superior
moved_under : (x : Store) (c : Core) (u : Option ℕ) (t : ℕ) (a : Option (ℕ × ℕ)) (o : Option Job)
    → raw_of x c (Some t) a o ≡ option_map (under t) (raw_of x c u a o)
moved_under x c u t a (Some i) = refl
moved_under x c u t a None = refl

module _ (old new : World) (s t : ℕ) (b : SuperiorBecomes old new s t) where
  same_job : (k : ℕ) → job_at new.jobs k ≡ job_at old.jobs k
  same_job k = ap (λ l. slice_index_or l k None) b.jobs

  -- except for superiors all is as it was
  alike : (k : ℕ) → raw_at new.files new.core new.jobs new.alarms.items k
      ≡ raw_of old.files (core_at old.core k) (superior_at new.jobs k) (alarm_at old.alarms.items k) (job_at old.jobs k)
  alike k =
      ap (λ x. raw_at x new.core new.jobs new.alarms.items k) (files_as b.rest)
      ∙ ap (λ x. raw_at old.files x new.jobs new.alarms.items k) (core_as b.rest)
      ∙ ap (λ x. raw_at old.files old.core new.jobs x.items k) (alarms_as b.rest)
      ∙ ap (raw_of old.files (core_at old.core k) (superior_at new.jobs k) (alarm_at old.alarms.items k)) (same_job k)

  pub given_state : state_of new ≡ in_raw (state_of old) s (under t)
  unfolding state_of
  given_state = state_is _ _
      (machine_is _ _ (slot_at _ _ s (under t)
      (alike s ∙ ap (λ x. raw_of old.files (core_at old.core s) x (alarm_at old.alarms.items s) (job_at old.jobs s)) b.superior.here
      ∙ moved_under old.files (core_at old.core s) (superior_at old.jobs s) t (alarm_at old.alarms.items s) (job_at old.jobs s))
      (λ k ne. alike k ∙ ap (λ x. raw_of old.files (core_at old.core k) x (alarm_at old.alarms.items k) (job_at old.jobs k)) (b.superior.others k ne)))
      (λ k. ap (λ l. console_at l.items k) (consoles_as b.rest)) (λ k. ap (λ l. holder_at l k) (holders_as b.rest))
      (ap directory (files_as b.rest)) (clock_as b.rest) (version_as b.rest) (λ k. ap (λ l. symbols_at l.items k) (symbols_as b.rest))
      (λ k. ap (λ p. piped p k) (pipes_as b.rest)))
      (λ k. ap (λ l. frame_at l.items k) (frames_as b.rest)) (λ k. ap (λ x. clear_at x k) (core_as b.rest)) (ap mark_of (files_as b.rest))

  pub given_tidy : Tidy old → Tidy new
  given_tidy tidy = record {
    blank = λ k h. ap (λ c. core_at c k) (core_as b.rest) ∙ tidy.blank k (sym (same_job k) ∙ h);
    quiet = λ k h. ap (λ l. alarm_at l.items k) (alarms_as b.rest) ∙ tidy.quiet k (sym (same_job k) ∙ h);
    timed = subst (λ x. x < clock_end) (sym (clock_as b.rest)) tidy.timed;
    across = subst (λ (x : Store). Across x new.jobs) (sym (files_as b.rest))
        (across_table old.files old.jobs new.jobs tidy.across (λ k n. ap (λ o. channel_by o n) (same_job k)));
    nameless = λ k h. ap (λ l. symbols_at l.items k) (symbols_as b.rest) ∙ tidy.nameless k (sym (same_job k) ∙ h);
    on_lists = on_lists_jobs old new (record { each = same_job }) (frames_as b.rest) (ap doors_in b.rest) (lists_as b.rest) tidy.on_lists;
  }
