-- An alarm that is written: the state of the world after it, and that the world is tidy.
use Rattle.std.specs.Prelude.{◌≡◌, ◌<◌, ℕ, Option, Some, None, option_map, refl}
use Rattle.std.proofs.Common.{sym, ◌∙◌, ap, subst, inl, inr}
use Rattle.std.proofs.lemmas.Bool.{cases_eq}
use Rattle.its_word.specs.Core.{Core}
use Rattle.its_records.specs.declared.jobs.Job.{Job}
use Rattle.its_core.specs.Cores.{core_at, clear_at}
use Rattle.its_files.specs.Files.{Store, directory}
use Rattle.its_jobs.specs.Table.{job_at, superior_at}
use Rattle.its_plain.specs.Machine.Change.{with_alarm}
use Rattle.its_plain.proofs.MachineLaws.{machine_is}
use Rattle.its_plain.specs.Operator.Clock.{clock_end}
use Rattle.its_world.specs.Tidy.{Across, Tidy}
use Rattle.its_world.specs.World.{alarm_at, raw_of, raw_at, frame_at, console_at, holder_at, mark_of, state_of, in_raw, symbols_at, AlarmBecomes}
use Rattle.its_pipes.specs.Pipes.{piped}
use Rattle.its_world.specs.declared.world.World.{World}
use Rattle.its_world.proofs.StateLaws.{state_is, slot_at}
use Rattle.its_world.proofs.ContentsLaws.{core_as, jobs_as, frames_as, consoles_as, holders_as, files_as, clock_as, version_as, symbols_as, pipes_as}

-- a job with another alarm
realarmed : (x : Store) (c : Core) (u : Option ℕ) (a b : Option (ℕ × ℕ)) (o : Option Job) → raw_of x c u b o ≡ option_map (with_alarm b) (raw_of x c u a o)
realarmed x c u a b (Some i) = refl
realarmed x c u a b None = refl

module _ (old new : World) (s : ℕ) (a : Option (ℕ × ℕ)) (b : AlarmBecomes old new s a) where
  -- except for alarms all is as it was
  alike : (k : ℕ) → raw_at new.files new.core new.jobs new.alarms.items k ≡ raw_at old.files old.core old.jobs new.alarms.items k
  alike k =
      ap (λ t. raw_at t new.core new.jobs new.alarms.items k) (files_as b.rest)
      ∙ ap (λ t. raw_at old.files t new.jobs new.alarms.items k) (core_as b.rest)
      ∙ ap (λ t. raw_at old.files old.core t new.alarms.items k) (jobs_as b.rest)

  pub alarm_state : state_of new ≡ in_raw (state_of old) s (with_alarm a)
  unfolding state_of
  alarm_state = state_is _ _
      (machine_is _ _ (slot_at _ _ s (with_alarm a)
      (alike s ∙ ap (λ x. raw_of old.files (core_at old.core s) (superior_at old.jobs s) x (job_at old.jobs s)) b.alarms.here
      ∙ realarmed old.files (core_at old.core s) (superior_at old.jobs s) (alarm_at old.alarms.items s) a (job_at old.jobs s))
      (λ k ne. alike k ∙ ap (λ x. raw_of old.files (core_at old.core k) (superior_at old.jobs k) x (job_at old.jobs k)) (b.alarms.others k ne)))
      (λ k. ap (λ l. console_at l.items k) (consoles_as b.rest)) (λ k. ap (λ l. holder_at l k) (holders_as b.rest))
      (ap directory (files_as b.rest)) (clock_as b.rest) (version_as b.rest) (λ k. ap (λ l. symbols_at l.items k) (symbols_as b.rest))
      (λ k. ap (λ p. piped p k) (pipes_as b.rest)))
      (λ k. ap (λ l. frame_at l.items k) (frames_as b.rest)) (λ k. ap (λ t. clear_at t k) (core_as b.rest)) (ap mark_of (files_as b.rest))

  -- a slot that gets an alarm has a job
  pub alarm_tidy : (job_at old.jobs s ≡ None → a ≡ None) → Tidy old → Tidy new
  alarm_tidy has tidy = record {
    blank = λ k h. ap (λ c. core_at c k) (core_as b.rest) ∙ tidy.blank k (sym (ap (λ t. job_at t k) (jobs_as b.rest)) ∙ h);
    quiet = λ k h. elim (cases_eq k s) [
      | inl is ↦ ap (alarm_at new.alarms.items) is ∙ b.alarms.here ∙ has (sym (ap (λ t. job_at t s) (jobs_as b.rest)) ∙ ap (job_at new.jobs) (sym is) ∙ h)
      | inr ne ↦ b.alarms.others k ne ∙ tidy.quiet k (sym (ap (λ t. job_at t k) (jobs_as b.rest)) ∙ h)
    ];
    timed = subst (λ t. t < clock_end) (sym (clock_as b.rest)) tidy.timed;
    across = subst (λ (x : Store). Across x new.jobs) (sym (files_as b.rest)) (subst (Across old.files) (sym (jobs_as b.rest)) tidy.across);
    nameless = λ k h. ap (λ l. symbols_at l.items k) (symbols_as b.rest) ∙ tidy.nameless k (sym (ap (λ t. job_at t k) (jobs_as b.rest)) ∙ h);
    on_lists = b.on_lists tidy.on_lists;
  }
