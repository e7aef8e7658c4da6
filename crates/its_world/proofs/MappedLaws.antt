-- The pages of all jobs: those of the raw machine are those of the cores; and the state of a world
-- in which a reserved page was mapped.
use Rattle.std.specs.Prelude.{◌≡◌, ◌<◌, ℕ, true, Option, Some, None, is_some, option_map, refl}
use Rattle.std.proofs.Common.{sym, ◌∙◌, ap, subst, inl, inr}
use Rattle.std.proofs.lemmas.Bool.{cases_eq}
use Rattle.its_word.specs.Core.{Core, no_core, pages_mapped}
use Rattle.its_word.specs.Only.{Only}
use Rattle.its_records.specs.declared.jobs.Job.{Job}
use Rattle.its_word.proofs.PageLaws.{pages_mapped-same}
use Rattle.its_core.specs.Cores.{core_at, clear_at}
use Rattle.its_core.specs.Frames.{Frames, frames_map}
use Rattle.its_files.specs.Files.{Store, directory}
use Rattle.its_jobs.specs.Table.{Table, job_at, superior_at}
use Rattle.its_plain.specs.Machine.{Whole, core_of, mapped, changed}
use Rattle.its_plain.proofs.MachineLaws.{machine_is}
use Rattle.its_world.specs.Contents.{contents}
use Rattle.its_world.specs.Mapped.{PageMapped}
use Rattle.its_plain.specs.Operator.Clock.{clock_end}
use Rattle.its_world.specs.Tidy.{Across, Tidy}
use Rattle.its_world.specs.World.{mark_of, alarm_at, raw_of, raw_at, frame_at, console_at, holder_at, state_of, in_raw, with_frames, symbols_at}
use Rattle.its_pipes.specs.Pipes.{piped}
use Rattle.its_world.specs.declared.world.World.{World}
use Rattle.its_world.proofs.PlaceLaws.{doors_in, on_lists_alike}
use Rattle.its_world.proofs.StateLaws.{state_is, raw_job, changed_at, slot_at}
use Rattle.its_world.proofs.ContentsLaws.{jobs_as, frames_as, consoles_as, holders_as, files_as, clock_as, lists_as, version_as, symbols_as, alarms_as, pipes_as}

-- the core of a slot, with or without a job, in the raw machine
core_by : (x : Store) (c : Core) (u : Option ℕ) (a : Option (ℕ × ℕ)) (o : Option Job) → (o ≡ None → c ≡ no_core) → core_of (raw_of x c u a o) ≡ c
core_by x c u a (Some j) blank = refl
core_by x c u a None blank = sym (blank refl)

pub core_raw : (w : World) (k : ℕ) → Tidy w → core_of ((state_of w).raw.jobs k) ≡ core_at w.core k
unfolding state_of
core_raw w k tidy = core_by w.files (core_at w.core k) (superior_at w.jobs k) (alarm_at w.alarms.items k) (job_at w.jobs k) (tidy.blank k)

pub mapped_raw : (w : World) → Tidy w → mapped (state_of w).raw ≡ pages_mapped (core_at w.core)
mapped_raw w tidy = pages_mapped-same (core_at w.core) (λ k. core_of ((state_of w).raw.jobs k)) (record { each = λ k. core_raw w k tidy })

-- nor do they matter to what else holds of the world
pub frames_tidy : (w : World) (f : Frames) → Tidy (with_frames w f) → Tidy w
unfolding core_at
frames_tidy w f tidy = record {
  blank = tidy.blank;
  quiet = tidy.quiet;
  timed = tidy.timed;
  across = tidy.across;
  on_lists = on_lists_alike (with_frames w f) w refl refl refl refl tidy.on_lists;
  nameless = tidy.nameless;
}

-- a job with another core
recored : (x : Store) (b c : Core) (u : Option ℕ) (a : Option (ℕ × ℕ)) (h : Whole → Whole) (o : Option Job)
    → ((i : Job) → h (raw_job x b i u a) ≡ raw_job x c i u a)
    → raw_of x c u a o ≡ option_map h (raw_of x b u a o)
recored x b c u a h (Some i) e = ap Some (sym (e i))
recored x b c u a h None e = refl

pub mapped_becomes : (old new : World) (s t k : ℕ) (c : Core) → Only (core_at old.core) (core_at new.core) t c
    → Only (clear_at old.core) (clear_at new.core) s None
    → new.core.frames ≡ frames_map s t k old.core.frames → contents new ≡ record (contents old) { core = new.core } → PageMapped old new s t k c
mapped_becomes old new s t k c core reserved pages rest = record { core = core; reserved = reserved; pages = pages; rest = rest }

module _ (old new : World) (s t n : ℕ) (c : Core) (page : PageMapped old new s t n c) where
  raw_alike : (k : ℕ) → raw_at new.files new.core new.jobs new.alarms.items k ≡ raw_of old.files (core_at new.core k)
      (superior_at old.jobs k) (alarm_at old.alarms.items k) (job_at old.jobs k)
  raw_alike k =
      ap (λ x. raw_of x (core_at new.core k) (superior_at new.jobs k) (alarm_at new.alarms.items k) (job_at new.jobs k)) (files_as page.rest)
      ∙ ap (λ (u : Table). raw_of old.files (core_at new.core k) (superior_at u k) (alarm_at new.alarms.items k) (job_at u k)) (jobs_as page.rest)
      ∙ ap (λ l. raw_of old.files (core_at new.core k) (superior_at old.jobs k) (alarm_at l.items k) (job_at old.jobs k)) (alarms_as page.rest)

  pub mapped_state : (h : Whole → Whole) → ((i : Job) → h (raw_job old.files (core_at old.core t) i (superior_at old.jobs t)
      (alarm_at old.alarms.items t)) ≡ raw_job old.files c i (superior_at old.jobs t) (alarm_at old.alarms.items t))
      → state_of new ≡ record (in_raw (state_of old) t h) { reserved = changed (state_of old).reserved s None }
  unfolding state_of
  mapped_state h e = state_is _ _
      (machine_is _ _ (slot_at _ _ t h
      (raw_alike t ∙ ap (λ d. raw_of old.files d (superior_at old.jobs t) (alarm_at old.alarms.items t) (job_at old.jobs t)) page.core.here
      ∙ recored old.files (core_at old.core t) c (superior_at old.jobs t) (alarm_at old.alarms.items t) h (job_at old.jobs t) e)
      (λ k ne. raw_alike k ∙ ap (λ d. raw_of old.files d (superior_at old.jobs k) (alarm_at old.alarms.items k) (job_at old.jobs k)) (page.core.others k ne)))
      (λ k. ap (λ l. console_at l.items k) (consoles_as page.rest)) (λ k. ap (λ l. holder_at l k) (holders_as page.rest))
      (ap directory (files_as page.rest)) (clock_as page.rest) (version_as page.rest)
      (λ k. ap (λ l. symbols_at l.items k) (symbols_as page.rest)) (λ k. ap (λ p. piped p k) (pipes_as page.rest)))
      (λ k. ap (λ l. frame_at l.items k) (frames_as page.rest))
      (changed_at _ _ s None page.reserved.here page.reserved.others)
      (ap mark_of (files_as page.rest))

  pub mapped_tidy : is_some (job_at old.jobs t) ≡ true → Tidy old → Tidy new
  mapped_tidy some tidy = record {
    blank = λ k none. elim (cases_eq k t) [
      | inl is ↦ let empty : job_at old.jobs t ≡ None = ap (job_at old.jobs) (sym is)
          ∙ sym (ap (λ (u : Table). job_at u k) (jobs_as page.rest)) ∙ none in absurd (let no = ap is_some empty in cc)
      | inr ne ↦ page.core.others k ne ∙ tidy.blank k (sym (ap (λ (u : Table). job_at u k) (jobs_as page.rest)) ∙ none)
    ];
    quiet = λ k none. ap (λ l. alarm_at l.items k) (alarms_as page.rest) ∙ tidy.quiet k (sym (ap (λ (u : Table). job_at u k) (jobs_as page.rest)) ∙ none);
    timed = subst (λ t. t < clock_end) (sym (clock_as page.rest)) tidy.timed;
    across = subst (λ (x : Store). Across x new.jobs) (sym (files_as page.rest)) (subst (Across old.files) (sym (jobs_as page.rest)) tidy.across);
    on_lists = on_lists_alike old new (jobs_as page.rest) (frames_as page.rest) (ap doors_in page.rest) (lists_as page.rest) tidy.on_lists;
    nameless = λ k none. ap (λ l. symbols_at l.items k) (symbols_as page.rest)
        ∙ tidy.nameless k (sym (ap (λ (u : Table). job_at u k) (jobs_as page.rest)) ∙ none);
  }
