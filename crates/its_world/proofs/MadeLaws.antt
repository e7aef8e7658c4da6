-- A job that is made in an empty slot, whose core is that of no job: the state of the world after
-- it, and that the world is tidy.
use Rattle.std.specs.Prelude.{◌≡◌, ◌<◌, ◌≢◌, ℕ, Option, Some, None, []}
use Rattle.std.proofs.Common.{sym, ◌∙◌, ap, subst, inl, inr}
use Rattle.std.proofs.lemmas.Bool.{cases_eq}
use Rattle.its_word.specs.Core.{no_core}
use Rattle.its_records.specs.Tree.{least_free, fresh_job, no_job}
use Rattle.its_records.proofs.FreeLaws.{least_alike, least_empty, no_job_alike}
use Rattle.its_core.specs.Cores.{core_at, clear_at}
use Rattle.its_files.specs.Files.{directory}
use Rattle.its_jobs.specs.Table.{job_at, superior_at}
use Rattle.its_plain.specs.Machine.{Whole, whole, changed, limit, with_new}
use Rattle.its_plain.proofs.MachineLaws.{machine_is}
use Rattle.its_stepped.specs.Lines.{with_raw}
use Rattle.its_stepped.proofs.Frame.FrameLaws.{changed_only, changed_same}
use Rattle.its_world.specs.Made.{JobMade}
use Rattle.its_plain.specs.Operator.Clock.{clock_end}
use Rattle.its_world.specs.Tidy.{channel_by, channel_at, Across, Tidy}
use Rattle.its_world.specs.World.{alarm_at, raw_of, raw_at, frame_at, console_at, holder_at, mark_of, state_of, symbols_at}
use Rattle.its_pipes.specs.Pipes.{piped}
use Rattle.its_world.specs.declared.world.World.{World}
use Rattle.its_shared.proofs.AcrossLaws.{across_table}
use Rattle.its_shared.proofs.PartLaws.{fresh_closed, fresh_raw}
use Rattle.its_world.proofs.PlaceLaws.{doors_in, made_on_lists}
use Rattle.its_world.proofs.StateLaws.{state_is}
use Rattle.its_world.proofs.StorageLaws.{raw_has}
use Rattle.its_world.proofs.ContentsLaws.{core_as, frames_as, consoles_as, holders_as, files_as, clock_as, lists_as, version_as, symbols_as, alarms_as, pipes_as}

module _ (old new : World) (s u n : ℕ) (superior console : Option ℕ) (made : JobMade old new s u n superior console) where
  made_here : core_at old.core s ≡ no_core → alarm_at old.alarms.items s ≡ None
      → raw_at new.files new.core new.jobs new.alarms.items s ≡ Some (whole no_core (fresh_job u n console) superior)
  made_here blank quiet =
      ap (λ c. raw_of new.files (core_at c s) (superior_at new.jobs s) (alarm_at new.alarms.items s) (job_at new.jobs s)) (core_as made.rest)
      ∙ ap (λ c. raw_of new.files c (superior_at new.jobs s) (alarm_at new.alarms.items s) (job_at new.jobs s)) blank
      ∙ ap (λ i. raw_of new.files no_core i (alarm_at new.alarms.items s) (job_at new.jobs s)) made.superior.here
      ∙ ap (λ l. raw_of new.files no_core superior (alarm_at l.items s) (job_at new.jobs s)) (alarms_as made.rest)
      ∙ ap (λ a. raw_of new.files no_core superior a (job_at new.jobs s)) quiet
      ∙ ap (raw_of new.files no_core superior None) made.job.here ∙ ap Some (fresh_raw new.files u n superior console)

  made_other : (k : ℕ) → k ≢ s → raw_at new.files new.core new.jobs new.alarms.items k ≡ raw_at old.files old.core old.jobs old.alarms.items k
  made_other k ne =
      ap (λ x. raw_of x (core_at new.core k) (superior_at new.jobs k) (alarm_at new.alarms.items k) (job_at new.jobs k)) (files_as made.rest)
      ∙ ap (λ c. raw_of old.files (core_at c k) (superior_at new.jobs k) (alarm_at new.alarms.items k) (job_at new.jobs k)) (core_as made.rest)
      ∙ ap (λ i. raw_of old.files (core_at old.core k) i (alarm_at new.alarms.items k) (job_at new.jobs k)) (made.superior.others k ne)
      ∙ ap (λ l. raw_of old.files (core_at old.core k) (superior_at old.jobs k) (alarm_at l.items k) (job_at new.jobs k)) (alarms_as made.rest)
      ∙ ap (raw_of old.files (core_at old.core k) (superior_at old.jobs k) (alarm_at old.alarms.items k)) (made.job.others k ne)

  pub made_state : core_at old.core s ≡ no_core → alarm_at old.alarms.items s ≡ None → symbols_at old.symbols.items s ≡ []
      → state_of new ≡ with_raw (state_of old) (with_new (state_of old).raw s (whole no_core (fresh_job u n console) superior))
  unfolding state_of
  made_state blank quiet nameless =
      let q : Whole = whole no_core (fresh_job u n console) superior in
      let only = changed_only (raw_at old.files old.core old.jobs old.alarms.items) s (Some q) in
      state_is _ _
      (machine_is _ _ (λ k. elim (cases_eq k s) [
        | inl is ↦ ap (raw_at new.files new.core new.jobs new.alarms.items) is ∙ made_here blank quiet
            ∙ sym (ap (changed (raw_at old.files old.core old.jobs old.alarms.items) s (Some q)) is ∙ only.here)
        | inr ne ↦ made_other k ne ∙ sym (only.others k ne)
      ]) (λ c. ap (λ l. console_at l.items c) (consoles_as made.rest)) (λ c. ap (λ l. holder_at l c) (holders_as made.rest))
      (ap directory (files_as made.rest)) (clock_as made.rest) (version_as made.rest)
      (λ k. ap (λ l. symbols_at l.items k) (symbols_as made.rest) ∙ changed_same (symbols_at old.symbols.items) s k [] nameless)
      (λ k. ap (λ p. piped p k) (pipes_as made.rest)))
      (λ k. ap (λ v. frame_at v.items k) (frames_as made.rest))
      (λ k. ap (λ c. clear_at c k) (core_as made.rest))
      (ap mark_of (files_as made.rest))

  pub made_tidy : job_at old.jobs s ≡ None → Tidy old → Tidy new
  made_tidy none tidy = record {
    blank = λ k h. ap (λ c. core_at c k) (core_as made.rest) ∙ elim (cases_eq k s) [
      | inl is ↦ let wrong : None ≡ Some (fresh_job u n console) = sym h ∙ ap (job_at new.jobs) is ∙ made.job.here in absurd cc
      | inr ne ↦ tidy.blank k (sym (made.job.others k ne) ∙ h)
    ];
    quiet = λ k h. ap (λ l. alarm_at l.items k) (alarms_as made.rest) ∙ elim (cases_eq k s) [
      | inl is ↦ let wrong : None ≡ Some (fresh_job u n console) = sym h ∙ ap (job_at new.jobs) is ∙ made.job.here in absurd cc
      | inr ne ↦ tidy.quiet k (sym (made.job.others k ne) ∙ h)
    ];
    timed = subst (λ t. t < clock_end) (sym (clock_as made.rest)) tidy.timed;
    across = subst (λ x. Across x new.jobs) (sym (files_as made.rest)) (across_table old.files old.jobs new.jobs tidy.across (λ k i. elim (cases_eq k s) [
      | inl is ↦
          ap (λ x. channel_at new.jobs x i) is ∙ ap (λ o. channel_by o i) made.job.here ∙ fresh_closed u n console i
          ∙ sym (ap (λ x. channel_at old.jobs x i) is ∙ ap (λ o. channel_by o i) none)
      | inr ne ↦ ap (λ o. channel_by o i) (made.job.others k ne)
    ]));
    on_lists = made_on_lists old new s u n console none made.job (frames_as made.rest) (ap doors_in made.rest) (lists_as made.rest) tidy.on_lists;
    nameless = λ k h. ap (λ l. symbols_at l.items k) (symbols_as made.rest) ∙ elim (cases_eq k s) [
      | inl is ↦ let wrong : None ≡ Some (fresh_job u n console) = sym h ∙ ap (job_at new.jobs) is ∙ made.job.here in absurd cc
      | inr ne ↦ tidy.nameless k (sym (made.job.others k ne) ∙ h)
    ];
  }

-- the jobs have the limit of the raw machine; no slot has a job if none of the raw machine has; its
-- least free slot is that of the jobs; it is empty, and its core is that of no job
pub limit_raw : (w : World) → w.jobs.limit ≡ limit (state_of w).raw
unfolding state_of
limit_raw w = w.limited

pub empty_raw : (w : World) → no_job (state_of w).raw.jobs ≡ no_job (job_at w.jobs)
empty_raw w = no_job_alike (state_of w).raw.jobs (job_at w.jobs) (raw_has w)

pub least_raw : (w : World) → least_free (limit (state_of w).raw) (state_of w).raw.jobs ≡ least_free w.jobs.limit (job_at w.jobs)
least_raw w =
    ap (λ (n : ℕ). least_free n (state_of w).raw.jobs) (sym (limit_raw w))
    ∙ least_alike w.jobs.limit (state_of w).raw.jobs (job_at w.jobs) (raw_has w)

pub least_blank : (w : World) (s : ℕ) → Tidy w → least_free w.jobs.limit (job_at w.jobs) ≡ Some s → core_at w.core s ≡ no_core
least_blank w s tidy e = tidy.blank s (least_empty w.jobs.limit (job_at w.jobs) s e)

pub least_quiet : (w : World) (s : ℕ) → Tidy w → least_free w.jobs.limit (job_at w.jobs) ≡ Some s → alarm_at w.alarms.items s ≡ None
least_quiet w s tidy e = tidy.quiet s (least_empty w.jobs.limit (job_at w.jobs) s e)

pub least_nameless : (w : World) (s : ℕ) → Tidy w → least_free w.jobs.limit (job_at w.jobs) ≡ Some s → symbols_at w.symbols.items s ≡ []
least_nameless w s tidy e = tidy.nameless s (least_empty w.jobs.limit (job_at w.jobs) s e)
