-- What holds of a world whatever its state is, through one change: its pages in their frames, and
-- what is tidy.
use Rattle.std.specs.Prelude.{◌≡◌, ◌<◌, ℕ, true, Option, Some, None, is_some, slice_index_or, refl}
use Rattle.std.proofs.Common.{◌∙◌, sym, ap, subst, inl, inr}
use Rattle.std.proofs.lemmas.Bool.{cases_eq}
use Rattle.its_word.specs.Console.{Console}
use Rattle.its_word.specs.Core.{Core, no_core}
use Rattle.its_records.specs.declared.jobs.Channel.TheVariants.{Closed}
use Rattle.its_records.specs.declared.jobs.Job.{Job}
use Rattle.its_frame.specs.declared.frame.Frame.{Frame}
use Rattle.its_core.specs.Cores.{core_at, clear_at}
use Rattle.its_files.specs.Files.{Store}
use Rattle.its_jobs.specs.Table.{Table, job_at}
use Rattle.its_records.specs.declared.calls.Exit.{Exit}
use Rattle.its_plain.specs.Machine.{Pipe}
use Rattle.its_plain.specs.Machine.Own.{after_exit}
use Rattle.its_plain.specs.Operator.Clock.{clock_end}
use Rattle.its_world.specs.Filed.{OnLists}
use Rattle.its_world.specs.Tidy.{channel_by, channel_at, Across, Tidy}
use Rattle.its_world.specs.World.{alarm_at, frame_at, symbols_at, Becomes, CoreBecomes, JobBecomes, FrameBecomes, PageBecomes, ConsoleBecomes, HolderBecomes, LinkBecomes}
use Rattle.its_world.specs.declared.world.World.{World}
use Rattle.its_shared.proofs.AcrossLaws.{across_table}
use Rattle.its_world.proofs.WorldLaws.{frames_still}
use Rattle.its_world.proofs.ContentsLaws.{core_as, jobs_as, files_as, clock_as, symbols_as, alarms_as}

-- each page stays in its frame if no page is reserved and none given back
pub becomes_pages : (old new : World) (s : ℕ) (c : Core) (j : Option Job) (f : Option Frame) → Becomes old new s c j f (clear_at old.core s)
    → new.core.frames ≡ old.core.frames
becomes_pages old new s c j f b = b.pages ∙ frames_still (clear_at old.core s) s old.core.frames

pub console_pages : (old new : World) (c : ℕ) (x : Console) → ConsoleBecomes old new c x → new.core.frames ≡ old.core.frames
console_pages old new c x b = ap (λ k. k.frames) (core_as b.rest)

pub link_pages : (old new : World) (l : ℕ) (p : Option Pipe) → LinkBecomes old new l p → new.core.frames ≡ old.core.frames
link_pages old new l p b = ap (λ k. k.frames) (core_as b.rest)

pub holder_pages : (old new : World) (c : ℕ) (h : Option ℕ) → HolderBecomes old new c h → new.core.frames ≡ old.core.frames
holder_pages old new c h b = ap (λ k. k.frames) (core_as b.rest)

-- one slot is written, whose job keeps its channels; if it has no job then, its core is that of
-- none
pub tidy_becomes : (old new : World) (s : ℕ) (c : Core) (o : Option Job) (f : Option Frame) (r : Option ℕ) → Becomes old new s c o f r
    → (o ≡ None → c ≡ no_core) → (o ≡ None → job_at old.jobs s ≡ None) → ((n : ℕ) → channel_by o n ≡ channel_at old.jobs s n) → Tidy old → Tidy new
tidy_becomes old new s c o f r b bare empty kept tidy = record {
  blank = λ k h. elim (cases_eq k s) [
    | inl is ↦ ap (core_at new.core) is ∙ b.core.here ∙ bare (sym b.job.here ∙ ap (job_at new.jobs) (sym is) ∙ h)
    | inr ne ↦ b.core.others k ne ∙ tidy.blank k (sym (b.job.others k ne) ∙ h)
  ];
  quiet = λ k h. ap (λ l. alarm_at l.items k) (alarms_as b.rest) ∙ elim (cases_eq k s) [
    | inl is ↦ ap (alarm_at old.alarms.items) is ∙ tidy.quiet s (empty (sym b.job.here ∙ ap (job_at new.jobs) (sym is) ∙ h))
    | inr ne ↦ tidy.quiet k (sym (b.job.others k ne) ∙ h)
  ];
  timed = subst (λ t. t < clock_end) (sym (clock_as b.rest)) tidy.timed;
  across = subst (λ (t : Store). Across t new.jobs) (sym (files_as b.rest))
      (across_table old.files old.jobs new.jobs tidy.across (λ k n. elim (cases_eq k s) [
        | inl is ↦ ap (λ i. channel_at new.jobs i n) is ∙ ap (λ j. channel_by j n) b.job.here ∙ kept n ∙ ap (λ i. channel_at old.jobs i n) (sym is)
        | inr ne ↦ ap (λ j. channel_by j n) (b.job.others k ne)
      ]));
  nameless = λ k h. ap (λ l. symbols_at l.items k) (symbols_as b.rest) ∙ tidy.nameless k (elim (cases_eq k s) [
    | inl is ↦ ap (job_at old.jobs) is ∙ empty (sym b.job.here ∙ ap (job_at new.jobs) (sym is) ∙ h)
    | inr ne ↦ sym (b.job.others k ne) ∙ h
  ]);
  on_lists = b.on_lists tidy.on_lists;
}

-- the core and the job stay; only the core of a job is written; only its registers
pub tidy_kept : (old new : World) (s : ℕ) (f : Option Frame) (r : Option ℕ) → Becomes old new s (core_at old.core s) (job_at old.jobs s) f r
    → Tidy old → Tidy new
tidy_kept old new s f r b tidy = tidy_becomes old new s (core_at old.core s) (job_at old.jobs s) f r b (λ h. tidy.blank s h) (λ h. h) (λ n. refl) tidy

there : (o : Option Job) (c : Core) → is_some o ≡ true → o ≡ None → c ≡ no_core
there (Some j) c some none = cc
there None c some none = cc

pub tidy_core : (old new : World) (s : ℕ) (c : Core) (f : Option Frame) (r : Option ℕ) → is_some (job_at old.jobs s) ≡ true
    → Becomes old new s c (job_at old.jobs s) f r → Tidy old → Tidy new
tidy_core old new s c f r some b tidy = tidy_becomes old new s c (job_at old.jobs s) f r b (there (job_at old.jobs s) c some) (λ h. h) (λ n. refl) tidy

pub tidy_put : (old new : World) (s : ℕ) (c : Core) (i j : Job) (f : Option Frame) (r : Option ℕ) → job_at old.jobs s ≡ Some i → j.channels ≡ i.channels
    → Becomes old new s c (Some j) f r → Tidy old → Tidy new
tidy_put old new s c i j f r was same b tidy =
    tidy_becomes old new s c (Some j) f r b (λ h. cc) (λ h. cc) (λ n. ap (λ cs. slice_index_or cs n Closed) same ∙ sym (ap (λ o. channel_by o n) was)) tidy

pub tidy_left : (old new : World) (s : ℕ) (e : Exit) (i j : Job) → Some j ≡ job_at old.jobs s → i ≡ after_exit e j → JobBecomes old new s i
    → Tidy old → Tidy new
tidy_left old new s e i j was is b tidy =
    tidy_put old new s (core_at old.core s) j i (frame_at old.frames.items s) (clear_at old.core s) (sym was) (ap (λ (x : Job). x.channels) is) b tidy

-- a word of core, or a page, and then a frame
pub tidy_paid : (old mid new : World) (s : ℕ) (c : Core) (f : Option Frame) → is_some (job_at old.jobs s) ≡ true → CoreBecomes old mid s c
    → FrameBecomes mid new s f → Tidy old → Tidy new
tidy_paid old mid new s c f some a b tidy =
    tidy_kept mid new s f (clear_at mid.core s) b (tidy_core old mid s c (frame_at old.frames.items s) (clear_at old.core s) some a tidy)

pub tidy_backed : (old mid new : World) (s : ℕ) (r : Option ℕ) (f : Option Frame) → PageBecomes old mid s r → FrameBecomes mid new s f → Tidy old → Tidy new
tidy_backed old mid new s r f a b tidy = tidy_kept mid new s f (clear_at mid.core s) b (tidy_kept old mid s (frame_at old.frames.items s) r a tidy)

-- no core, no job and no file is another: a console changes, or its holder
pub tidy_alike : (old new : World) → new.core ≡ old.core → new.jobs ≡ old.jobs → new.files ≡ old.files → new.alarms ≡ old.alarms
    → new.clock ≡ old.clock → new.symbols ≡ old.symbols → (OnLists old → OnLists new) → Tidy old → Tidy new
tidy_alike old new core jobs files alarms clock symbols on_lists tidy = record {
  blank = λ k h. ap (λ c. core_at c k) core ∙ tidy.blank k (sym (ap (λ t. job_at t k) jobs) ∙ h);
  quiet = λ k h. ap (λ l. alarm_at l.items k) alarms ∙ tidy.quiet k (sym (ap (λ t. job_at t k) jobs) ∙ h);
  timed = subst (λ t. t < clock_end) (sym clock) tidy.timed;
  across = subst (λ (t : Store). Across t new.jobs) (sym files) (subst (λ (u : Table). Across old.files u) (sym jobs) tidy.across);
  nameless = λ k h. ap (λ l. symbols_at l.items k) symbols ∙ tidy.nameless k (sym (ap (λ t. job_at t k) jobs) ∙ h);
  on_lists = on_lists tidy.on_lists;
}

pub tidy_console : (old new : World) (c : ℕ) (x : Console) → ConsoleBecomes old new c x → Tidy old → Tidy new
tidy_console old new c x b tidy = tidy_alike old new (core_as b.rest) (jobs_as b.rest) (files_as b.rest) (alarms_as b.rest)
    (clock_as b.rest) (symbols_as b.rest) b.on_lists tidy

pub tidy_holder : (old new : World) (c : ℕ) (h : Option ℕ) → HolderBecomes old new c h → Tidy old → Tidy new
tidy_holder old new c h b tidy = tidy_alike old new (core_as b.rest) (jobs_as b.rest) (files_as b.rest) (alarms_as b.rest) (clock_as b.rest)
    (symbols_as b.rest) b.on_lists tidy
