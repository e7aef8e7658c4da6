-- LOAD: a job is made, and becomes the holder of its console.
use Rattle.std.specs.Prelude.{◌≡◌, ◌≢◌, ◌<◌, ◌^◌, ℕ, Option, Some, None, is_some, List, length, Ok, Err, slice_set, refl, []}
use Rattle.std.proofs.Common.{ap, sym, subst, ◌∙◌, inl, inr, lit<}
use Rattle.std.proofs.lemmas.Bool.{cases_eq}
use Rattle.std.proofs.lemmas.List.{get_or-set_same, get_or-set_other}
use Rattle.its_pipes.specs.Pipes.{piped}
use Rattle.its_stepped.proofs.Frame.FrameLaws.{changed_same}
use Rattle.its_word.specs.Core.{no_core}
use Rattle.its_word.specs.Limits.{slots}
use Rattle.its_word.specs.Only.{Only}
use Rattle.its_records.specs.Tree.{least_free, fresh_job, no_job}
use Rattle.its_records.proofs.FreeLaws.{least_alike, least_empty, no_job_alike}
use Rattle.its_records.specs.declared.jobs.Job.{Job}
use Rattle.its_records.specs.declared.session.Reason.TheVariants as reasons
use Rattle.its_core.specs.Cores.{core_at, clear_at}
use Rattle.its_files.specs.Files.{Store, directory}
use Rattle.its_jobs.specs.Table.{job_at, superior_at}
use Rattle.its_plain.specs.Machine.Change.{console_in, inferior}
use Rattle.its_plain.specs.Machine.{Machine, whole, changed, limit, with_new}
use Rattle.its_plain.specs.Operator.Jobs.{after_load, after_load_in, new_job, held_by, with_holder}
use Rattle.its_plain.specs.Operator.Clock.{clock_end}
use Rattle.its_plain.proofs.MachineLaws.{machine_is}
use Rattle.its_shared.specs.Across.{channel_by, channel_at, Across}
use Rattle.its_shared.specs.Parts.{alarm_at, console_at, holder_at, symbols_at, raw_of, raw_at}
use Rattle.its_shared.proofs.AcrossLaws.{across_table}
use Rattle.its_shared.proofs.PartLaws.{changed_at, changed_only, fresh_closed, fresh_raw}
use Rattle.its_direct.specs.Plain.{machine_of, Aside, Tidy}
use Rattle.its_direct.specs.Effects.{Becomes, console_of}
use Rattle.its_direct.specs.Lines.{one_slot, Loads}
use Rattle.its_direct.specs.declared.plain.Plain.{Plain}
use Rattle.its_direct.specs.declared.plain.Spot.{Spot}
use Rattle.its_direct.specs.declared.plain.Spot.TheVariants as spots
use Rattle.its_direct.proofs.LineLaws.{only_touched}
use Rattle.its_direct.proofs.SlotLaws.{IsPlaced, touched_machine}
use Rattle.its_direct.proofs.ContentsLaws.{consoles_as, holders_as, files_as, clock_as, alarms_as, version_as, symbols_as, pipes_as, place_as, touched_as}

-- the least free slot of the machine is that of the jobs
has_by : (p : Plain) (k : ℕ) (o : Option Job) → is_some (raw_of p.files (core_at p.core k) (superior_at p.jobs k) (alarm_at p.alarms.items k) o) ≡ is_some o
has_by p k (Some j) = refl
has_by p k None = refl

pub least_is : (p : Plain) → least_free (limit (machine_of p)) (machine_of p).jobs ≡ least_free p.jobs.limit (job_at p.jobs)
unfolding machine_of
least_is p =
    ap (λ (n : ℕ). least_free n (machine_of p).jobs) (sym p.limited)
    ∙ least_alike p.jobs.limit (machine_of p).jobs (job_at p.jobs) (λ k. has_by p k (job_at p.jobs k))

pub empty_is : (p : Plain) → no_job (machine_of p).jobs ≡ no_job (job_at p.jobs)
unfolding machine_of
empty_is p = no_job_alike (machine_of p).jobs (job_at p.jobs) (λ k. has_by p k (job_at p.jobs k))

-- it begins at 0
fresh_placed : (u j : ℕ) (console : Option ℕ) → (fresh_job u j console).pc < 2 ^ 18
unfolding fresh_job
fresh_placed u j console = lit< tt

-- a job is made there
module _ (old new : Plain) (s u j : ℕ) (above console : Option ℕ) (tidy : Tidy old) (free : job_at old.jobs s ≡ None)
    (job : Only (job_at old.jobs) (job_at new.jobs) s (Some (fresh_job u j console))) (superior : Only (superior_at old.jobs) (superior_at new.jobs) s above)
    (core : new.core ≡ old.core) (files : new.files ≡ old.files) (alarms : new.alarms ≡ old.alarms) where
  made_here : raw_at new.files new.core new.jobs new.alarms.items s ≡ Some (whole no_core (fresh_job u j console) above)
  made_here =
      (λ t. raw_of new.files (core_at (core t) s) (superior.here t) (alarm_at (alarms t).items s) (job.here t))
      ∙ (λ t. raw_of new.files (tidy.blank s free t) above (tidy.quiet s free t) (Some (fresh_job u j console)))
      ∙ ap Some (fresh_raw new.files u j above console)

  made_other : (k : ℕ) → k ≢ s → raw_at new.files new.core new.jobs new.alarms.items k ≡ raw_at old.files old.core old.jobs old.alarms.items k
  made_other k ne = λ t. raw_of (files t) (core_at (core t) k) (superior.others k ne t) (alarm_at (alarms t).items k) (job.others k ne t)

  pub made_jobs : (k : ℕ) → raw_at new.files new.core new.jobs new.alarms.items k ≡ changed
      (raw_at old.files old.core old.jobs old.alarms.items) s (Some (whole no_core (fresh_job u j console) above)) k
  made_jobs k = changed_at _ _ s (Some (whole no_core (fresh_job u j console) above)) made_here made_other k

  apart : (n : ℕ) → job_at new.jobs n ≡ None → n ≢ s
  apart n h e = let wrong : None ≡ Some (fresh_job u j console) = sym h ∙ ap (job_at new.jobs) e ∙ job.here in absurd cc

  pub was_none : (n : ℕ) → job_at new.jobs n ≡ None → job_at old.jobs n ≡ None
  was_none n h = sym (job.others n (apart n h)) ∙ h

  pub made_across : Across new.files new.jobs
  made_across = subst (λ x. Across x new.jobs) (sym files) (across_table old.files old.jobs new.jobs tidy.across (λ k i. elim (cases_eq k s) [
    | inl is ↦
        ap (λ (x : ℕ). channel_at new.jobs x i) is ∙ ap (λ o. channel_by o i) job.here ∙ fresh_closed u j console i
        ∙ sym (ap (λ (x : ℕ). channel_at old.jobs x i) is ∙ ap (λ o. channel_by o i) free)
    | inr ne ↦ ap (λ o. channel_by o i) (job.others k ne)
  ]))

pub made_machine_at : (old new : Plain) (s u j : ℕ) (above console : Option ℕ) → Tidy old → job_at old.jobs s ≡ None
    → Only (job_at old.jobs) (job_at new.jobs) s (Some (fresh_job u j console)) → Only (superior_at old.jobs) (superior_at new.jobs) s above
    → new.core ≡ old.core → Aside old new → machine_of new ≡ with_new (machine_of old) s (whole no_core (fresh_job u j console) above)
unfolding machine_of
made_machine_at old new s u j above console tidy free job superior core aside = machine_is _ _
    (made_jobs old new s u j above console tidy free job superior core (files_as aside.is) (alarms_as aside.is))
    (λ k. ap (λ l. console_at l.items k) (consoles_as aside.is)) (λ k. ap (λ l. holder_at l k) (holders_as aside.is)) (ap directory (files_as aside.is))
    (clock_as aside.is) (version_as aside.is)
    (λ k. ap (λ l. symbols_at l.items k) (symbols_as aside.is) ∙ changed_same (symbols_at old.symbols.items) s k [] (tidy.nameless s free))
    (λ k. ap (λ l. piped l k) (pipes_as aside.is))

pub made_machine : (old new : Plain) (s u j : ℕ) (above console : Option ℕ) → Tidy old → least_free old.jobs.limit (job_at old.jobs) ≡ Some s
    → Only (job_at old.jobs) (job_at new.jobs) s (Some (fresh_job u j console)) → Only (superior_at old.jobs) (superior_at new.jobs) s above
    → new.core ≡ old.core → Aside old new → machine_of new ≡ with_new (machine_of old) s (whole no_core (fresh_job u j console) above)
made_machine old new s u j above console tidy least job superior core aside =
    made_machine_at old new s u j above console tidy (least_empty old.jobs.limit (job_at old.jobs) s least) job superior core aside

pub made_tidy_at : (old new : Plain) (s u j : ℕ) (above console : Option ℕ) → Tidy old → job_at old.jobs s ≡ None
    → Only (job_at old.jobs) (job_at new.jobs) s (Some (fresh_job u j console)) → Only (superior_at old.jobs) (superior_at new.jobs) s above
    → new.core ≡ old.core → Aside old new → Tidy new
made_tidy_at old new s u j above console tidy free job superior core aside =
    let none = was_none old new s u j above console tidy free job superior core (files_as aside.is) (alarms_as aside.is) in
    record {
      unreserved = λ n. ap (λ c. clear_at c n) core ∙ tidy.unreserved n;
      unmarked = ap (λ (x : Store). x.mark) (files_as aside.is) ∙ tidy.unmarked;
      across = made_across old new s u j above console tidy free job superior core (files_as aside.is) (alarms_as aside.is);
      blank = λ n h. ap (λ c. core_at c n) core ∙ tidy.blank n (none n h);
      quiet = λ n h. ap (λ l. alarm_at l.items n) (alarms_as aside.is) ∙ tidy.quiet n (none n h);
      nameless = λ n h. ap (λ l. symbols_at l.items n) (symbols_as aside.is) ∙ tidy.nameless n (none n h);
      addressed = λ n. elim (cases_eq n s) [
        | inl e ↦ subst IsPlaced (sym (ap (job_at new.jobs) e ∙ job.here)) (fresh_placed u j console)
        | inr ne ↦ subst IsPlaced (sym (job.others n ne)) (tidy.addressed n)
      ];
      timed = subst (λ t. t < clock_end) (sym (clock_as aside.is)) tidy.timed;
    }

pub made_tidy : (old new : Plain) (s u j : ℕ) (above console : Option ℕ) → Tidy old → least_free old.jobs.limit (job_at old.jobs) ≡ Some s
    → Only (job_at old.jobs) (job_at new.jobs) s (Some (fresh_job u j console)) → Only (superior_at old.jobs) (superior_at new.jobs) s above
    → new.core ≡ old.core → Aside old new → Tidy new
made_tidy old new s u j above console tidy least job superior core aside =
    made_tidy_at old new s u j above console tidy (least_empty old.jobs.limit (job_at old.jobs) s least) job superior core aside

-- the holder of its console
same_holder : (holders : ℕ → Option ℕ) (c s h k : ℕ) → holders c ≡ Some h → holders k ≡ changed holders c (held_by s (holders c)) k
same_holder holders c s h k e = elim (cases_eq k c) [
  | inl is ↦ ap holders is ∙ e ∙ sym (ap (changed holders c (held_by s (holders c))) is
      ∙ (changed_only holders c (held_by s (holders c))).here ∙ ap (held_by s) e)
  | inr ne ↦ sym ((changed_only holders c (held_by s (holders c))).others k ne)
]

pub held_keeps : (p : Plain) (s c h : ℕ) (o : Option ℕ) → o ≡ holder_at p.holders c → o ≡ Some h → machine_of p ≡ with_holder (machine_of p) s (Some c)
unfolding machine_of
held_keeps p s c h o is some = machine_is _ _ (λ k. refl) (λ k. refl) (λ k. same_holder (holder_at p.holders) c s h k (sym is ∙ some)) refl
    refl refl (λ k. refl) (λ k. refl)

given_by : (hs : List (Option ℕ)) (s c k : ℕ) → c < length hs → holder_at hs c ≡ None
    → holder_at (slice_set hs c (Some s)) k ≡ changed (holder_at hs) c (held_by s (holder_at hs c)) k
given_by hs s c k l none = elim (cases_eq k c) [
  | inl is ↦
      ap (holder_at (slice_set hs c (Some s))) is ∙ get_or-set_same hs c (Some s) None l
      ∙ sym (ap (changed (holder_at hs) c (held_by s (holder_at hs c))) is
      ∙ (changed_only (holder_at hs) c (held_by s (holder_at hs c))).here ∙ ap (held_by s) none)
  | inr ne ↦ get_or-set_other hs c k (Some s) None ne ∙ sym ((changed_only (holder_at hs) c (held_by s (holder_at hs c))).others k ne)
]

given_machine : (p : Plain) (s c : ℕ) → c < length p.holders → holder_at p.holders c ≡ None
    → machine_of (record p { holders = slice_set p.holders c (Some s) }) ≡ with_holder (machine_of p) s (Some c)
unfolding machine_of
given_machine p s c l none = machine_is _ _ (λ k. refl) (λ k. refl) (λ k. given_by p.holders s c k l none) refl refl refl (λ k. refl) (λ k. refl)

pub held_given : (p new : Plain) (s c : ℕ) (o : Option ℕ) → o ≡ holder_at p.holders c → o ≡ None → c < length p.holders
    → new ≡ record p { holders = slice_set p.holders c (Some s) }
    → machine_of new ≡ with_holder (machine_of p) s (Some c)
held_given p new s c o is none l e = ap machine_of e ∙ given_machine p s c l (sym is ∙ none)

holder_keeps : (p : Plain) (hs : List (Option ℕ)) → Tidy p → Tidy (record p { holders = hs })
holder_keeps p hs h = record {
  unreserved = h.unreserved;
  unmarked = h.unmarked;
  across = h.across;
  blank = h.blank;
  quiet = h.quiet;
  nameless = h.nameless;
  addressed = h.addressed;
  timed = h.timed;
}

pub holder_tidy : (p new : Plain) (hs : List (Option ℕ)) → new ≡ record p { holders = hs } → Tidy p → Tidy new
holder_tidy p new hs e h = subst Tidy (sym e) (holder_keeps p hs h)

pub console_some : (old new : Plain) (s c : ℕ) (console : Option ℕ) → console ≡ Some c
    → machine_of new ≡ with_holder (machine_of old) s (Some c) → machine_of new ≡ with_holder (machine_of old) s console
console_some old new s c console e h = h ∙ ap (with_holder (machine_of old) s) (sym e)

pub console_none : (p : Plain) (s : ℕ) (console : Option ℕ) → console ≡ None → machine_of p ≡ with_holder (machine_of p) s console
console_none p s console e = ap (with_holder (machine_of p) s) (sym e)

-- another place
placed_machine : (p : Plain) (x : Spot) → machine_of (record p { place = x }) ≡ machine_of p
unfolding machine_of
placed_machine p x = refl

placed_keeps : (p : Plain) (x : Spot) → Tidy p → Tidy (record p { place = x })
placed_keeps p x h = record {
  unreserved = h.unreserved;
  unmarked = h.unmarked;
  across = h.across;
  blank = h.blank;
  quiet = h.quiet;
  nameless = h.nameless;
  addressed = h.addressed;
  timed = h.timed;
}

pub placed_tidy : (p new : Plain) (x : Spot) → new ≡ record p { place = x } → Tidy p → Tidy new
placed_tidy p new x e h = subst Tidy (sym e) (placed_keeps p x h)

-- all of it
pub load_done : (old mid put at new : Plain) (s u j : ℕ) (console : Option ℕ) → s < slots → least_free (limit (machine_of old)) (machine_of old).jobs ≡ Some s
    → machine_of mid ≡ with_new (machine_of old) s (new_job u j console) → machine_of put ≡ with_holder (machine_of mid) s console
    → at ≡ record put { place = spots.Load s } → new ≡ record at { touched = one_slot s } → Loads old new s (after_load (machine_of old) u j console)
unfolding after_load
load_done old mid put at new s u j console l least made held placed e = record {
  is = ap (after_load_in (machine_of old) u j console) least
      ∙ ap (λ (m : Machine). Ok (m, s)) (sym (touched_machine at new (one_slot s) e ∙ ap machine_of placed
      ∙ placed_machine put (spots.Load s) ∙ held ∙ ap (λ (m : Machine). with_holder m s console) made));
  touched = only_touched at new s l e;
  place = ap (λ (p : Plain). p.place) e ∙ ap (λ (p : Plain). p.place) placed;
}

pub load_full : (p : Plain) (u j : ℕ) (console : Option ℕ) → least_free (limit (machine_of p)) (machine_of p).jobs ≡ None
    → after_load (machine_of p) u j console ≡ Err reasons.Full
unfolding after_load
load_full p u j console none = ap (after_load_in (machine_of p) u j console) none

-- an inferior, in the least free slot of the machine
pub same_free : (p : Plain) (s k : ℕ) → least_free (limit (machine_of p)) (machine_of p).jobs ≡ Some s
    → least_free p.jobs.limit (job_at p.jobs) ≡ Some k → k ≡ s
same_free p s k e f = let same : Some k ≡ Some s = sym f ∙ sym (least_is p) ∙ e in cc

pub none_full : (p : Plain) (s : ℕ) → least_free (limit (machine_of p)) (machine_of p).jobs ≡ Some s → least_free p.jobs.limit (job_at p.jobs) ≡ None → ⊥
none_full p s e f = let same : None ≡ Some s = sym f ∙ sym (least_is p) ∙ e in cc

console_by : (p : Plain) (s : ℕ) (o : Option Job) → console_in
    (raw_of p.files (core_at p.core s) (superior_at p.jobs s) (alarm_at p.alarms.items s) o) ≡ console_of o
console_by p s (Some j) = refl
console_by p s None = refl

pub console_here : (p : Plain) (s : ℕ) → console_in ((machine_of p).jobs s) ≡ console_of (job_at p.jobs s)
unfolding machine_of
console_here p s = console_by p s (job_at p.jobs s)

pub inferior_made : (old new : Plain) (maker s k u j : ℕ) (console : Option ℕ) → Tidy old
    → least_free (limit (machine_of old)) (machine_of old).jobs ≡ Some s → least_free old.jobs.limit (job_at old.jobs) ≡ Some k
    → console ≡ console_of (job_at old.jobs maker) → Only (job_at old.jobs) (job_at new.jobs) k (Some (fresh_job u j console))
    → Only (superior_at old.jobs) (superior_at new.jobs) k (Some maker)
    → new.core ≡ old.core → Aside old new → Becomes old new (with_new (machine_of old) s (inferior maker ((machine_of old).jobs maker) u j))
inferior_made old new maker s k u j console tidy least free c job superior core aside = record {
  machine = made_machine old new k u j (Some maker) console tidy free job superior core aside
      ∙ (λ t. with_new (machine_of old) (same_free old s k least free t) (whole no_core (fresh_job u j ((c ∙ sym (console_here old maker)) t)) (Some maker)));
  place = place_as aside.is;
  touched = touched_as aside.is;
}
