-- The core and the registers of one slot are written: the machine after it, and what holds of that
-- machine.
use Rattle.std.specs.Prelude.{◌≡◌, ◌≢◌, ◌<◌, ◌≤◌, ◌^◌, ℕ, Bool, Option, Some, None, IfSome, List, option_map, slice_index_or, vec_len, refl}
use Rattle.std.proofs.Common.{ap, sym, subst, ◌∙◌, inl, inr}
use Rattle.std.proofs.lemmas.Bool.{cases_eq}
use Rattle.std.proofs.Math.Bridge.{le_prop}
use Rattle.std.proofs.Math.Nat.{ℕ_set}
use Rattle.its_word.specs.Core.{Core}
use Rattle.its_word.specs.Limits.{slots, limit_of}
use Rattle.its_word.specs.Only.{Only}
use Rattle.its_records.specs.declared.jobs.Channel.TheVariants.{Closed}
use Rattle.its_records.specs.declared.jobs.Job.{Job}
use Rattle.its_core.specs.Cores.{Cores, core_at, clear_at}
use Rattle.its_files.specs.Files.{Store, directory}
use Rattle.its_jobs.specs.Table.{job_at, superior_at}
use Rattle.its_pipes.specs.Pipes.{piped}
use Rattle.its_plain.specs.Machine.Change.{in_job}
use Rattle.its_plain.specs.Machine.{Whole}
use Rattle.its_plain.specs.Operator.Clock.{clock_end}
use Rattle.its_plain.proofs.MachineLaws.{machine_is}
use Rattle.its_shared.specs.Across.{channel_by, channel_at, Across}
use Rattle.its_shared.specs.Parts.{alarm_at, console_at, holder_at, symbols_at, raw_of, raw_at}
use Rattle.its_shared.proofs.AcrossLaws.{across_table}
use Rattle.its_shared.proofs.CoreLaws.{same_clear}
use Rattle.its_shared.proofs.PartLaws.{raw_job, raw_some, slot_at}
use Rattle.its_direct.specs.Plain.{machine_of, Tidy, Aside, SlotBecomes, CoreBecomes, JobBecomes}
use Rattle.its_direct.specs.declared.plain.Plain.{Plain}
use Rattle.its_direct.proofs.ContentsLaws.{consoles_as, holders_as, files_as, clock_as, alarms_as, version_as, symbols_as, pipes_as}

pub alike : {X : Type 0} → (f g : ℕ → X) (s : ℕ) → ((k : ℕ) → g k ≡ f k) → Only f g s (f s)
alike f g s h = record { here = h s; others = λ k n. h k }

-- one write, of a core or of registers
pub core_becomes : (old new : Plain) (s : ℕ) (c : Core) → Only (core_at old.core) (core_at new.core) s c → new.core.reserved ≡ old.core.reserved
    → new.jobs ≡ old.jobs → Aside old new → CoreBecomes old new s c
core_becomes old new s c core reserved jobs aside = record {
  core = core;
  job = alike _ _ s (λ k. ap (λ t. job_at t k) jobs);
  superiors = ap (λ t. t.superiors) jobs;
  reserved = same_clear old.core new.core reserved;
  aside = aside;
}

pub job_becomes : (old new : Plain) (s : ℕ) (j : Job) → Only (job_at old.jobs) (job_at new.jobs) s (Some j) → new.jobs.superiors ≡ old.jobs.superiors
    → new.core ≡ old.core → Aside old new → JobBecomes old new s j
job_becomes old new s j job superiors core aside = record {
  core = alike _ _ s (λ k. ap (λ t. core_at t k) core);
  job = job;
  superiors = superiors;
  reserved = record { each = λ k. ap (λ t. clear_at t k) core };
  aside = aside;
}

-- and both
only_then : {X : Type 0} → (f g h : ℕ → X) (s : ℕ) (x y : X) → Only f g s x → Only g h s y → Only f h s y
only_then f g h s x y a b = record { here = b.here; others = λ k n. b.others k n ∙ a.others k n }

pub aside_then : (old mid new : Plain) → Aside old mid → Aside mid new → Aside old new
aside_then old mid new a b = record { is = b.is ∙ (λ t. record (a.is t) { core = new.core; jobs = new.jobs }) }

pub put_then : (old mid new : Plain) (s : ℕ) (c : Core) (j : Job) → CoreBecomes old mid s c → JobBecomes mid new s j → SlotBecomes old new s c (Some j)
put_then old mid new s c j a b = record {
  core = only_then _ _ _ s c c a.core (subst (λ (x : Core). Only (core_at mid.core) (core_at new.core) s x) a.core.here b.core);
  job = only_then _ _ _ s (job_at old.jobs s) (Some j) a.job b.job;
  superiors = b.superiors ∙ a.superiors;
  reserved = record { each = λ k. b.reserved.each k ∙ a.reserved.each k };
  aside = aside_then old mid new a.aside b.aside;
}

-- the machine after it
module _ (old new : Plain) (s : ℕ) (c : Core) (j : Option Job) (b : SlotBecomes old new s c j) where
  raw_other : (k : ℕ) → k ≢ s → raw_at new.files new.core new.jobs new.alarms.items k ≡ raw_at old.files old.core old.jobs old.alarms.items k
  raw_other k ne = λ t. raw_of (b.aside.is t).files (b.core.others k ne t) (slice_index_or (b.superiors t) k None)
      (alarm_at (b.aside.is t).alarms.items k) (b.job.others k ne t)

  raw_here : raw_at new.files new.core new.jobs new.alarms.items s ≡ raw_of old.files c (superior_at old.jobs s) (alarm_at old.alarms.items s) j
  raw_here = λ t. raw_of (b.aside.is t).files (b.core.here t) (slice_index_or (b.superiors t) s None) (alarm_at (b.aside.is t).alarms.items s) (b.job.here t)

pub slot_machine : (old new : Plain) (s : ℕ) (c : Core) (i k : Job) (h : Whole → Whole) → SlotBecomes old new s c (Some k) → job_at old.jobs s ≡ Some i
    → h (raw_job old.files (core_at old.core s) i (superior_at old.jobs s) (alarm_at old.alarms.items s)) ≡ raw_job old.files c k
    (superior_at old.jobs s) (alarm_at old.alarms.items s)
    → machine_of new ≡ in_job (machine_of old) s h
unfolding machine_of
slot_machine old new s c i k h b had e = machine_is _ _
    (slot_at _ _ s h
    (raw_here old new s c (Some k) b ∙ ap Some (sym e) ∙ sym (ap (option_map h) (raw_some old.files old.core old.jobs old.alarms.items s i had)))
    (raw_other old new s c (Some k) b))
    (λ x. ap (λ l. console_at l.items x) (consoles_as b.aside.is)) (λ x. ap (λ l. holder_at l x) (holders_as b.aside.is)) (ap directory (files_as b.aside.is))
    (clock_as b.aside.is) (version_as b.aside.is) (λ x. ap (λ l. symbols_at l.items x) (symbols_as b.aside.is))
    (λ x. ap (λ l. piped l x) (pipes_as b.aside.is))

-- the PC of a job is an address
abbrev pub IsPlaced : Option Job → Type 0
IsPlaced o = IfSome o (λ j. j.pc < 2 ^ 18)

pub placed_at : (p : Plain) (s : ℕ) (o : Option Job) (j : Job) → o ≡ job_at p.jobs s → o ≡ Some j → Tidy p → j.pc < 2 ^ 18
placed_at p s o j is some tidy = subst IsPlaced (sym is ∙ some) (tidy.addressed s)

-- what holds of that machine, if the job keeps its channels
pub slot_tidy : (old new : Plain) (s : ℕ) (c : Core) (i k : Job) → SlotBecomes old new s c (Some k) → job_at old.jobs s ≡ Some i
    → k.channels ≡ i.channels → k.pc < 2 ^ 18 → Tidy old → Tidy new
slot_tidy old new s c i k b had same placed tidy = record {
  unreserved = λ n. b.reserved.each n ∙ tidy.unreserved n;
  unmarked = ap (λ (x : Store). x.mark) (files_as b.aside.is) ∙ tidy.unmarked;
  across = subst (λ (x : Store). Across x new.jobs) (sym (files_as b.aside.is)) (across_table old.files old.jobs new.jobs tidy.across channels);
  blank = λ n h. b.core.others n (apart n h) ∙ tidy.blank n (sym (b.job.others n (apart n h)) ∙ h);
  quiet = λ n h. ap (λ l. alarm_at l.items n) (alarms_as b.aside.is) ∙ tidy.quiet n (sym (b.job.others n (apart n h)) ∙ h);
  nameless = λ n h. ap (λ l. symbols_at l.items n) (symbols_as b.aside.is) ∙ tidy.nameless n (sym (b.job.others n (apart n h)) ∙ h);
  addressed = λ n. elim (cases_eq n s) [
    | inl e ↦ subst IsPlaced (sym (ap (job_at new.jobs) e ∙ b.job.here)) placed
    | inr ne ↦ subst IsPlaced (sym (b.job.others n ne)) (tidy.addressed n)
  ];
  timed = subst (λ t. t < clock_end) (sym (clock_as b.aside.is)) tidy.timed;
}
  where
    apart : (n : ℕ) → job_at new.jobs n ≡ None → n ≢ s
    apart n h e = let wrong : None ≡ Some k = sym h ∙ ap (job_at new.jobs) e ∙ b.job.here in absurd cc

    channels : (n m : ℕ) → channel_at new.jobs n m ≡ channel_at old.jobs n m
    channels n m = elim (cases_eq n s) [
      | inl e ↦
          ap (λ (x : ℕ). channel_at new.jobs x m) e ∙ ap (λ o. channel_by o m) b.job.here ∙ ap (λ cs. slice_index_or cs m Closed) same
          ∙ sym (ap (λ (x : ℕ). channel_at old.jobs x m) e ∙ ap (λ o. channel_by o m) had)
      | inr ne ↦ ap (λ o. channel_by o m) (b.job.others n ne)
    ]

-- a core alone is written, of a slot that has a job
pub core_machine : (old new : Plain) (s : ℕ) (c : Core) (i : Job) → CoreBecomes old new s c → job_at old.jobs s ≡ Some i
    → machine_of new ≡ in_job (machine_of old) s (λ q. record q { core = c })
core_machine old new s c i b had = slot_machine old new s c i i (λ q. record q { core = c }) (subst (SlotBecomes old new s c) had b) had refl

pub core_tidy : (old new : Plain) (s : ℕ) (c : Core) (i : Job) → CoreBecomes old new s c → job_at old.jobs s ≡ Some i → Tidy old → Tidy new
core_tidy old new s c i b had tidy = slot_tidy old new s c i i (subst (SlotBecomes old new s c) had b) had refl
    (placed_at old s (job_at old.jobs s) i refl had tidy) tidy

-- a core that is put back as it was: a fact of the type holds in one way
pub numbers_are : {v : ℕ} (a b : (1 ≤ v) × (v ≤ 2)) → a ≡ b
numbers_are a b = λ t. (le_prop a.0 b.0 t, le_prop a.1 b.1 t)

pub core_back : (p : Plain) (x : Cores) (count : vec_len p.consoles ≡ 8) (places : vec_len p.alarms ≡ slots)
    (named : vec_len p.symbols ≡ slots) (limit : p.jobs.limit ≡ limit_of p.version)
    (number : (1 ≤ p.version) × (p.version ≤ 2)) → x ≡ p.core
    → record p { core = x; consoles_count = count; alarm_places = places; lists = named; limited = limit; numbered = number } ≡ p
core_back p x count places named limit number e =
    (λ t. record p {
      core = x;
      consoles_count = ℕ_set (vec_len p.consoles) 8 count p.consoles_count t;
      alarm_places = ℕ_set (vec_len p.alarms) slots places p.alarm_places t;
      lists = ℕ_set (vec_len p.symbols) slots named p.lists t;
      limited = ℕ_set p.jobs.limit (limit_of p.version) limit p.limited t;
      numbered = numbers_are number p.numbered t;
    })
    ∙ (λ t. record p { core = e t })

-- slots are marked as touched: neither the machine nor what holds of it is another
pub touch_machine : (p : Plain) (ts : List Bool) → machine_of (record p { touched = ts }) ≡ machine_of p
unfolding machine_of
touch_machine p ts = refl

pub touch_tidy : (p : Plain) (ts : List Bool) → Tidy p → Tidy (record p { touched = ts })
touch_tidy p ts h = record {
  unreserved = h.unreserved;
  unmarked = h.unmarked;
  across = h.across;
  blank = h.blank;
  quiet = h.quiet;
  nameless = h.nameless;
  addressed = h.addressed;
  timed = h.timed;
}

pub touched_tidy : (put new : Plain) (ts : List Bool) → new ≡ record put { touched = ts } → Tidy put → Tidy new
touched_tidy put new ts e h = subst Tidy (sym e) (touch_tidy put ts h)

pub touched_machine : (put new : Plain) (ts : List Bool) → new ≡ record put { touched = ts } → machine_of new ≡ machine_of put
touched_machine put new ts e = ap machine_of e ∙ touch_machine put ts
