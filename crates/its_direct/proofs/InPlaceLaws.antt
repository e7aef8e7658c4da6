-- Units of a slot's job that are executed in place are so many steps of its machine.
use Rattle.std.specs.Prelude.{◌≡◌, ◌≢◌, ◌<◌, ◌≤◌, ◌^◌, ◌⊎◌, is_some, IfSome, ℕ, false, Option, Some, None, length, slice_index_or, slice_set, vec_len, refl}
use Rattle.std.proofs.Common.{ap, sym, subst, ◌∙◌, inl, inr}
use Rattle.std.proofs.lemmas.Bool.{cases_lt}
use Rattle.std.proofs.lemmas.List.{get_or_past, get_or-set_same, get_or-set_other, set-get_or}
use Rattle.std.proofs.Math.Nat.{ℕ_set}
use Rattle.its_word.specs.Core.{Core}
use Rattle.its_word.specs.Limits.{slots, limit_of}
use Rattle.its_word.specs.Only.{Only}
use Rattle.its_records.specs.declared.jobs.Job.{Job}
use Rattle.its_core.specs.Cores.{Cores, core_at}
use Rattle.its_jobs.specs.Table.{Table, job_at, superior_at}
use Rattle.its_plain.specs.Machine.Change.{in_job}
use Rattle.its_plain.specs.Machine.{Machine}
use Rattle.its_shared.specs.Parts.{alarm_at}
use Rattle.pdp_exec.proofs.SeriesLaws.{units_keep}
use Rattle.pdp_exec.specs.Units.{after_unit, after_units, left}
use Rattle.its_direct.specs.InPlace.{UnitsIn}
use Rattle.its_direct.specs.Plain.{machine_of, is_touched, no_slots, Tidy}
use Rattle.its_direct.specs.Series.{Series, unit_due}
use Rattle.its_direct.specs.declared.plain.Plain.{Plain}
use Rattle.its_direct.proofs.ContentsLaws.{place_as}
use Rattle.its_direct.proofs.SeriesLaws.{due_spent, units_series, with_left}
use Rattle.its_direct.proofs.SlotLaws.{core_becomes, job_becomes, numbers_are, put_then, slot_machine, slot_tidy, touched_machine, touched_tidy}
use Rattle.its_direct.proofs.TouchLaws.{none_touched, slot_some}
use Rattle.its_direct.proofs.UserLaws.{becomes_raw, own_is, own_of}

-- a job is written in its table
put_here : (t : Table) (s : ℕ) (i j : Job) → job_at t s ≡ Some i → Only (job_at t) (job_at (record t { jobs = slice_set t.jobs s (Some j) })) s (Some j)
put_here t s i j h = record {
  here = get_or-set_same t.jobs s (Some j) None (within (cases_lt s (length t.jobs)));
  others = λ k ne. get_or-set_other t.jobs s k (Some j) None ne;
}
  where
    within : (s < length t.jobs) ⊎ (length t.jobs ≤ s) → s < length t.jobs
    within (inl lt) = lt
    within (inr ge) = let n : slice_index_or t.jobs s None ≡ None = get_or_past t.jobs s None ge in cc

job_put : (t : Table) (x s : ℕ) (i j : Job) → x ≡ s → job_at t s ≡ Some i
    → Only (job_at t) (job_at (record t { jobs = slice_set t.jobs x (Some j) })) s (Some j)
job_put t x s i j at h = subst (λ (y : ℕ). Only (job_at t) (job_at (record t { jobs = slice_set t.jobs y (Some j) })) s (Some j)) (sym at)
    (put_here t s i j h)

put_back : (t : Table) (x s : ℕ) (j : Job) → x ≡ s → job_at t s ≡ Some j → slice_set t.jobs x (Some j) ≡ t.jobs
put_back t x s j at h = ap (λ (y : ℕ). slice_set t.jobs y (Some j)) at ∙ ap (slice_set t.jobs s) (sym h) ∙ set-get_or t.jobs s None

-- the machine with that core and those registers: a fact of the type holds in one way
module _ (p : Plain) (x s : ℕ) (c : Cores) (i j : Job) (count : vec_len p.consoles ≡ 8) (places : vec_len p.alarms ≡ slots)
    (named : vec_len p.symbols ≡ slots) (limit : p.jobs.limit ≡ limit_of p.version)
    (number : (1 ≤ p.version) × (p.version ≤ 2)) (at : x ≡ s) (had : job_at p.jobs s ≡ Some i) where
  abbrev put : Plain
  put = record p {
    core = c;
    jobs = record p.jobs { jobs = slice_set p.jobs.jobs x (Some j) };
    consoles_count = count;
    alarm_places = places;
    lists = named;
    limited = limit;
    numbered = number;
  }

  pub units_in : (n k : ℕ) → ((y : ℕ) → y ≢ s → core_at c y ≡ core_at p.core y) → c.reserved ≡ p.core.reserved
      → after_units n (Some (left (core_at p.core s) i)) ≡ Some (left (core_at c s) j) → j.pc < 2 ^ 18
      → (n < k → after_unit (Some (left (core_at c s) j)) ≡ None) → UnitsIn p put s n k
  units_in n k others reserved is placed most = record {
    job = i;
    left = left (core_at c s) j;
    had = had;
    is = is;
    becomes = put_then p (record p { core = c }) put s (core_at c s) j
        (core_becomes p (record p { core = c }) s (core_at c s) (record { here = refl; others = others }) reserved refl
        (record { is = refl }))
        (job_becomes (record p { core = c }) put s j (job_put p.jobs x s i j at had) refl refl
        (record { is = refl }));
    placed = placed;
    most = most;
  }

  pub units_same : (c ≡ p.core) × (j ≡ i) → put ≡ p
  units_same e =
      (λ t. record p {
        core = c;
        jobs = record p.jobs { jobs = slice_set p.jobs.jobs x (Some j) };
        consoles_count = ℕ_set (vec_len p.consoles) 8 count p.consoles_count t;
        alarm_places = ℕ_set (vec_len p.alarms) slots places p.alarm_places t;
        lists = ℕ_set (vec_len p.symbols) slots named p.lists t;
        limited = ℕ_set p.jobs.limit (limit_of p.version) limit p.limited t;
        numbered = numbers_are number p.numbered t;
      })
      ∙ (λ t. record p { core = e.0 t; jobs = record p.jobs { jobs = put_back p.jobs x s j at (had ∙ ap Some (sym e.1)) t } })

-- the job that runs
abbrev IsRunning : Option Job → Type 0
IsRunning o = IfSome o (λ j. j.stopped ≡ false)

pub runs_there : (p : Plain) (s : ℕ) (o : Option Job) (i : Job) → o ≡ job_at p.jobs s → o ≡ Some i → i.stopped ≡ false
    → IfSome (job_at p.jobs s) (λ j. j.stopped ≡ false)
runs_there p s o i is some running = subst IsRunning (sym some ∙ is) running

pub job_runs : (old new : Plain) (s n k : ℕ) (u : UnitsIn old new s n k) → IfSome (job_at old.jobs s) (λ j. j.stopped ≡ false) → u.job.stopped ≡ false
job_runs old new s n k u running = subst IsRunning u.had running

-- if they are fewer than could be, no other is due
pub none_due : (old put : Plain) (s n k : ℕ) (u : UnitsIn old put s n k) → n < k → unit_due (machine_of put) s ≡ false
none_due old put s n k u less = due_spent put s u.left.job u.becomes.job.here
    (ap (λ (d : Core). after_unit (Some (left d u.left.job))) u.becomes.core.here ∙ u.most less)

-- so many steps
module _ (old put new : Plain) (s n k : ℕ) (u : UnitsIn old put s n k) (e : new ≡ record put { touched = no_slots }) where
  channels_kept : u.left.job.channels ≡ u.job.channels
  channels_kept = (units_keep n (left (core_at old.core s) u.job) u.left u.is).channels

  in_machine : machine_of new ≡ in_job (machine_of old) s (with_left u.left)
  in_machine = touched_machine put new no_slots e
      ∙ slot_machine old put s u.left.core u.job u.left.job (with_left u.left) u.becomes u.had
      (becomes_raw old.files (core_at old.core s) u.left.core (superior_at old.jobs s) (alarm_at old.alarms.items s) u.job u.left.job channels_kept)

  pub in_series : u.job.stopped ≡ false → Series n (machine_of old) s (machine_of new)
  in_series running = subst (Series n (machine_of old) s) (sym in_machine)
      (units_series n (machine_of old) s (own_of old s u.job) (left (core_at old.core s) u.job) u.left
      (record { had = own_is old s u.job u.had; core = refl; job = refl; going = running }) u.is)

  pub in_tidy : Tidy old → Tidy new
  in_tidy tidy = touched_tidy put new no_slots e (slot_tidy old put s u.left.core u.job u.left.job u.becomes u.had channels_kept u.placed tidy)

  pub in_jobs : (x : ℕ) → is_some ((machine_of new).jobs x) ≡ is_some ((machine_of old).jobs x)
  in_jobs x = ap (λ (m : Machine). is_some (m.jobs x)) in_machine ∙ slot_some (machine_of old).jobs s (with_left u.left) x

  pub in_place : new.place ≡ old.place
  in_place = ap (λ (p : Plain). p.place) e ∙ place_as u.becomes.aside.is

  pub in_touched : (x : ℕ) → is_touched new x ≡ false
  in_touched = none_touched new.touched (ap (λ (p : Plain). p.touched) e)

  pub in_due : n < k → unit_due (machine_of new) s ≡ false
  in_due less = ap (λ (m : Machine). unit_due m s) (touched_machine put new no_slots e) ∙ none_due old put s n k u less
