-- The removal of a job with all jobs below it.
use Rattle.std.specs.Prelude.{if◌then◌else◌, ◌≡◌, ◌≤◌, ◌<◌, ℕ, ◌+◌, Bool, true, false, Option, Some, None, List, [], option_map, slice_index_or, refl}
use Rattle.std.proofs.Common.{sym, ◌∙◌, ap, subst, inl, inr, arith}
use Rattle.std.proofs.lemmas.Bool.{cases_eq, cases_lt, cases_Bool, both_ways}
use Rattle.std.proofs.lemmas.List.{get_or_past}
use Rattle.its_word.specs.Core.{Core, no_core}
use Rattle.its_word.specs.Limits.{slots}
use Rattle.its_word.specs.Only.{Only}
use Rattle.its_records.specs.declared.jobs.Channel.{Channel}
use Rattle.its_records.specs.declared.jobs.Channel.TheVariants.{Closed}
use Rattle.its_records.specs.declared.jobs.Job.{Job}
use Rattle.its_core.specs.Cores.{core_at, clear_at}
use Rattle.its_files.specs.Files.{Store, directory}
use Rattle.its_jobs.specs.Table.{job_at, superior_at, in_tree, IsTree, Without}
use Rattle.its_jobs.proofs.TreeLaws.{past_none}
use Rattle.its_pipes.specs.Pipes.{piped}
use Rattle.its_plain.specs.Machine.Change.{channel_in, ends_after_removal, in_job, job_after_removal, on_slot, holder_after_removal, after_removal, after_shut, superiors, symbols_after_removal}
use Rattle.its_plain.specs.Machine.{Machine, Shut, Symbol, Whole}
use Rattle.its_plain.specs.Operator.Clock.{clock_end}
use Rattle.its_plain.specs.Machine.Own.{on_channel}
use Rattle.its_plain.proofs.MachineLaws.{machine_is}
use Rattle.its_shared.specs.Across.{channel_by, channel_at, channel_left, Across}
use Rattle.its_shared.specs.Can.{chan_in}
use Rattle.its_shared.specs.Parts.{alarm_at, bare, chan_of, console_at, holder_at, raw_at, raw_of, symbols_at}
use Rattle.its_shared.proofs.AcrossLaws.{across_alike}
use Rattle.its_shared.proofs.CoreLaws.{same_clear}
use Rattle.its_shared.proofs.LeftLaws.{left_alike, left_chan, raw_superior, shut_here, shut_there}
use Rattle.its_shared.proofs.PartLaws.{on_slot_here, on_slot_other}
use Rattle.its_direct.specs.Clock.{AlarmBecomes}
use Rattle.its_direct.specs.Effects.{Becomes}
use Rattle.its_direct.specs.Lines.{SymbolsBecome}
use Rattle.its_direct.specs.Contents.{Contents, contents}
use Rattle.its_direct.specs.Plain.{machine_of, Aside, Tidy, JobBecomes}
use Rattle.its_direct.specs.Removal.{Bares, Closes, ClosesTree, Leaves, Shares, SlotKept, SlotSwept, Sweeps, Swept}
use Rattle.its_direct.specs.declared.plain.Plain.{Plain}
use Rattle.its_direct.proofs.ChannelLaws.{chan_shut, placed_bare}
use Rattle.its_direct.proofs.SlotLaws.{IsPlaced}
use Rattle.its_direct.proofs.ContentsLaws.{core_as, jobs_as, consoles_as, files_as, clock_as, alarms_as, version_as, symbols_as, place_as, touched_as}

-- the superiors of the machine are those of the jobs
pub superiors_are : (p : Plain) → IsTree p.jobs.jobs p.jobs.superiors → superiors (machine_of p) ≡ superior_at p.jobs
unfolding machine_of
superiors_are p t = λ i k. raw_superior p.files p.core p.jobs p.alarms.items k t i

-- the channels of a job closed, one by one
pub all_start : (p : Plain) (s : ℕ) → Closes p p s 0
all_start p s = record { jobs = λ k ne. refl; rest = refl; superiors = refl; place = refl; touched = refl; closed = λ i l. absurd (omega arith) }

pub all_next : (old now new : Plain) (s n : ℕ) → Closes old now s n → Becomes now new (in_job (machine_of now) s (on_channel n (λ c. Shut)))
    → new.jobs.superiors ≡ now.jobs.superiors → Closes old new s (n + 1)
all_next old now new s n h b sup = record {
  jobs = λ k ne. ap (λ (m : Machine). m.jobs k) b.machine ∙ on_slot_other (machine_of now).jobs s k (on_channel n (λ c. Shut)) ne ∙ h.jobs k ne;
  rest = b.machine
      ∙ ap (λ (m : Machine). record m { jobs = on_slot (machine_of now).jobs s (on_channel n (λ c. Shut)) }) h.rest
      ∙ ap (λ (js : ℕ → Option Whole). record (machine_of old) { jobs = js }) (sym (ap (λ (m : Machine). m.jobs) b.machine));
  superiors = sup ∙ h.superiors;
  place = b.place ∙ h.place;
  touched = b.touched ∙ h.touched;
  closed = λ i l.
      ap (λ (m : Machine). channel_in (m.jobs s) i) b.machine
      ∙ ap (λ (o : Option Whole). channel_in o i) (on_slot_here (machine_of now).jobs s (on_channel n (λ c. Shut)))
      ∙ elim (cases_eq i n) [
        | inl e ↦ ap (channel_in (option_map (on_channel n (λ c. Shut)) ((machine_of now).jobs s))) e ∙ shut_here ((machine_of now).jobs s) n
        | inr ne ↦ shut_there ((machine_of now).jobs s) n i ne ∙ h.closed i (omega arith)
      ];
}

pub all_end : (old now : Plain) (s n : ℕ) → 16 ≤ n → Closes old now s n → Closes old now s 16
all_end old now s n le h = record {
  jobs = h.jobs;
  rest = h.rest;
  superiors = h.superiors;
  place = h.place;
  touched = h.touched;
  closed = λ i l. h.closed i (omega arith);
}

-- and those of all jobs of a tree
pub tree_start : (gone : ℕ → Bool) (p : Plain) → ClosesTree gone p p 0
tree_start gone p = record { jobs = λ k g. refl; rest = refl; superiors = refl; place = refl; touched = refl; closed = λ k i l. absurd (omega arith) }

tree_more : (gone : ℕ → Bool) (old now new : Plain) (n : ℕ) → gone n ≡ true → ClosesTree gone old now n → Closes now new n 16
    → ClosesTree gone old new (n + 1)
tree_more gone old now new n g h b = record {
  jobs = λ k f. b.jobs k (λ e. both_ways (gone k) f (ap gone e ∙ g)) ∙ h.jobs k f;
  rest = b.rest ∙ ap (λ (m : Machine). record m { jobs = (machine_of new).jobs }) h.rest;
  superiors = b.superiors ∙ h.superiors;
  place = b.place ∙ h.place;
  touched = b.touched ∙ h.touched;
  closed = λ k i l f m. elim (cases_eq k n) [
    | inl e ↦ ap (λ x. chan_in (machine_of new) x i) e ∙ b.closed i m
    | inr ne ↦ ap (λ (o : Option Whole). channel_in o i) (b.jobs k ne) ∙ h.closed k i (omega arith) f m
  ];
}

along : (gone : ℕ → Bool) (old now : Plain) (r n : ℕ) → ClosesTree gone old now n → in_tree (superior_at now.jobs) r n ≡ in_tree (superior_at old.jobs) r n
along gone old now r n h = ap (λ (us : List (Option ℕ)). in_tree (λ k. slice_index_or us k None) r n) h.superiors

pub tree_gone : (old now new : Plain) (r n : ℕ) (b : Bool) → b ≡ in_tree (superior_at now.jobs) r n → b ≡ true
    → ClosesTree (in_tree (superior_at old.jobs) r) old now n → Closes now new n 16
    → ClosesTree (in_tree (superior_at old.jobs) r) old new (n + 1)
tree_gone old now new r n b is is_so h c = tree_more (in_tree (superior_at old.jobs) r) old now new n
    (sym (along (in_tree (superior_at old.jobs) r) old now r n h) ∙ sym is ∙ is_so) h c

pub tree_kept : (old now : Plain) (r n : ℕ) (b : Bool) → b ≡ in_tree (superior_at now.jobs) r n → b ≡ false
    → ClosesTree (in_tree (superior_at old.jobs) r) old now n
    → ClosesTree (in_tree (superior_at old.jobs) r) old now (n + 1)
tree_kept old now r n b is is_not h = record {
  jobs = h.jobs;
  rest = h.rest;
  superiors = h.superiors;
  place = h.place;
  touched = h.touched;
  closed = λ k i l f m. elim (cases_eq k n) [
    | inl e ↦ absurd (both_ways (in_tree (superior_at old.jobs) r k)
        (ap (in_tree (superior_at old.jobs) r) e ∙ sym (along (in_tree (superior_at old.jobs) r) old now r n h) ∙ sym is ∙ is_not) f)
    | inr ne ↦ h.closed k i (omega arith) f m
  ];
}

pub tree_end : (gone : ℕ → Bool) (old now : Plain) (n : ℕ) → slots ≤ n → ClosesTree gone old now n → ClosesTree gone old now slots
tree_end gone old now n le h = record {
  jobs = h.jobs;
  rest = h.rest;
  superiors = h.superiors;
  place = h.place;
  touched = h.touched;
  closed = λ k i l f m. h.closed k i (omega arith) f m;
}

-- the slot of a job that is to go
by_gone : {X : Type 0} (b : Bool) (x y : X) → b ≡ true → x ≡ (if b then x else y)
by_gone true x y h = refl
by_gone false x y h = cc

by_kept : {X : Type 0} (b : Bool) (x y : X) → b ≡ false → y ≡ (if b then x else y)
by_kept false x y h = refl
by_kept true x y h = cc

pub bares_sweep : (gone : ℕ → Bool) (old new : Plain) (s : ℕ) → gone s ≡ true → Bares old new s → Sweeps gone old new s
bares_sweep gone old new s g b = record {
  here = record {
    core = b.core.here ∙ by_gone (gone s) no_core (core_at old.core s) g;
    alarm = b.alarm.here ∙ by_gone (gone s) None (alarm_at old.alarms.items s) g;
    symbols = b.symbols.here ∙ by_gone (gone s) [] (symbols_at old.symbols.items s) g;
    job = λ f. absurd (both_ways (gone s) f g);
  };
  others = λ k ne. record { core = b.core.others k ne; alarm = b.alarm.others k ne; symbols = b.symbols.others k ne; job = ap (λ t. job_at t k) b.jobs };
  shares = b.shares;
}

pub sweeps_gone : (old new : Plain) (r s : ℕ) (b : Bool) → b ≡ in_tree (superior_at old.jobs) r s → b ≡ true → Bares old new s
    → Sweeps (in_tree (superior_at old.jobs) r) old new s
sweeps_gone old new r s b is is_so h = bares_sweep (in_tree (superior_at old.jobs) r) old new s (sym is ∙ is_so) h

-- what is left of an equation of contents, if cores, jobs, alarms and symbols are those of a new
-- machine
shared : (new : Plain) {p q : Contents} → p ≡ q
    → record p { core = new.core; jobs = new.jobs; alarms = new.alarms; symbols = new.symbols } ≡ record q
    { core = new.core; jobs = new.jobs; alarms = new.alarms; symbols = new.symbols }
shared new e = λ t. record (e t) { core = new.core; jobs = new.jobs; alarms = new.alarms; symbols = new.symbols }

pub bares_is : (old one two new : Plain) (s : ℕ) → Only (core_at old.core) (core_at one.core) s no_core
    → one.core.reserved ≡ old.core.reserved → one.jobs ≡ old.jobs → Aside old one
    → AlarmBecomes one two s None → SymbolsBecome two new s [] → Bares old new s
bares_is old one two new s core reserved jobs aside a b =
    let cores : new.core ≡ one.core = core_as b.rest ∙ core_as a.rest in
    let same : new.jobs ≡ old.jobs = jobs_as b.rest ∙ jobs_as a.rest ∙ jobs in
    record {
      core = record { here = ap (λ c. core_at c s) cores ∙ core.here; others = λ k ne. ap (λ c. core_at c k) cores ∙ core.others k ne };
      alarm = record {
        here = ap (λ l. alarm_at l.items s) (alarms_as b.rest) ∙ a.alarms.here;
        others = λ k ne. ap (λ l. alarm_at l.items k) (alarms_as b.rest) ∙ a.alarms.others k ne ∙ ap (λ l. alarm_at l.items k) (alarms_as aside.is);
      };
      symbols = record {
        here = b.symbols.here;
        others = λ k ne. b.symbols.others k ne
            ∙ ap (λ l. symbols_at l.items k) (symbols_as a.rest ∙ symbols_as aside.is);
      };
      jobs = same;
      shares = record {
        superiors = ap (λ t. t.superiors) same;
        reserved = λ k. ap (λ c. clear_at c k) cores ∙ (same_clear old.core one.core reserved).each k;
        rest = shared new b.rest ∙ shared new a.rest ∙ shared new aside.is;
      };
    }

-- the slot of one that stays
one_sweep : (gone : ℕ → Bool) (old new : Plain) (s : ℕ) (i : Job) (cs : List Channel) → job_at old.jobs s ≡ Some i → gone s ≡ false
    → ((n : ℕ) → slice_index_or cs n Closed ≡ channel_left gone (slice_index_or i.channels n Closed))
    → JobBecomes old new s (record i { channels = cs }) → Sweeps gone old new s
one_sweep gone old new s i cs had f turned b = record {
  here = record {
    core = b.core.here ∙ by_kept (gone s) no_core (core_at old.core s) f;
    alarm = ap (λ l. alarm_at l.items s) (alarms_as b.aside.is) ∙ by_kept (gone s) None (alarm_at old.alarms.items s) f;
    symbols = ap (λ l. symbols_at l.items s) (symbols_as b.aside.is) ∙ by_kept (gone s) [] (symbols_at old.symbols.items s) f;
    job = λ g. record {
      bare = ap (option_map bare) b.job.here ∙ sym (ap (option_map bare) had);
      chans = λ n. ap (λ o. channel_by o n) b.job.here ∙ turned n ∙ sym (ap (λ o. channel_left gone (channel_by o n)) had);
    };
  };
  others = λ k ne. record {
    core = b.core.others k ne;
    alarm = ap (λ l. alarm_at l.items k) (alarms_as b.aside.is);
    symbols = ap (λ l. symbols_at l.items k) (symbols_as b.aside.is);
    job = b.job.others k ne;
  };
  shares = record {
    superiors = b.superiors;
    reserved = b.reserved.each;
    rest = shared new b.aside.is;
  };
}

pub left_sweep : (old new : Plain) (r s : ℕ) (o : Option Job) (i : Job) (cs : List Channel) → o ≡ job_at old.jobs s → o ≡ Some i
    → in_tree (superior_at old.jobs) r s ≡ false
    → ((n : ℕ) → slice_index_or cs n Closed ≡ channel_left (in_tree (superior_at old.jobs) r) (slice_index_or i.channels n Closed))
    → JobBecomes old new s (record i { channels = cs })
    → Sweeps (in_tree (superior_at old.jobs) r) old new s
left_sweep old new r s o i cs is some f turned b = one_sweep (in_tree (superior_at old.jobs) r) old new s i cs (sym is ∙ some) f turned b

none_left : (gone : ℕ → Bool) (o : Option Job) → o ≡ None → Leaves gone o o
none_left gone o e = subst (λ (p : Option Job). Leaves gone p p) (sym e) (record { bare = refl; chans = λ n. refl })

none_sweep : (gone : ℕ → Bool) (p : Plain) (s : ℕ) → job_at p.jobs s ≡ None → gone s ≡ false → Sweeps gone p p s
none_sweep gone p s none f = record {
  here = record {
    core = by_kept (gone s) no_core (core_at p.core s) f;
    alarm = by_kept (gone s) None (alarm_at p.alarms.items s) f;
    symbols = by_kept (gone s) [] (symbols_at p.symbols.items s) f;
    job = λ g. none_left gone (job_at p.jobs s) none;
  };
  others = λ k ne. record { core = refl; alarm = refl; symbols = refl; job = refl };
  shares = record { superiors = refl; reserved = λ k. refl; rest = refl };
}

pub empty_sweep : (p : Plain) (r s : ℕ) (o : Option Job) → o ≡ job_at p.jobs s → o ≡ None → in_tree (superior_at p.jobs) r s ≡ false
    → Sweeps (in_tree (superior_at p.jobs) r) p p s
empty_sweep p r s o is none f = none_sweep (in_tree (superior_at p.jobs) r) p s (sym is ∙ none) f

-- slot after slot
shares_same : (p : Plain) → Shares p p
shares_same p = record { superiors = refl; reserved = λ k. refl; rest = refl }

shares_then : (old now new : Plain) → Shares old now → Shares now new → Shares old new
shares_then old now new a b = record {
  superiors = b.superiors ∙ a.superiors;
  reserved = λ k. b.reserved k ∙ a.reserved k;
  rest = b.rest ∙ shared new a.rest;
}

kept_same : (p : Plain) (k : ℕ) → SlotKept p p k
kept_same p k = record { core = refl; alarm = refl; symbols = refl; job = refl }

kept_then : (old now new : Plain) (k : ℕ) → SlotKept old now k → SlotKept now new k → SlotKept old new k
kept_then old now new k a b = record { core = b.core ∙ a.core; alarm = b.alarm ∙ a.alarm; symbols = b.symbols ∙ a.symbols; job = b.job ∙ a.job }

swept_then : (gone : ℕ → Bool) (old now new : Plain) (k : ℕ) → SlotSwept gone old now k → SlotKept now new k → SlotSwept gone old new k
swept_then gone old now new k a b = record {
  core = b.core ∙ a.core;
  alarm = b.alarm ∙ a.alarm;
  symbols = b.symbols ∙ a.symbols;
  job = λ f. subst (Leaves gone (job_at old.jobs k)) (sym b.job) (a.job f);
}

then_swept : (gone : ℕ → Bool) (old now new : Plain) (k : ℕ) → SlotKept old now k → SlotSwept gone now new k → SlotSwept gone old new k
then_swept gone old now new k a b = record {
  core = b.core ∙ ap (λ (c : Core). if gone k then no_core else c) a.core;
  alarm = b.alarm ∙ ap (λ (x : Option (ℕ × ℕ)). if gone k then None else x) a.alarm;
  symbols = b.symbols ∙ ap (λ (xs : List Symbol). if gone k then [] else xs) a.symbols;
  job = λ f. subst (λ (o : Option Job). Leaves gone o (job_at new.jobs k)) a.job (b.job f);
}

pub swept_start : (gone : ℕ → Bool) (p : Plain) → Swept gone p p 0
swept_start gone p = record { done = λ k l. absurd (omega arith); rest = λ k l. kept_same p k; shares = shares_same p }

swept_more : (gone : ℕ → Bool) (old now new : Plain) (n : ℕ) → Swept gone old now n → Sweeps gone now new n → Swept gone old new (n + 1)
swept_more gone old now new n h b = record {
  done = λ k l. elim (cases_eq k n) [
    | inl e ↦ subst (SlotSwept gone old new) (sym e) (then_swept gone old now new n (h.rest n (omega arith)) b.here)
    | inr ne ↦ swept_then gone old now new k (h.done k (omega arith)) (b.others k ne)
  ];
  rest = λ k l. kept_then old now new k (h.rest k (omega arith)) (b.others k (λ e. omega arith));
  shares = shares_then old now new h.shares b.shares;
}

pub swept_next : (old now new : Plain) (r n : ℕ) → Swept (in_tree (superior_at old.jobs) r) old now n
    → Sweeps (in_tree (superior_at now.jobs) r) now new n → Swept (in_tree (superior_at old.jobs) r) old new (n + 1)
swept_next old now new r n h b = swept_more (in_tree (superior_at old.jobs) r) old now new n h
    (subst (λ (us : List (Option ℕ)). Sweeps (in_tree (λ k. slice_index_or us k None) r) now new n) h.shares.superiors b)

pub swept_end : (gone : ℕ → Bool) (old now : Plain) (n : ℕ) → slots ≤ n → Swept gone old now n → n ≤ slots → Swept gone old now slots
swept_end gone old now n le h ge = let e : n ≡ slots = omega arith in subst (Swept gone old now) e h

-- what is left of the jobs that stay
raw_left : (x : Store) (c : Core) (u : Option ℕ) (a : Option (ℕ × ℕ)) (gone : ℕ → Bool) (i j : Option Job) → Leaves gone i j
    → raw_of x c u a j ≡ option_map (after_shut gone) (raw_of x c u a i)
raw_left x c u a gone (Some i) (Some j) h =
    let b : bare j ≡ bare i = let e = h.bare in cc in
    λ t. Some (record {
      core = c;
      job = b t;
      superior = u;
      channels = λ n.
          (ap (chan_of x) (h.chans n) ∙ left_chan x gone (slice_index_or i.channels n Closed)) t;
      alarm = a;
    })
raw_left x c u a gone None None h = refl
raw_left x c u a gone (Some i) None h = let e = h.bare in cc
raw_left x c u a gone None (Some j) h = let e = h.bare in cc

no_leave : (gone : ℕ → Bool) → Leaves gone None None
no_leave gone = record { bare = refl; chans = λ n. refl }

none_bare : (i j : Option Job) → option_map bare i ≡ option_map bare j → i ≡ None → j ≡ None
none_bare i None e h = refl
none_bare (Some i) (Some j) e h = cc
none_bare None (Some j) e h = cc

symbols_if : (b : Bool) (ss : List Symbol) → (if b then [] else ss) ≡ symbols_after_removal b ss
symbols_if true ss = refl
symbols_if false ss = refl

-- the jobs are removed after a sweep
pub record Removes (old mid new : Plain) (r : ℕ) : Type 0 where
  pub swept : Swept (in_tree (superior_at old.jobs) r) old mid slots
  pub jobs : Without (in_tree (superior_at mid.jobs) r) (job_at mid.jobs) (job_at new.jobs)
  pub superiors : Without (in_tree (superior_at mid.jobs) r) (superior_at mid.jobs) (superior_at new.jobs)
  pub holders : (c : ℕ) → holder_at new.holders c ≡ holder_after_removal (in_tree (superior_at mid.jobs) r) (superior_at mid.jobs r) (holder_at mid.holders c)
  pub links : (l : ℕ) → piped new.pipes l ≡ ends_after_removal (in_tree (superior_at mid.jobs) r) (piped mid.pipes l)
  pub rest : contents new ≡ record (contents mid) { jobs = new.jobs; holders = new.holders; pipes = new.pipes }

module _ (old mid new : Plain) (r : ℕ) (low : r < slots) (tree : IsTree old.jobs.jobs old.jobs.superiors)
    (closed : (k n : ℕ) → in_tree (superior_at old.jobs) r k ≡ true → channel_at old.jobs k n ≡ Closed) (tidy : Tidy old) (b : Removes old mid new r) where
  same_tree : in_tree (superior_at mid.jobs) r ≡ in_tree (superior_at old.jobs) r
  same_tree = ap (λ (us : List (Option ℕ)). in_tree (λ k. slice_index_or us k None) r) b.swept.shares.superiors

  slot_swept : (k : ℕ) → SlotSwept (in_tree (superior_at old.jobs) r) old mid k
  slot_swept k = elim (cases_lt k slots) [
    | inl less ↦ b.swept.done k less
    | inr past ↦
        let kept = b.swept.rest k past in
        let f = past_none old.jobs.superiors r k tree.superior_count low past in
        let none : job_at old.jobs k ≡ None = get_or_past old.jobs.jobs k None (let n = tree.job_count in omega arith) in
        record {
          core = kept.core ∙ by_kept (in_tree (superior_at old.jobs) r k) no_core (core_at old.core k) f;
          alarm = kept.alarm ∙ by_kept (in_tree (superior_at old.jobs) r k) None (alarm_at old.alarms.items k) f;
          symbols = kept.symbols ∙ by_kept (in_tree (superior_at old.jobs) r k) [] (symbols_at old.symbols.items k) f;
          job = λ g. subst (Leaves (in_tree (superior_at old.jobs) r) (job_at old.jobs k)) (sym kept.job)
              (subst (λ (o : Option Job). Leaves (in_tree (superior_at old.jobs) r) o o) (sym none) (no_leave (in_tree (superior_at old.jobs) r)));
        }
  ]

  job_gone : (k : ℕ) → in_tree (superior_at old.jobs) r k ≡ true → job_at new.jobs k ≡ None
  job_gone k g = b.jobs.each k ∙ sym (by_gone (in_tree (superior_at mid.jobs) r k) None (job_at mid.jobs k) (ap (λ (f : ℕ → Bool). f k) same_tree ∙ g))

  job_stays : (k : ℕ) → in_tree (superior_at old.jobs) r k ≡ false → job_at new.jobs k ≡ job_at mid.jobs k
  job_stays k f = b.jobs.each k ∙ sym (by_kept (in_tree (superior_at mid.jobs) r k) None (job_at mid.jobs k) (ap (λ (h : ℕ → Bool). h k) same_tree ∙ f))

  superior_stays : (k : ℕ) → in_tree (superior_at old.jobs) r k ≡ false → superior_at new.jobs k ≡ superior_at old.jobs k
  superior_stays k f =
      b.superiors.each k ∙ sym (by_kept (in_tree (superior_at mid.jobs) r k) None (superior_at mid.jobs k) (ap (λ (h : ℕ → Bool). h k) same_tree ∙ f))
      ∙ ap (λ (us : List (Option ℕ)). slice_index_or us k None) b.swept.shares.superiors

  core_new : (k : ℕ) → core_at new.core k ≡ (if in_tree (superior_at old.jobs) r k then no_core else core_at old.core k)
  core_new k = ap (λ c. core_at c k) (core_as b.rest) ∙ (slot_swept k).core

  alarm_new : (k : ℕ) → alarm_at new.alarms.items k ≡ (if in_tree (superior_at old.jobs) r k then None else alarm_at old.alarms.items k)
  alarm_new k = ap (λ l. alarm_at l.items k) (alarms_as b.rest) ∙ (slot_swept k).alarm

  symbols_new : (k : ℕ) → symbols_at new.symbols.items k ≡ (if in_tree (superior_at old.jobs) r k then [] else symbols_at old.symbols.items k)
  symbols_new k = ap (λ l. symbols_at l.items k) (symbols_as b.rest) ∙ (slot_swept k).symbols

  files_new : new.files ≡ old.files
  files_new = files_as b.rest ∙ files_as b.swept.shares.rest

  new_raw : (k : ℕ) (x : Bool) → in_tree (superior_at old.jobs) r k ≡ x
      → raw_at new.files new.core new.jobs new.alarms.items k ≡ job_after_removal (in_tree (superior_at old.jobs) r) x
      (raw_at old.files old.core old.jobs old.alarms.items k)
  new_raw k true g = ap (raw_of new.files (core_at new.core k) (superior_at new.jobs k) (alarm_at new.alarms.items k)) (job_gone k g)
  new_raw k false f =
      let core = core_new k ∙ sym (by_kept (in_tree (superior_at old.jobs) r k) no_core (core_at old.core k) f) in
      let alarm = alarm_new k ∙ sym (by_kept (in_tree (superior_at old.jobs) r k) None (alarm_at old.alarms.items k) f) in
      (λ t. raw_of (files_new t) (core t) (superior_stays k f t) (alarm t) (job_stays k f t))
      ∙ raw_left old.files (core_at old.core k) (superior_at old.jobs k) (alarm_at old.alarms.items k) (in_tree (superior_at old.jobs) r)
      (job_at old.jobs k) (job_at mid.jobs k) ((slot_swept k).job f)

  holders_new : (c : ℕ) → holder_at new.holders c ≡ holder_after_removal (in_tree (superior_at old.jobs) r) (superior_at old.jobs r) (holder_at old.holders c)
  holders_new c =
      b.holders c
      ∙ (λ t. holder_after_removal (same_tree t) (slice_index_or (b.swept.shares.superiors t) r None) (holder_at (b.swept.shares.rest t).holders c))

  links_new : (l : ℕ) → piped new.pipes l ≡ ends_after_removal (in_tree (superior_at old.jobs) r) (piped old.pipes l)
  links_new l = b.links l ∙ (λ t. ends_after_removal (same_tree t) (piped (b.swept.shares.rest t).pipes l))

  stripped_machine : machine_of new ≡ after_removal (superior_at old.jobs) r (machine_of old)
  unfolding machine_of after_removal
  stripped_machine = machine_is _ _ (λ k. new_raw k (in_tree (superior_at old.jobs) r k) refl)
      (λ k. ap (λ l. console_at l.items k) (consoles_as b.rest ∙ consoles_as b.swept.shares.rest)) holders_new (ap directory files_new)
      (clock_as b.rest ∙ clock_as b.swept.shares.rest) (version_as b.rest ∙ version_as b.swept.shares.rest)
      (λ k. symbols_new k ∙ symbols_if (in_tree (superior_at old.jobs) r k) (symbols_at old.symbols.items k)) links_new

  pub stripped_row : Becomes old new (after_removal (superior_at old.jobs) r (machine_of old))
  stripped_row = record {
    machine = stripped_machine;
    place = place_as b.rest ∙ place_as b.swept.shares.rest;
    touched = touched_as b.rest
        ∙ (touched_as b.swept.shares.rest);
  }

  channels_new : (k n : ℕ) → channel_at new.jobs k n ≡ channel_left (in_tree (superior_at old.jobs) r) (channel_at old.jobs k n)
  channels_new k n = elim (cases_Bool (in_tree (superior_at old.jobs) r k)) [
    | inl g ↦ ap (λ o. channel_by o n) (job_gone k g) ∙ sym (ap (channel_left (in_tree (superior_at old.jobs) r)) (closed k n g))
    | inr f ↦ ap (λ o. channel_by o n) (job_stays k f) ∙ ((slot_swept k).job f).chans n
  ]

  none_new : (k : ℕ) → in_tree (superior_at old.jobs) r k ≡ false → job_at new.jobs k ≡ None → job_at old.jobs k ≡ None
  none_new k f h = none_bare (job_at mid.jobs k) (job_at old.jobs k) ((slot_swept k).job f).bare (sym (job_stays k f) ∙ h)

  pub stripped_tidy : Tidy new
  stripped_tidy = record {
    unreserved = λ k. ap (λ c. clear_at c k) (core_as b.rest) ∙ b.swept.shares.reserved k ∙ tidy.unreserved k;
    unmarked = ap (λ (x : Store). x.mark) files_new ∙ tidy.unmarked;
    across = subst (λ (x : Store). Across x new.jobs) (sym files_new)
        (across_alike old.files old.jobs new.jobs tidy.across
        (λ k n. left_alike (in_tree (superior_at old.jobs) r) (channel_at old.jobs k n) (channel_at new.jobs k n) (channels_new k n)));
    blank = λ k h. elim (cases_Bool (in_tree (superior_at old.jobs) r k)) [
      | inl g ↦ core_new k ∙ sym (by_gone (in_tree (superior_at old.jobs) r k) no_core (core_at old.core k) g)
      | inr f ↦ core_new k ∙ sym (by_kept (in_tree (superior_at old.jobs) r k) no_core (core_at old.core k) f) ∙ tidy.blank k (none_new k f h)
    ];
    quiet = λ k h. elim (cases_Bool (in_tree (superior_at old.jobs) r k)) [
      | inl g ↦ alarm_new k ∙ sym (by_gone (in_tree (superior_at old.jobs) r k) None (alarm_at old.alarms.items k) g)
      | inr f ↦ alarm_new k ∙ sym (by_kept (in_tree (superior_at old.jobs) r k) None (alarm_at old.alarms.items k) f) ∙ tidy.quiet k (none_new k f h)
    ];
    nameless = λ k h. elim (cases_Bool (in_tree (superior_at old.jobs) r k)) [
      | inl g ↦ symbols_new k ∙ sym (by_gone (in_tree (superior_at old.jobs) r k) [] (symbols_at old.symbols.items k) g)
      | inr f ↦ symbols_new k ∙ sym (by_kept (in_tree (superior_at old.jobs) r k) [] (symbols_at old.symbols.items k) f) ∙ tidy.nameless k (none_new k f h)
    ];
    addressed = λ k. elim (cases_Bool (in_tree (superior_at old.jobs) r k)) [
      | inl g ↦ subst IsPlaced (sym (job_gone k g)) tt
      | inr f ↦ subst IsPlaced (sym (job_stays k f)) (placed_bare (job_at mid.jobs k) (job_at old.jobs k) ((slot_swept k).job f).bare (tidy.addressed k))
    ];
    timed = subst (λ t. t < clock_end) (sym (clock_as b.rest ∙ clock_as b.swept.shares.rest)) tidy.timed;
  }

-- the channels of the tree are closed first
left_along : (gone : ℕ → Bool) (b : Bool) (o p : Option Whole) → (b ≡ false → p ≡ o) → job_after_removal gone b p ≡ job_after_removal gone b o
left_along gone true o p h = refl
left_along gone false o p h = ap (option_map (after_shut gone)) (h refl)

removed_along : (sup : ℕ → Option ℕ) (r : ℕ) (m n : Machine) → n ≡ record m { jobs = n.jobs }
    → ((k : ℕ) → in_tree sup r k ≡ false → n.jobs k ≡ m.jobs k) → after_removal sup r n ≡ after_removal sup r m
unfolding after_removal
removed_along sup r m n rest kept =
    ap (after_removal sup r) rest
    ∙ (λ t. record m {
      jobs = λ k. left_along (in_tree sup r) (in_tree sup r k) (m.jobs k) (n.jobs k) (kept k) t;
      holders = λ c. holder_after_removal (in_tree sup r) (sup r) (m.holders c);
      symbols = λ k. symbols_after_removal (in_tree sup r k) (m.symbols k);
      links = λ l. ends_after_removal (in_tree sup r) (m.links l);
    })

module _ (old mid : Plain) (r : ℕ) (low : r < slots) (tree : IsTree old.jobs.jobs old.jobs.superiors)
    (c : ClosesTree (in_tree (superior_at old.jobs) r) old mid slots) where
  along_tree : superior_at mid.jobs ≡ superior_at old.jobs
  along_tree = λ t k. slice_index_or (c.superiors t) k None

  pub tree_closed : Tidy mid → (k n : ℕ) → in_tree (superior_at mid.jobs) r k ≡ true → channel_at mid.jobs k n ≡ Closed
  tree_closed tidy k n g = elim (cases_lt n 16) [
    | inl less ↦ chan_shut mid k n (c.closed k n within here less)
    | inr past ↦ tidy.across.past_numbers k n past
  ]
    where
      here : in_tree (superior_at old.jobs) r k ≡ true
      here = sym (ap (λ (sup : ℕ → Option ℕ). in_tree sup r k) along_tree) ∙ g

      within : k < slots
      within = elim (cases_lt k slots) [
        | inl less ↦ less
        | inr past ↦ absurd (both_ways (in_tree (superior_at old.jobs) r k) (past_none old.jobs.superiors r k tree.superior_count low past) here)
      ]

  pub removed_row : (new : Plain) → Becomes mid new (after_removal (superior_at mid.jobs) r (machine_of mid))
      → Becomes old new (after_removal (superiors (machine_of old)) r (machine_of old))
  removed_row new b = record {
    machine = b.machine ∙ ap (λ (sup : ℕ → Option ℕ). after_removal sup r (machine_of mid)) along_tree
        ∙ removed_along (superior_at old.jobs) r (machine_of old) (machine_of mid) c.rest c.jobs
        ∙ ap (λ (sup : ℕ → Option ℕ). after_removal sup r (machine_of old)) (sym (superiors_are old tree));
    place = b.place ∙ c.place;
    touched = b.touched ∙ c.touched;
  }
