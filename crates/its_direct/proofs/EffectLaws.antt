-- What calls change in cores, registers, consoles and alarms.
use Rattle.std.specs.Prelude.{◌≡◌, ◌<◌, ◌≤◌, ◌+◌, ◌%◌, ◌^◌, ℕ, Bool, true, Option, Some, None, is_some, IsSome, List, [], ◌∷◌, length, drop, option_map, slice_set, slice_index_or, refl}
use Rattle.std.specs.Option.{option_or}
use Rattle.std.proofs.Common.{ap, sym, subst, ◌∙◌, inl, inr, arith}
use Rattle.std.proofs.lemmas.Bool.{cases_eq, eq-eqb}
use Rattle.std.proofs.lemmas.List.{get_or-set_same, get_or-set_other}
use Rattle.its_word.specs.Console.{most_waiting}
use Rattle.its_word.specs.Core.{Core, no_core, can_store, word_at, page_of, pages_mapped, with_page, zero_page, marked}
use Rattle.its_word.specs.Limits.{most_pages}
use Rattle.its_word.specs.Only.{Only}
use Rattle.its_word.specs.Stores.{first_fault, refusal, stored}
use Rattle.its_records.specs.declared.calls.Exit.{Exit}
use Rattle.its_records.specs.declared.jobs.Job.{Job}
use Rattle.its_word.specs.declared.plan.Store.{Store}
use Rattle.its_frame.specs.declared.variable.Variable.{Variable}
use Rattle.its_core.specs.Cores.{Cores, Reserved, core_at, clear_at, clear_with, reserved_at}
use Rattle.its_jobs.specs.Table.{job_at, superior_at}
use Rattle.its_plain.specs.Machine.Change.{in_job, on_console, poke, with_protection, after_put, rest_of, after_take, with_alarm, with_inf, with_page_at}
use Rattle.its_plain.specs.Machine.Registers.{INF, with_pending}
use Rattle.its_plain.specs.Machine.{Console, Whole, Machine, changed, core_of, mapped}
use Rattle.its_plain.specs.Machine.Own.{after_leave, after_exit, with_registers, with_stores, with_variable}
use Rattle.its_plain.proofs.MachineLaws.{machine_is}
use Rattle.its_shared.specs.Can.{HasJob, HasPage, Maps, Pokes}
use Rattle.its_shared.specs.Parts.{alarm_at, console_at, holder_at, raw_of}
use Rattle.its_shared.proofs.BareLaws.{variable_bare, variable_channels}
use Rattle.its_shared.proofs.CoreLaws.{same_core}
use Rattle.its_shared.proofs.PartLaws.{raw_job, changed_at, slot_at}
use Rattle.its_direct.specs.Clock.{AlarmBecomes}
use Rattle.its_direct.specs.Effects.{Becomes}
use Rattle.its_direct.specs.Lines.{ConsoleBecomes}
use Rattle.its_direct.specs.Plain.{machine_of, Aside, Tidy, SlotBecomes, CoreBecomes, JobBecomes}
use Rattle.its_direct.specs.declared.plain.Plain.{Plain}
use Rattle.its_direct.proofs.ClockLaws.{alarm_machine, alarm_tidy}
use Rattle.its_direct.proofs.ConsoleLaws.{console_machine}
use Rattle.its_direct.proofs.SlotLaws.{core_tidy, placed_at, slot_machine, slot_tidy}
use Rattle.its_direct.proofs.UserLaws.{own_of, own_is, nobody_is, becomes_raw}
use Rattle.its_direct.proofs.ContentsLaws.{place_as, touched_as}

-- the job that a slot has, and its core
some_of : {X : Type 0} (o : Option X) → is_some o ≡ true → (x : X) × (o ≡ Some x)
some_of (Some x) h = (x, refl)
some_of None h = cc

has_by : (p : Plain) (s : ℕ) (o : Option Job) → is_some (raw_of p.files (core_at p.core s) (superior_at p.jobs s)
    (alarm_at p.alarms.items s) o) ≡ true → is_some o ≡ true
has_by p s (Some j) h = refl
has_by p s None h = cc

pub has_own : (p : Plain) (s : ℕ) → HasJob (machine_of p) s → (i : Job) × (job_at p.jobs s ≡ Some i)
unfolding machine_of
has_own p s h = some_of (job_at p.jobs s) (has_by p s (job_at p.jobs s) h)

pub nobody_here : (p : Plain) (s : ℕ) (h : Whole → Whole) (o : Option Job) → o ≡ job_at p.jobs s → o ≡ None → Becomes p p (in_job (machine_of p) s h)
nobody_here p s h o is none = record {
  machine = machine_is _ _ (slot_at _ _ s h (nobody_is p s e ∙ sym (ap (option_map h) (nobody_is p s e))) (λ k ne. refl)) (λ k. refl)
      (λ k. refl) refl refl refl (λ k. refl) (λ k. refl);
  place = refl;
  touched = refl;
}
  where
    e : job_at p.jobs s ≡ None
    e = sym is ∙ none

pub core_is : (p : Plain) (s : ℕ) → Tidy p → core_of ((machine_of p).jobs s) ≡ core_at p.core s
core_is p s tidy = go (job_at p.jobs s) refl
  where
    go : (o : Option Job) → job_at p.jobs s ≡ o → core_of ((machine_of p).jobs s) ≡ core_at p.core s
    go (Some i) e = ap core_of (own_is p s i e)
    go None e = ap core_of (nobody_is p s e) ∙ sym (tidy.blank s e)

-- stores
pub can_here : (p : Plain) (s : ℕ) (ss : List Store) → Tidy p → first_fault (core_of ((machine_of p).jobs s)) ss ≡ None
    → first_fault (core_at p.core s) ss ≡ None
can_here p s ss tidy h = ap (λ (c : Core). first_fault c ss) (sym (core_is p s tidy)) ∙ h

core_changed : (old new : Plain) (s : ℕ) (c : Core) (h : Whole → Whole) → HasJob (machine_of old) s → CoreBecomes old new s c
    → ((i : Job) → h (own_of old s i) ≡ raw_job old.files c i (superior_at old.jobs s) (alarm_at old.alarms.items s))
    → Becomes old new (in_job (machine_of old) s h)
core_changed old new s c h job b e =
    let i = has_own old s job in
    record {
      machine = slot_machine old new s c i.0 i.0 h (subst (SlotBecomes old new s c) i.1 b) i.1 (e i.0);
      place = place_as b.aside.is;
      touched = touched_as b.aside.is;
    }

pub core_tidied : (old new : Plain) (s : ℕ) (c : Core) → HasJob (machine_of old) s → CoreBecomes old new s c → Tidy old → Tidy new
core_tidied old new s c job b tidy = let i = has_own old s job in core_tidy old new s c i.0 b i.1 tidy

pub stores_made : (old new : Plain) (s : ℕ) (ss : List Store) → HasJob (machine_of old) s
    → CoreBecomes old new s (stored (core_at old.core s) ss) → Becomes old new (in_job (machine_of old) s (with_stores ss))
stores_made old new s ss job b = core_changed old new s (stored (core_at old.core s) ss) (with_stores ss) job b (λ i. refl)

poke_at : (c : Core) (a w : ℕ) → can_store c a ≡ true → a % 2 ^ 18 ≡ a → first_fault c (poke a w ∷ []) ≡ None
unfolding first_fault
poke_at c a w can at = ap (λ (k : ℕ). option_or (refusal (can_store c k) (word_at c k)) None) at
    ∙ ap (λ (b : Bool). option_or (refusal b (word_at c a)) None) can

pub poke_can : (m : Machine) (s a w : ℕ) → Pokes m s a → first_fault (core_of (m.jobs s)) (poke a w ∷ []) ≡ None
poke_can m s a w can = let l = can.address in poke_at (core_of (m.jobs s)) a w can.can (omega arith)

-- registers
job_changed : (old new : Plain) (s : ℕ) (i k : Job) (h : Whole → Whole) → JobBecomes old new s k → job_at old.jobs s ≡ Some i
    → h (own_of old s i) ≡ raw_job old.files (core_at old.core s) k (superior_at old.jobs s) (alarm_at old.alarms.items s)
    → Becomes old new (in_job (machine_of old) s h)
job_changed old new s i k h b had e = record {
  machine = slot_machine old new s (core_at old.core s) i k h b had e;
  place = place_as b.aside.is;
  touched = touched_as b.aside.is;
}

job_tidied : (old new : Plain) (s : ℕ) (i k : Job) → JobBecomes old new s k → job_at old.jobs s ≡ Some i → k.channels ≡ i.channels
    → k.pc < 2 ^ 18 → Tidy old → Tidy new
job_tidied old new s i k b had same pc tidy = slot_tidy old new s (core_at old.core s) i k b had same pc tidy

pub registers_left : (old new : Plain) (s : ℕ) (i k : Job) (o : Option Job) (e : Exit) → o ≡ job_at old.jobs s → o ≡ Some i
    → k ≡ after_exit e i → JobBecomes old new s k → Becomes old new (in_job (machine_of old) s (after_leave e))
registers_left old new s i k o e is some left b = job_changed old new s i k (after_leave e) b (sym is ∙ some)
    (ap (λ (j : Job). raw_job old.files (core_at old.core s) j (superior_at old.jobs s) (alarm_at old.alarms.items s)) (sym left))

pub left_tidied : (old new : Plain) (s : ℕ) (i k : Job) (o : Option Job) (e : Exit) → o ≡ job_at old.jobs s → o ≡ Some i
    → k ≡ after_exit e i → e.pc < 2 ^ 18 → JobBecomes old new s k → Tidy old → Tidy new
left_tidied old new s i k o e is some left pc b tidy =
    job_tidied old new s i k b (sym is ∙ some) (ap (λ (j : Job). j.channels) left) (subst (λ (j : Job). j.pc < 2 ^ 18) (sym left) pc) tidy

pub inf_set : (old new : Plain) (s : ℕ) (i k : Job) (o : Option Job) → o ≡ job_at old.jobs s → o ≡ Some i → k ≡ with_pending i INF
    → JobBecomes old new s k → Becomes old new (in_job (machine_of old) s with_inf)
inf_set old new s i k o is some set b = job_changed old new s i k with_inf b (sym is ∙ some)
    (ap (λ (j : Job). raw_job old.files (core_at old.core s) j (superior_at old.jobs s) (alarm_at old.alarms.items s)) (sym set))

pub inf_tidied : (old new : Plain) (s : ℕ) (i k : Job) (o : Option Job) → o ≡ job_at old.jobs s → o ≡ Some i → k ≡ with_pending i INF
    → JobBecomes old new s k → Tidy old → Tidy new
inf_tidied old new s i k o is some set b tidy =
    job_tidied old new s i k b (sym is ∙ some) (ap (λ (j : Job). j.channels) set)
    (subst (λ (j : Job). j.pc < 2 ^ 18) (sym set) (placed_at old s o i is some tidy)) tidy

-- a variable
variable_raw : (old : Plain) (s : ℕ) (i : Job) (x : Variable) (v : ℕ)
    → with_registers (with_variable x v) (own_of old s i) ≡ raw_job old.files (core_at old.core s) (with_variable x v i)
    (superior_at old.jobs s) (alarm_at old.alarms.items s)
variable_raw old s i x v =
    (λ t. record (own_of old s i) { job = variable_bare x v i t })
    ∙ becomes_raw old.files (core_at old.core s) (core_at old.core s) (superior_at old.jobs s) (alarm_at old.alarms.items s) i
    (with_variable x v i) (variable_channels x v i)

pub variable_set : (old new : Plain) (s : ℕ) (i k : Job) (o : Option Job) (x : Variable) (v : ℕ) → o ≡ job_at old.jobs s → o ≡ Some i
    → k ≡ with_variable x v i → JobBecomes old new s k
    → Becomes old new (in_job (machine_of old) s (with_registers (with_variable x v)))
variable_set old new s i k o x v is some set b = job_changed old new s i k (with_registers (with_variable x v)) b (sym is ∙ some)
    (variable_raw old s i x v ∙ ap (λ (j : Job). raw_job old.files (core_at old.core s) j (superior_at old.jobs s) (alarm_at old.alarms.items s)) (sym set))

pub variable_tidied : (old new : Plain) (s : ℕ) (i k : Job) (o : Option Job) (x : Variable) (v : ℕ) → o ≡ job_at old.jobs s → o ≡ Some i
    → k ≡ with_variable x v i → k.pc < 2 ^ 18 → JobBecomes old new s k → Tidy old → Tidy new
variable_tidied old new s i k o x v is some set pc b tidy = job_tidied old new s i k b (sym is ∙ some)
    (ap (λ (j : Job). j.channels) set ∙ variable_channels x v i) pc tidy

-- consoles
rest_is : (bs : List ℕ) → drop 1 bs ≡ rest_of bs
rest_is [] = refl
rest_is (b ∷ bs) = refl

pub first_taken : (c : Console) → record c { input = drop 1 c.input } ≡ after_take c
first_taken c = ap (λ (bs : List ℕ). record c { input = bs }) (rest_is c.input)

console_changed : (old new : Plain) (c : ℕ) (f : Console → Console) → ConsoleBecomes old new c (f (console_at old.consoles.items c))
    → Becomes old new (on_console (machine_of old) c f)
console_changed old new c f b = record { machine = console_machine old new c f b; place = place_as b.rest; touched = touched_as b.rest }

pub byte_taken : (old new : Plain) (c : ℕ) → ConsoleBecomes old new c (after_take (console_at old.consoles.items c))
    → Becomes old new (on_console (machine_of old) c after_take)
byte_taken old new c b = console_changed old new c after_take b

pub byte_put : (old new : Plain) (c x : ℕ) → ConsoleBecomes old new c (after_put x (console_at old.consoles.items c))
    → Becomes old new (on_console (machine_of old) c (after_put x))
byte_put old new c x b = console_changed old new c (after_put x) b

pub console_room : (p : Plain) (c : ℕ) → length ((machine_of p).consoles c).output < most_waiting
    → length (console_at p.consoles.items c).output < most_waiting
unfolding machine_of
console_room p c h = h

-- the holder of a console
given_holders : (hs : List (Option ℕ)) (c s k : ℕ) → c < length hs → holder_at (slice_set hs c (Some s)) k ≡ changed (holder_at hs) c (Some s) k
given_holders hs c s k l = changed_at (holder_at (slice_set hs c (Some s))) (holder_at hs) c (Some s) (get_or-set_same hs c (Some s) None l)
    (λ i ne. get_or-set_other hs c i (Some s) None ne) k

given_machine : (p : Plain) (c s : ℕ) → c < length p.holders
    → machine_of (record p { holders = slice_set p.holders c (Some s) }) ≡ record (machine_of p) { holders = changed (machine_of p).holders c (Some s) }
unfolding machine_of
given_machine p c s l = machine_is _ _ (λ k. refl) (λ k. refl) (λ k. given_holders p.holders c s k l) refl refl refl (λ k. refl) (λ k. refl)

pub console_given : (old new : Plain) (c s : ℕ) → c < length old.holders → new ≡ record old { holders = slice_set old.holders c (Some s) }
    → Becomes old new (record (machine_of old) { holders = changed (machine_of old).holders c (Some s) })
console_given old new c s l e = record {
  machine = ap machine_of e ∙ given_machine old c s l;
  place = ap (λ (p : Plain). p.place) e;
  touched = ap (λ (p : Plain). p.touched) e;
}

-- pages
pub page_there : (p : Plain) (s k : ℕ) → Tidy p → HasPage (machine_of p) s k → IsSome (page_of (core_at p.core s) k)
page_there p s k tidy can = ap (λ (c : Core). is_some (page_of c k)) (sym (core_is p s tidy)) ∙ can.there

pub page_dropped : (old new : Plain) (s k : ℕ) → HasPage (machine_of old) s k
    → CoreBecomes old new s (with_page (core_at old.core s) k None) → Becomes old new (in_job (machine_of old) s (with_page_at k None))
page_dropped old new s k can b = core_changed old new s (with_page (core_at old.core s) k None) (with_page_at k None) can.job b (λ i. refl)

pub page_protected : (old new : Plain) (s k : ℕ) (on : Bool) → HasPage (machine_of old) s k
    → CoreBecomes old new s (with_page (core_at old.core s) k (marked (page_of (core_at old.core s) k) on))
    → Becomes old new (in_job (machine_of old) s (with_protection k on))
page_protected old new s k on can b = core_changed old new s (with_page (core_at old.core s) k (marked (page_of (core_at old.core s) k) on))
    (with_protection k on) can.job b (λ i. refl)

pub page_tidied : (old new : Plain) (s k : ℕ) (c : Core) → HasPage (machine_of old) s k → CoreBecomes old new s c → Tidy old → Tidy new
page_tidied old new s k c can b tidy = core_tidied old new s c can.job b tidy

pub page_made : (old new : Plain) (s k : ℕ) → Maps (machine_of old) s k
    → CoreBecomes old new s (with_page (core_at old.core s) k (Some zero_page))
    → Becomes old new (in_job (machine_of old) s (with_page_at k (Some zero_page)))
page_made old new s k can b = core_changed old new s (with_page (core_at old.core s) k (Some zero_page)) (with_page_at k (Some zero_page))
    can.job b (λ i. refl)

pub made_tidied : (old new : Plain) (s k : ℕ) (c : Core) → Maps (machine_of old) s k → CoreBecomes old new s c → Tidy old → Tidy new
made_tidied old new s k c can b tidy = core_tidied old new s c can.job b tidy

pub page_absent : (p : Plain) (s k : ℕ) → Tidy p → Maps (machine_of p) s k → page_of (core_at p.core s) k ≡ None
page_absent p s k tidy can = ap (λ (c : Core). page_of c k) (sym (core_is p s tidy)) ∙ can.absent

cores_are : (p : Plain) → Tidy p → mapped (machine_of p) ≡ pages_mapped (core_at p.core)
cores_are p tidy = λ t. pages_mapped (λ k. core_is p k tidy t)

pub page_room : (p : Plain) (s k : ℕ) → Tidy p → Maps (machine_of p) s k → pages_mapped (core_at p.core) < most_pages
page_room p s k tidy can = let e = cores_are p tidy in let l = can.room in omega arith

-- a page that is reserved, cleared and mapped
clear_none : (o : Option Reserved) → option_map (λ (r : Reserved). r.clear) o ≡ None → o ≡ None
clear_none None e = refl
clear_none (Some r) e = cc

pub none_reserved : (c : Cores) (s : ℕ) → clear_at c s ≡ None → reserved_at c s ≡ None
none_reserved c s e = clear_none (reserved_at c s) e

clear_some : (o : Option Reserved) (n : ℕ) → option_map (λ (r : Reserved). r.clear) o ≡ Some n → IsSome o
clear_some (Some r) n e = refl
clear_some None n e = cc

pub some_reserved : (c : Cores) (s n : ℕ) → clear_at c s ≡ Some n → IsSome (reserved_at c s)
some_reserved c s n e = clear_some (reserved_at c s) n e

pub never_full : (c d : Cores) → d.cores ≡ c.cores → pages_mapped (core_at c) < most_pages → pages_mapped (core_at d) ≡ most_pages → ⊥
unfolding core_at
never_full c d e room full = let same : pages_mapped (core_at d) ≡ pages_mapped (core_at c) =
    (λ t. pages_mapped (λ k. slice_index_or (e t) k no_core)) in omega arith

-- its quarters are cleared one by one
pub record Clearing (old now : Cores) (s q : ℕ) : Type 0 where
  pub quarters : Only (clear_at old) (clear_at now) s (Some q)
  pub cores : now.cores ≡ old.cores

pub clearing_begins : (c : Cores) (s : ℕ) → clear_at c s ≡ Some 0 → Clearing c c s 0
clearing_begins c s e = record { quarters = record { here = e; others = λ k ne. refl }; cores = refl }

pub clearing_allows : (old now : Cores) (s q : ℕ) → Clearing old now s q → IsSome (reserved_at now s)
clearing_allows old now s q b = some_reserved now s q b.quarters.here

next_clear : (q : ℕ) → clear_with q q ≡ q + 1
next_clear q = rw (eq-eqb q q refl) refl

pub clearing_next : (old now new : Cores) (s q : ℕ) → Clearing old now s q
    → Only (clear_at now) (clear_at new) s (option_map (clear_with q) (clear_at now s)) → new.cores ≡ now.cores → Clearing old new s (q + 1)
clearing_next old now new s q b h e = record {
  quarters = record {
    here = h.here ∙ ap (option_map (clear_with q)) b.quarters.here ∙ ap Some (next_clear q);
    others = λ k ne. h.others k ne ∙ b.quarters.others k ne;
  };
  cores = e ∙ b.cores;
}

pub clearing_ends : (old now : Cores) (s q : ℕ) → 4 ≤ q → q ≤ 4 → Clearing old now s q → Clearing old now s 4
clearing_ends old now s q ge le b = let e : q ≡ 4 = omega arith in subst (Clearing old now s) e b

pub reserved_clear : (old mid new : Cores) (s : ℕ) → Only (clear_at old) (clear_at mid) s (Some 0)
    → Only (clear_at mid) (clear_at new) s (Some 4) → Only (clear_at old) (clear_at new) s (Some 4)
reserved_clear old mid new s a b = record { here = b.here; others = λ k ne. b.others k ne ∙ a.others k ne }

-- the new page of a core, if all other cores are as they were
pub absent_still : (c d : Cores) (s k : ℕ) → d.cores ≡ c.cores → page_of (core_at c s) k ≡ None → page_of (core_at d s) k ≡ None
absent_still c d s k e h = ap (λ (x : Core). page_of x k) (same_core c d s e) ∙ h

pub new_page_is : (old new : Plain) (mid : Cores) (s k : ℕ) → clear_at old.core s ≡ None
    → Only (clear_at old.core) (clear_at mid) s (Some 4) → mid.cores ≡ old.core.cores
    → Only (core_at mid) (core_at new.core) s (with_page (core_at mid s) k (Some zero_page))
    → Only (clear_at mid) (clear_at new.core) s None → new.jobs ≡ old.jobs → Aside old new
    → CoreBecomes old new s (with_page (core_at old.core s) k (Some zero_page))
new_page_is old new mid s k none held cores mapped taken jobs aside = record {
  core = record {
    here = mapped.here ∙ ap (λ (x : Core). with_page x k (Some zero_page)) (same_core old.core mid s cores);
    others = λ n ne. mapped.others n ne ∙ same_core old.core mid n cores;
  };
  job = record { here = ap (λ t. job_at t s) jobs; others = λ n ne. ap (λ t. job_at t n) jobs };
  superiors = ap (λ t. t.superiors) jobs;
  reserved = record {
    each = λ n. elim (cases_eq n s) [
      | inl e ↦ ap (clear_at new.core) e ∙ taken.here ∙ sym none ∙ ap (clear_at old.core) (sym e)
      | inr ne ↦ taken.others n ne ∙ held.others n ne
    ];
  };
  aside = aside;
}

-- an alarm
pub alarm_set : (old new : Plain) (s : ℕ) (i : Job) (o : Option Job) (a : Option (ℕ × ℕ)) → o ≡ job_at old.jobs s → o ≡ Some i
    → AlarmBecomes old new s a → Becomes old new (in_job (machine_of old) s (with_alarm a))
alarm_set old new s i o a is some b = record { machine = alarm_machine old new s a b; place = place_as b.rest; touched = touched_as b.rest }

pub alarm_tidied : (old new : Plain) (s : ℕ) (i : Job) (o : Option Job) (a : Option (ℕ × ℕ)) → o ≡ job_at old.jobs s → o ≡ Some i
    → AlarmBecomes old new s a → Tidy old → Tidy new
alarm_tidied old new s i o a is some b tidy = alarm_tidy old new s a (ap is_some (sym is ∙ some)) b tidy
