-- Units of one job, one after another: so many of them are so many ticks.
use Rattle.std.specs.Prelude.{length, if◌then◌else◌, ◌≡◌, ◌≢◌, ◌==◌, ◌<◌, ◌≤◌, ◌&&◌, ℕ, zero, suc, Bool, true, false, not, Option, Some, None, IfSome, is_some, ◌∷◌, replicate, option_map, slice_set, vec_len, refl}
use Rattle.std.proofs.Common.{sym, ◌∙◌, ap, subst, arith, inl, inr}
use Rattle.std.proofs.lemmas.Bool.{cases_Bool}
use Rattle.std.proofs.lemmas.Bool.Decides.{nat_tests}
use Rattle.its_word.specs.Limits.{slots, limit_of}
use Rattle.its_records.specs.declared.calls.Pace.TheVariants.{Step}
use Rattle.its_records.specs.declared.jobs.Job.{Job}
use Rattle.its_records.proofs.FreeLaws.{none_is}
use Rattle.its_core.specs.Cores.{Cores, core_at, clear_at}
use Rattle.its_jobs.specs.Table.{job_at, superior_at}
use Rattle.its_frame.specs.declared.frame.Frame.{Frame}
use Rattle.its_plain.specs.Call.Step.{with_core_and_job, with_fault}
use Rattle.its_plain.specs.Unit.Interrupt.{deliverable}
use Rattle.its_plain.specs.Machine.Registers.{bit_of, with_pending}
use Rattle.its_plain.specs.Machine.{Whole}
use Rattle.its_plain.specs.Unit.{Outcome, Changed, Faulted, Called, unit}
use Rattle.its_plain.proofs.MachineLaws.{machine_is}
use Rattle.its_stepped.specs.Lines.{paces_of, after_ticks}
use Rattle.its_stepped.specs.Sound.{Sound}
use Rattle.its_stepped.specs.State.{State, plain, with_slot}
use Rattle.its_stepped.specs.Tick.{Ticked, steps, tick, tick_in, tick_of, tick_unless, unit_on, user_on}
use Rattle.its_stepped.proofs.Frame.DecodingLaws.{decoding}
use Rattle.its_stepped.proofs.Frame.FrameLaws.{changed_only, on_slot_here}
use Rattle.its_stepped.proofs.Duties.GivenLaws.{given}
use Rattle.its_stepped.proofs.Ticking.SoundLaws.{tick_sound}
use Rattle.its_stepped.proofs.Ticking.TickLaws.{tick_is}
use Rattle.its_world.specs.Tidy.{Tidy}
use Rattle.its_world.specs.World.{bare, alarm_at, frame_at, state_of, Becomes}
use Rattle.its_world.specs.declared.world.World.{World}
use Rattle.its_shared.proofs.BareLaws.{bare_outcome, deliverable_bare, unit_bare}
use Rattle.its_world.proofs.StateLaws.{raw_job, state_is, turned_state}
use Rattle.its_world.proofs.StorageLaws.{frame_is}
use Rattle.its_world.proofs.WorldLaws.{core_becomes}
use Rattle.its_commit.proofs.TidyLaws.{becomes_pages, tidy_put}
use Rattle.its_tick.specs.Bytes.{byte_due, byte_due_of, holds_byte, part_due}
use Rattle.its_tick.specs.Kept.{Kept}
use Rattle.its_tick.specs.Ticks.{UnitIn, UnitsMade, due_of, is_made, unit_due}
use Rattle.pdp_exec.specs.Units.{Left, after_outcome, after_unit, after_units, left, unit_unless}
use Rattle.pdp_exec.proofs.SeriesLaws.{no_units, unless_keeps, units_keep}
use Rattle.its_tick.proofs.TickLaws.{Lasts, lasts}
use Rattle.its_tick.proofs.UserLaws.{becomes_raw, job_put, put_same, put_then, user_becomes}
use Rattle.its_world.specs.WaitLists.{heads}
use Rattle.its_tick.proofs.WaitsLaws.{kept_is, raw_is, raw_is_none}

-- turns of one slot
twice : {X : Type 0} (b : Bool) (o : Option X) (h g : X → X)
    → (if b then option_map g (if b then option_map h o else o) else (if b then option_map h o else o)) ≡ (if b then option_map (λ q. g (h q)) o else o)
twice true (Some q) h g = refl
twice true None h g = refl
twice false o h g = refl

latest : {X : Type 0} (b : Bool) (x y z : X) → (if b then x else (if b then y else z)) ≡ (if b then x else z)
latest true x y z = refl
latest false x y z = refl

slot_then : (w : State) (s : ℕ) (h g : Whole → Whole) (f e : Option Frame) → with_slot (with_slot w s h f) s g e ≡ with_slot w s (λ q. g (h q)) e
slot_then w s h g f e = state_is _ _
    (machine_is _ _ (λ k. twice (k == s) (w.raw.jobs k) h g) (λ k. refl) (λ k. refl) refl refl refl (λ k. refl) (λ k. refl))
    (λ k. latest (k == s) e f (w.frames k))
    (λ k. refl)
    refl

mapped_here : (o : Option Whole) (q : Whole) (h g : Whole → Whole) → o ≡ Some q → h q ≡ g q → option_map h o ≡ option_map g o
mapped_here o q h g is e = ap (option_map h) is ∙ ap Some e ∙ sym (ap (option_map g) is)

slot_alike : (w : State) (s : ℕ) (q : Whole) (h g : Whole → Whole) (f : Option Frame) → w.raw.jobs s ≡ Some q → h q ≡ g q
    → with_slot w s h f ≡ with_slot w s g f
slot_alike w s q h g f is e = state_is _ _
    (machine_is _ _
    (λ k. elim (cases_Bool (k == s)) [
      | inl t ↦ let n : k ≡ s = grind (arith, nat_tests) in rw t (mapped_here (w.raw.jobs k) q h g (ap w.raw.jobs n ∙ is) e)
      | inr t ↦ rw t refl
    ])
    (λ k. refl) (λ k. refl) refl refl refl (λ k. refl) (λ k. refl))
    (λ k. refl)
    (λ k. refl)
    refl

pub slot_nothing : (w : State) (s : ℕ) (q : Whole) (h : Whole → Whole) (f : Option Frame) → w.raw.jobs s ≡ Some q → h q ≡ q → w.frames s ≡ f
    → w ≡ with_slot w s h f
slot_nothing w s q h f is e free = state_is _ _
    (machine_is _ _
    (λ k. elim (cases_Bool (k == s)) [
      | inl t ↦ let n : k ≡ s = grind (arith, nat_tests) in rw t (ap w.raw.jobs n ∙ is ∙ sym (ap (option_map h) (ap w.raw.jobs n ∙ is) ∙ ap Some e))
      | inr t ↦ rw t refl
    ])
    (λ k. refl) (λ k. refl) refl refl refl (λ k. refl) (λ k. refl))
    (λ k. elim (cases_Bool (k == s)) [
      | inl t ↦ let n : k ≡ s = grind (arith, nat_tests) in rw t (ap w.frames n ∙ free)
      | inr t ↦ rw t refl
    ])
    (λ k. refl)
    refl

-- the job of a slot runs in user mode, with this core and these registers; p has the rest of it
abbrev with_left : Left → Whole → Whole
with_left l p = with_core_and_job l.core (bare l.job) p

record Runs (w : State) (s : ℕ) (p : Whole) (l : Left) : Type 0 where
  there : w.raw.jobs s ≡ Some (with_left l p)
  runs : l.job.stopped ≡ false
  free : w.frames s ≡ None

tick_by : (w : State) (s : ℕ) (o : Option Whole) → w.raw.jobs s ≡ o → tick w s ≡ tick_of w s o
unfolding tick
tick_by w s o e = ap (tick_of w s) e

unit_tick : (w : State) (s : ℕ) (p : Whole) (l : Left) → Runs w s p l → deliverable l.job ≡ false → tick w s ≡ unit_on w s (bare_outcome (unit l.core l.job))
unit_tick w s p l r quiet =
    let q : Whole = with_left l p in
    tick_by w s (Some q) r.there
    ∙ ap (tick_unless w s q) r.runs
    ∙ ap (tick_in w s q) r.free
    ∙ ap (user_on w s q) (deliverable_bare l.job ∙ quiet)
    ∙ ap (unit_on w s) (unit_bare l.core l.job)

outcome_slot : (w : State) (s : ℕ) (p : Whole) (l m : Left) (o : Outcome) → Runs w s p l → after_outcome o l.core l.job ≡ Some m
    → unit_on w s (bare_outcome o) ≡ steps (with_slot w s (with_left m) None)
outcome_slot w s p l m (Changed d k) r e =
    let is : left d k ≡ m = cc in
    ap (λ (x : Left). steps (with_slot w s (with_left x) None)) is
outcome_slot w s p l m (Faulted f) r e =
    let is : left l.core (with_pending l.job (bit_of f)) ≡ m = cc in
    ap steps (slot_alike w s (with_left l p) (with_fault f) (with_left (left l.core (with_pending l.job (bit_of f)))) None r.there refl)
    ∙ ap (λ (x : Left). steps (with_slot w s (with_left x) None)) is
outcome_slot w s p l m (Called x) r e = absurd cc

unit_slot : (w : State) (s : ℕ) (p : Whole) (l m : Left) → Runs w s p l → after_unit (Some l) ≡ Some m → tick w s ≡ steps (with_slot w s (with_left m) None)
unit_slot w s p l m r e = go (deliverable l.job) refl e
  where
    go : (b : Bool) → deliverable l.job ≡ b → unit_unless b l ≡ Some m → tick w s ≡ steps (with_slot w s (with_left m) None)
    go true d e = absurd cc
    go false d e = unit_tick w s p l r d ∙ outcome_slot w s p l m (unit l.core l.job) r e

-- n units are n ticks
record Ticks (w : State) (s n : ℕ) (m : Left) : Type 0 where
  state : after_ticks w s n ≡ with_slot w s (with_left m) None
  paces : paces_of w s n ≡ replicate n Step

then_ticked : (n : ℕ) (w : State) (s : ℕ) (p : Whole) (l m : Left) → Runs w s p l
    → ((v : State) (k : Left) → Runs v s p k → after_units n (Some k) ≡ Some m → Ticks v s n m)
    → (o : Option Left) → after_unit (Some l) ≡ o → after_units n o ≡ Some m → Ticks w s (suc n) m
then_ticked n w s p l m r more (Some k) is e =
    let v : State = with_slot w s (with_left k) None in
    let t : tick w s ≡ steps v = unit_slot w s p l k r is in
    let h : Runs v s p k = record {
      there = on_slot_here w.raw.jobs s (with_left k) ∙ ap (option_map (with_left k)) r.there;
      runs = (unless_keeps (deliverable l.job) l k is).stopped ∙ r.runs;
      free = (changed_only w.frames s None).here;
    } in
    let rest = more v k h e in
    record {
      state = ap (λ (x : Ticked). after_ticks x.state s n) t ∙ rest.state ∙ slot_then w s (with_left k) (with_left m) None None;
      paces = ap (λ (x : Ticked). x.pace ∷ paces_of x.state s n) t ∙ ap (λ ps. Step ∷ ps) rest.paces;
    }
then_ticked n w s p l m r more None is e = let z = no_units n in absurd cc

units_ticked : (n : ℕ) (w : State) (s : ℕ) (p : Whole) (l m : Left) → Runs w s p l → after_units n (Some l) ≡ Some m → Ticks w s n m
units_ticked zero w s p l m r e =
    let is : l ≡ m = cc in
    record {
      state = slot_nothing w s (with_left l p) (with_left l) None r.there refl r.free
          ∙ ap (λ (x : Left). with_slot w s (with_left x) None) is;
      paces = refl;
    }
units_ticked (suc n) w s p l m r e = then_ticked n w s p l m r (λ v k h u. units_ticked n v s p k m h u) (after_unit (Some l)) refl e

-- what the units of a slot's job make of a world
pub units_in : (w : World) (s : ℕ) (c : Cores) (i j : Job) (named : vec_len w.symbols ≡ slots) (places : vec_len w.alarms ≡ slots)
    (size : vec_len w.frames ≡ slots) (count : vec_len w.consoles ≡ 8) (nodes : w.wait_lists.nodes ≡ vec_len w.frames)
    (heads_are : length w.wait_lists.lists ≡ heads) (limit : w.jobs.limit ≡ limit_of w.version)
    (number : (1 ≤ w.version) × (w.version ≤ 2)) (n k : ℕ) → frame_at w.frames.items s ≡ None → job_at w.jobs s ≡ Some i
    → ((k : ℕ) → k ≢ s → core_at c k ≡ core_at w.core k) → c.reserved ≡ w.core.reserved → c.frames ≡ w.core.frames
    → after_units n (Some (left (core_at w.core s) i)) ≡ Some (left (core_at c s) j) → (n < k → after_unit (Some (left (core_at c s) j)) ≡ None)
    → UnitsMade w (record w {
      core = c;
      jobs = record w.jobs { jobs = slice_set w.jobs.jobs s (Some j) };
      lists = named;
      alarm_places = places;
      slots = size;
      consoles_count = count;
      wait_lists_nodes = nodes;
      wait_lists_heads = heads_are;
      limited = limit;
      numbered = number;
    }) s n k
units_in w s c i j named places size count nodes heads_are limit number n k none had others reserved pages is most = record {
  job = i;
  left = left (core_at c s) j;
  had = had;
  is = is;
  becomes = put_then w (record w { core = c }) _ s (core_at c s) j
      (core_becomes w (record w { core = c }) s (core_at c s) (record { here = refl; others = others }) reserved pages refl)
      (user_becomes (record w { core = c }) _ s j none (job_put w.jobs s i j had) refl refl);
  most = most;
}

pub units_same : (w : World) (s : ℕ) (c : Cores) (i j : Job) (named : vec_len w.symbols ≡ slots) (places : vec_len w.alarms ≡ slots)
    (size : vec_len w.frames ≡ slots) (count : vec_len w.consoles ≡ 8) (nodes : w.wait_lists.nodes ≡ vec_len w.frames)
    (heads_are : length w.wait_lists.lists ≡ heads) (limit : w.jobs.limit ≡ limit_of w.version)
    (number : (1 ≤ w.version) × (w.version ≤ 2)) → job_at w.jobs s ≡ Some i → (c ≡ w.core) × (j ≡ i)
    → record w {
      core = c;
      jobs = record w.jobs { jobs = slice_set w.jobs.jobs s (Some j) };
      lists = named;
      alarm_places = places;
      slots = size;
      consoles_count = count;
      wait_lists_nodes = nodes;
      wait_lists_heads = heads_are;
      limited = limit;
      numbered = number;
    } ≡ w
units_same w s c i j named places size count nodes heads_are limit number had e =
    put_same w s c i j named places size count nodes heads_are limit number had e.0 e.1

-- one unit, if no interrupt is deliverable
quiet_of : (o : Option Job) (j : Job) → o ≡ Some j → IfSome o (λ i. deliverable i ≡ false) → deliverable j ≡ false
quiet_of o j is h = subst (λ (x : Option Job). IfSome x (λ i. deliverable i ≡ false)) is h

pub quiet_at : (o : Option Job) (j : Job) → o ≡ Some j → deliverable j ≡ false → IfSome o (λ i. deliverable i ≡ false)
quiet_at o j is h = subst (λ (x : Option Job). IfSome x (λ i. deliverable i ≡ false)) (sym is) h

pub unit_of_units : (old new : World) (s n : ℕ) → IfSome (job_at old.jobs s) (λ i. deliverable i ≡ false) → n ≤ 1 → (n ≡ 0 → new ≡ old)
    → UnitsMade old new s n 1
    → UnitIn old new s (λ i. unit (core_at old.core s) i) (n == 1)
unit_of_units old new s zero quiet few same m = record {
  same = same refl;
  called =
      let l : Left = left (core_at old.core s) m.job in
      let is : m.left ≡ l = cc in
      subst (λ (o : Option Job). IfSome o (λ k. after_outcome (unit (core_at old.core s) k) (core_at old.core s) k ≡ None)) (sym m.had)
      (ap (λ b. unit_unless b l) (sym (quiet_of (job_at old.jobs s) m.job m.had quiet)) ∙ ap (λ (x : Left). after_unit (Some x)) (sym is)
      ∙ m.most (omega arith));
}
unit_of_units old new s (suc zero) quiet few same m = record {
  job = m.job;
  left = m.left;
  had = m.had;
  is = ap (λ b. unit_unless b (left (core_at old.core s) m.job)) (sym (quiet_of (job_at old.jobs s) m.job m.had quiet)) ∙ m.is;
  becomes = m.becomes;
}
unit_of_units old new s (suc (suc n)) quiet few same m = absurd (omega (arith, few))

-- if no other unit can be made, none is due
outcome_due : (l : Left) (o : Outcome) → after_outcome o l.core l.job ≡ None → is_made (bare_outcome o) ≡ false
outcome_due l (Changed d k) e = absurd cc
outcome_due l (Faulted f) e = absurd cc
outcome_due l (Called x) e = refl

left_due : (p : Whole) (l : Left) → l.job.stopped ≡ false → after_unit (Some l) ≡ None → due_of (Some (with_left l p)) None ≡ false
left_due p l runs e = ap (λ b. if b then false else (if deliverable (bare l.job) then false else is_made (unit l.core (bare l.job)))) runs
    ∙ go (deliverable l.job) refl e
  where
    go : (b : Bool) → deliverable l.job ≡ b → unit_unless b l ≡ None
        → (if deliverable (bare l.job) then false else is_made (unit l.core (bare l.job))) ≡ false
    go true d e = ap (λ b. if b then false else is_made (unit l.core (bare l.job))) (deliverable_bare l.job ∙ d)
    go false d e =
        ap (λ b. if b then false else is_made (unit l.core (bare l.job))) (deliverable_bare l.job ∙ d) ∙ ap is_made (unit_bare l.core l.job)
        ∙ outcome_due l (unit l.core l.job) e

due_at : (w : State) (s : ℕ) (o : Option Whole) (f : Option Frame) → w.raw.jobs s ≡ o → w.frames s ≡ f → unit_due w s ≡ due_of o f
unfolding unit_due
due_at w s o f e h = λ t. due_of (e t) (h t)

pub due_absent : (w : World) (s : ℕ) → job_at w.jobs s ≡ None → unit_due (state_of w) s ≡ false
due_absent w s none = due_at (state_of w) s None _ (raw_is_none w s none) refl

stopped_due : (q : Whole) (f : Option Frame) → q.job.stopped ≡ true → due_of (Some q) f ≡ false
stopped_due q None h = ap (λ b. if b then false else (if deliverable q.job then false else is_made (unit q.core q.job))) h
stopped_due q (Some f) h = refl

pub due_stopped : (w : World) (s : ℕ) (j : Job) → job_at w.jobs s ≡ Some j → j.stopped ≡ true → unit_due (state_of w) s ≡ false
due_stopped w s j is h = due_at (state_of w) s _ _ (raw_is w s j is) refl
    ∙ stopped_due (raw_job w.files (core_at w.core s) j (superior_at w.jobs s) (alarm_at w.alarms.items s)) ((state_of w).frames s) h

framed_due : (o : Option Whole) (f : Option Frame) → is_some f ≡ true → due_of o f ≡ false
framed_due (Some q) (Some f) h = refl
framed_due (Some q) None h = absurd cc
framed_due None f h = refl

pub due_framed : (w : World) (s : ℕ) → is_some (frame_at w.frames.items s) ≡ true → unit_due (state_of w) s ≡ false
due_framed w s h = due_at (state_of w) s _ _ refl (frame_is w s) ∙ framed_due ((state_of w).raw.jobs s) (frame_at w.frames.items s) h

-- no byte is moved next if there is no job, if it is stopped, or in user mode
pub byte_absent : (w : World) (s : ℕ) → job_at w.jobs s ≡ None → byte_due w s ≡ false
byte_absent w s none = ap (byte_due_of w s) none

pub byte_stopped : (w : World) (s : ℕ) (j : Job) → job_at w.jobs s ≡ Some j → j.stopped ≡ true → byte_due w s ≡ false
byte_stopped w s j is h = ap (byte_due_of w s) is ∙ ap (λ b. not b && (holds_byte (frame_at w.frames.items s) && part_due w s)) h

byte_user : (w : World) (s : ℕ) → frame_at w.frames.items s ≡ None → byte_due w s ≡ false
byte_user w s none = go (job_at w.jobs s)
  where
    never : (b : Bool) → (b && false) ≡ false
    never true = refl
    never false = refl

    go : (o : Option Job) → byte_due_of w s o ≡ false
    go (Some j) = ap (λ f. not j.stopped && (holds_byte f && part_due w s)) none ∙ never (not j.stopped)
    go None = refl

pub byte_units : (old new : World) (s n k : ℕ) → UnitsMade old new s n k → is_some (frame_at old.frames.items s) ≡ false → byte_due new s ≡ false
byte_units old new s n k m free = byte_user new s (m.becomes.frame.here ∙ none_is (frame_at old.frames.items s) free)

module _ (old new : World) (s n k : ℕ) (j : Job) (m : UnitsMade old new s n k) (had : job_at old.jobs s ≡ Some j)
    (running : j.stopped ≡ false) (free : is_some (frame_at old.frames.items s) ≡ false) where
  none : frame_at old.frames.items s ≡ None
  none = none_is (frame_at old.frames.items s) free

  abbrev start : Left
  start = left (core_at old.core s) m.job

  abbrev rest : Whole
  rest = raw_job old.files (core_at old.core s) m.job (superior_at old.jobs s) (alarm_at old.alarms.items s)

  runs : Runs (state_of old) s rest start
  runs = record {
    there = raw_is old s m.job m.had;
    runs = (let e : j ≡ m.job = cc in ap (λ (x : Job). x.stopped) (sym e) ∙ running);
    free = frame_is old s ∙ none;
  }

  ticks : Ticks (state_of old) s n m.left
  ticks = units_ticked n (state_of old) s rest start m.left runs m.is

  turns : state_of new ≡ with_slot (state_of old) s (with_left m.left) None
  turns =
      turned_state old new s m.left.core m.left.job m.job None (with_left m.left)
      (subst (λ (f : Option Frame). Becomes old new s m.left.core (Some m.left.job) f (clear_at old.core s)) none m.becomes) m.had
      (becomes_raw old.files (core_at old.core s) m.left.core (superior_at old.jobs s) (alarm_at old.alarms.items s) m.job m.left.job
      (units_keep n start m.left m.is).channels)

  pub steps_state : state_of new ≡ after_ticks (state_of old) s n
  steps_state = turns ∙ sym ticks.state

  pub steps_most : n < k → unit_due (state_of new) s ≡ false
  steps_most h =
      ap (λ (w : State). unit_due w s) turns
      ∙ due_at (with_slot (state_of old) s (with_left m.left) None) s (Some (with_left m.left rest)) None
      (on_slot_here (state_of old).raw.jobs s (with_left m.left) ∙ ap (option_map (with_left m.left)) runs.there)
      (changed_only (state_of old).frames s None).here
      ∙ left_due rest m.left ((units_keep n start m.left m.is).stopped ∙ runs.runs) (m.most h)

  pub steps_paces : paces_of (state_of old) s n ≡ replicate n Step
  steps_paces = ticks.paces

  pub steps_tidy : Tidy old → Tidy new
  steps_tidy tidy =
      tidy_put old new s m.left.core m.job m.left.job (frame_at old.frames.items s) (clear_at old.core s) m.had
      (units_keep n start m.left m.is).channels m.becomes tidy

pub steps_pages : (old new : World) (s n k : ℕ) → UnitsMade old new s n k → new.core.frames ≡ old.core.frames
steps_pages old new s n k m = becomes_pages _ _ _ _ _ _ m.becomes

-- what holds of a state holds after n ticks
record Holds (w : State) : Type 0 where
  sound : Sound w
  plain : Lasts (plain w)

tick_holds : (w : State) (s : ℕ) → Holds w → Holds (tick w s).state
tick_holds w s h =
    let g = given decoding w s h.plain.forest h.sound in
    record { sound = tick_sound w s h.sound g; plain = lasts (plain w) (plain (tick w s).state) s (tick w s).pace h.plain (tick_is w s h.sound g) }

ticks_hold : (n : ℕ) (w : State) (s : ℕ) → Holds w → Holds (after_ticks w s n)
ticks_hold zero w s h = h
ticks_hold (suc n) w s h = ticks_hold n (tick w s).state s (tick_holds w s h)

pub steps_kept : (old new : World) (s n : ℕ) → Kept old → state_of new ≡ after_ticks (state_of old) s n → Tidy new → Kept new
steps_kept old new s n kept e tidy =
    let start : Holds (state_of old) = record {
      sound = kept.sound;
      plain = record {
        forest = kept.forest;
        addressed = record { each = kept.addressed };
        consoled = record { each = kept.consoled };
        timed = kept.timed;
        alarmed = kept.alarmed;
      };
    } in
    let h : Holds (state_of new) = subst Holds (sym e) (ticks_hold n (state_of old) s start) in
    kept_is new
    h.sound
    h.plain.forest
    tidy
    h.plain.addressed.each
    h.plain.consoled.each
    h.plain.timed
    h.plain.alarmed
