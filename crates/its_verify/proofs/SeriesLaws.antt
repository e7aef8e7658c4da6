-- So many steps of one job alone are so many `*`.
use Rattle.std.proofs.Common.{◌≡◌, ◌≢◌, ◌<◌, ◌==◌, ◌||◌, ◌&&◌, not, ℕ, zero, suc, Bool, true, false, if◌then◌else◌, is_some, Option, Some, None, List, [], ◌∷◌, ◌++◌, length, replicate, refl, sym, ap, subst, ◌∙◌, inl, inr, arith, slice_set}
use Rattle.std.specs.Prelude.{option_and_then}
use Rattle.std.proofs.lemmas.Bool.{cases_eq, eq-eqb, false≢true, ne_eqb}
use Rattle.std.proofs.lemmas.List.{get_or-set_same, get_or-set_other}
use Rattle.its_records.specs.declared.calls.Pace.{Pace}
use Rattle.its_records.specs.declared.calls.Pace.TheVariants.{Step}
use Rattle.its_plain.specs.Call.Step.{Transition, among, quiet_step, disturbed, is_made, transition, makes}
use Rattle.its_plain.specs.Transcript.Licence.{Dots, dots_after}
use Rattle.its_plain.specs.Machine.{Machine}
use Rattle.its_plain.specs.Operator.{Block}
use Rattle.its_plain.specs.Transcript.{Walk, after_letter}
use Rattle.its_direct.specs.Plain.{machine_of}
use Rattle.its_direct.specs.Parts.{InParts}
use Rattle.its_direct.specs.Series.{Series, unit_due}
use Rattle.its_verify.specs.Letters.{paced}
use Rattle.its_verify.specs.JudgeState.{RunLed, dots_of, walk_of}
use Rattle.its_verify.specs.declared.judge.Judge.{Judge}
use Rattle.its_verify.proofs.JudgeStateLaws.{disturbed_is, makes_is, same_dots, step_is}

-- none came for slot i, as after one or more `*` of it
abbrev cleared : Dots → ℕ → Dots
cleared d i k = if k == i then 0 else d k

abbrev cleared_by : ℕ → Dots → ℕ → Dots
cleared_by zero d i = d
cleared_by (suc k) d i = cleared d i

twice : (b : Bool) (n : ℕ) → (if b then 0 else (if b then 0 else n)) ≡ (if b then 0 else n)
twice true n = refl
twice false n = refl

cleared_again : (k : ℕ) (d : Dots) (i : ℕ) → cleared_by k (cleared d i) i ≡ cleared d i
cleared_again zero d i = refl
cleared_again (suc k) d i = same_dots (cleared (cleared d i) i) (cleared d i) (λ x. twice (x == i) (d x))

or_false : (b c e : Bool) (n : ℕ) → c ≡ false → e ≡ false → (if b || c || e then 0 else n) ≡ (if b then 0 else n)
or_false true c e n h g = refl
or_false false c e n h g = rw (h, g) refl

-- no job is made if the same slots have jobs
unmade : {X : Type 0} (o p : Option X) → is_some p ≡ is_some o → (not (is_some o) && is_some p) ≡ false
unmade None None h = refl
unmade None (Some x) h = absurd (false≢true (sym h))
unmade (Some x) p h = refl

-- steps of slot j's job that disturb nobody and make no job
record Alone (m : Machine) (j : ℕ) (o : Machine) : Type 0 where
  step : Transition
  is : transition m j ≡ Some step
  machine : o ≡ step.machine
  alone : step.disturbs ≡ []
  unmade : (k : ℕ) → is_made m o k ≡ false

abbrev AllAlone : ℕ → Machine → ℕ → Machine → Type 0
AllAlone zero m j o = o ≡ m
AllAlone (suc n) m j o = (p : Machine) × Alone m j p × AllAlone n p j o

series_alone : (n : ℕ) (m o : Machine) (j : ℕ) → Series n m j o → AllAlone n m j o
series_alone zero m o j s = s
series_alone (suc n) m o j s = (
  s.0,
  record { step = quiet_step s.0; is = s.1; machine = refl; alone = refl; unmade = λ k. unmade (m.jobs k) (s.0.jobs k) (s.2 k) },
  series_alone n s.0 o j s.3,
)

parts_alone : (n : ℕ) (m o : Machine) (j : ℕ) → InParts n m j o → AllAlone n m j o
parts_alone zero m o j s = s
parts_alone (suc n) m o j s = (
  s.0,
  record { step = s.1.step; is = s.1.is; machine = s.1.machine; alone = s.1.alone; unmade = s.1.unmade },
  parts_alone n s.0 o j s.2,
)

alone_dots : (m p : Machine) (d : Dots) (i : ℕ) → Alone m i p → dots_after m d i Step ≡ cleared d i
alone_dots m p d i a = same_dots (dots_after m d i Step) (cleared d i) (λ x. or_false (x == i) (disturbed m i x) (makes m i x) (d x)
    (disturbed_is m i x a.step a.is ∙ ap (λ (ks : List ℕ). among x ks) a.alone)
    (makes_is m i x a.step a.is ∙ ap (λ (n : Machine). is_made m n x) (sym a.machine) ∙ a.unmade x))

abbrev walk_at : Machine → Dots → Block → ℕ → Walk
walk_at m d b n = record { machine = m; dots = d; block = b; line = n }

one_paced : (m p : Machine) (d : Dots) (b : Block) (n i : ℕ) (ps : List Pace) → Alone m i p
    → paced (walk_at m d b n) i (Step ∷ ps) ≡ paced (walk_at p (cleared d i) b n) i ps
one_paced m p d b n i ps a =
    ap (option_and_then (λ (x : Machine). paced (after_letter (walk_at m d b n) i Step x) i ps)) (step_is m i a.step a.is ∙ ap Some (sym a.machine))
    ∙ ap (λ (e : Dots). paced (walk_at p e b n) i ps) (alone_dots m p d i a)

all_paced : (k : ℕ) (m o : Machine) (d : Dots) (b : Block) (n i : ℕ) (ps : List Pace) → AllAlone k m i o
    → paced (walk_at m d b n) i (replicate k Step ++ ps) ≡ paced (walk_at o (cleared_by k d i) b n) i ps
all_paced zero m o d b n i ps s = ap (λ (x : Machine). paced (walk_at x d b n) i ps) (sym s)
all_paced (suc k) m o d b n i ps s =
    one_paced m s.0 d b n i (replicate k Step ++ ps) s.1
    ∙ all_paced k s.0 o (cleared d i) b n i ps s.2
    ∙ ap (λ (e : Dots). paced (walk_at o e b n) i ps) (cleared_again k d i)

set_cleared : (ds : List ℕ) (i : ℕ) → i < length ds → dots_of (slice_set ds i 0) ≡ cleared (dots_of ds) i
set_cleared ds i room = same_dots (dots_of (slice_set ds i 0)) (cleared (dots_of ds) i) (λ k. elim (cases_eq k i) [
  | inl own ↦
      (let test : (k == i) ≡ true = eq-eqb k i own in
      ap (λ (x : ℕ). dots_of (slice_set ds i 0) x) own ∙ get_or-set_same ds i 0 0 room ∙ sym (rw test refl))
  | inr ne ↦
      (let test : (k == i) ≡ false = ne_eqb k i ne in
      get_or-set_other ds i k 0 0 ne ∙ sym (rw test refl))
])

-- none was made
pub units_none : (old new : Judge) (i k : ℕ) → k ≡ 0 → new.plain ≡ old.plain → new.dots ≡ old.dots → RunLed true old new i (replicate k Step)
units_none old new i k none plain dots b n ps =
    ap (λ (j : ℕ). paced (walk_of old b n) i (replicate j Step ++ ps)) none
    ∙ (λ t. paced (walk_at (machine_of (sym plain t)) (dots_of (sym dots t)) b n) i ps)

-- some were
some_led : (old new : Judge) (i k : ℕ) → k ≢ 0 → AllAlone k (machine_of old.plain) i (machine_of new.plain)
    → new.dots ≡ slice_set old.dots i 0 → i < length old.dots → RunLed true old new i (replicate k Step)
some_led old new i zero some s dots room b n ps = absurd (some refl)
some_led old new i (suc k) some s dots room b n ps =
    all_paced (suc k) (machine_of old.plain) (machine_of new.plain) (dots_of old.dots) b n i ps s
    ∙ ap (λ (e : Dots). paced (walk_at (machine_of new.plain) e b n) i ps) (sym (ap dots_of dots ∙ set_cleared old.dots i room))

pub units_some : (old new : Judge) (i k : ℕ) → k ≢ 0 → Series k (machine_of old.plain) i (machine_of new.plain)
    → new.dots ≡ slice_set old.dots i 0 → i < length old.dots → RunLed true old new i (replicate k Step)
units_some old new i k some s dots room = some_led old new i k some (series_alone k (machine_of old.plain) (machine_of new.plain) i s) dots room

-- if a unit was due, some were made
pub units_first : (old mid new : Judge) (i n j k : ℕ) → j ≡ 0 → (j ≡ 0 → mid.plain ≡ old.plain) → (j < n → unit_due (machine_of mid.plain) i ≡ false)
    → unit_due (machine_of old.plain) i ≡ true → k < n → unit_due (machine_of new.plain) i ≡ false
units_first old mid new i n j k none same most due less =
    absurd (false≢true (sym (most (omega (arith, none, less))) ∙ ap (λ p. unit_due (machine_of p) i) (same none) ∙ due))

-- parts of a call
pub parts_some : (old new : Judge) (i k : ℕ) → k ≢ 0 → InParts k (machine_of old.plain) i (machine_of new.plain)
    → new.dots ≡ slice_set old.dots i 0 → i < length old.dots → RunLed true old new i (replicate k Step)
parts_some old new i k some s dots room = some_led old new i k some (parts_alone k (machine_of old.plain) (machine_of new.plain) i s) dots room

pub parts_none : (old new : Judge) (i k : ℕ) → k ≡ 0 → InParts k (machine_of old.plain) i (machine_of new.plain) → new.dots ≡ old.dots
    → RunLed true old new i (replicate k Step)
parts_none old new i k none s dots b n ps =
    ap (λ (j : ℕ). paced (walk_of old b n) i (replicate j Step ++ ps)) none
    ∙ (λ t. paced (walk_at (sym (subst (λ (j : ℕ). InParts j (machine_of old.plain) i (machine_of new.plain)) none s) t) (dots_of (sym dots t)) b n) i ps)
