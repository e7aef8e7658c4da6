-- Letters that are led together lead to the same.
use Rattle.std.proofs.Common.{if◌then◌else◌, ◌≡◌, ◌≢◌, ◌<◌, ◌≤◌, ◌+◌, ◌-◌, ◌^◌, ◌==◌, ◌&&◌, ◌||◌, ℕ, zero, suc, Bool, true, false, ltb, Option, Some, None, List, [], ◌∷◌, ◌++◌, length, replicate, refl, sym, ap, subst, ◌∙◌, inl, inr, arith, append_assoc}
use Rattle.std.proofs.lemmas.Bool.{cases_Bool, eq-eqb, false≢true, le-leb, le-ltb, leb-true, lt-leb, lt-ltb, not-false}
use Rattle.std.specs.List.{IsFirstAndRest}
use Rattle.std.specs.Option.{option_map_or}
use Rattle.std.proofs.lemmas.Option.{none-some}
use Rattle.std.specs.Prelude.{nat_le, nat_lt, option_and_then}
use Rattle.its_records.specs.declared.calls.Pace.{Pace}
use Rattle.its_records.specs.declared.calls.Pace.TheVariants.{Step, Work}
use Rattle.its_print.specs.declared.runs.Run.{Run}
use Rattle.its_print.specs.Runs.{paces_in}
use Rattle.its_plain.specs.Call.Step.{disturbed, makes, step, transition, transition_of, unless_stopped}
use Rattle.its_plain.specs.Transcript.Licence.{Dots, dots_after, most_dots}
use Rattle.its_plain.specs.Machine.{Machine, Whole}
use Rattle.its_plain.specs.Operator.{Block}
use Rattle.its_plain.specs.Transcript.{Walk, after_letter}
use Rattle.its_plain.specs.Transcript.Turns.{is_running}
use Rattle.its_plain.proofs.StepLaws.{step_by}
use Rattle.its_verify.specs.Gathered.{Begins, dotted, gathered_by, joined, joined_by, letters_in, letters_of, only_run, starred}
use Rattle.its_verify.specs.JudgeState.{LeadsOn, RunLed, RunsLed, walk_of}
use Rattle.its_verify.specs.Letters.{if_so, paced}
use Rattle.its_verify.specs.declared.gathered.Gathered.{Gathered}
use Rattle.its_verify.specs.declared.judge.Judge.{Judge}
use Rattle.its_verify.proofs.JudgeStateLaws.{same_dots}
use Rattle.its_verify.proofs.LettersLaws.{taken_apart}

-- a job that does not run has no step
still : (m : Machine) (i : ℕ) (o : Option Whole) → is_running o ≡ false → transition_of m i o ≡ None
still m i None off = refl
still m i (Some q) off = ap (unless_stopped m i q) (not-false q.job.stopped off)

no_step : (m : Machine) (i : ℕ) → is_running (m.jobs i) ≡ false → step m i ≡ None
unfolding transition
no_step m i off = step_by m i None (still m i (m.jobs i) off)

-- a `*` forgets the `.` before it
forgets_own : (own disturbs made : Bool) (d : ℕ) → (if own || disturbs || made then 0 else (if own then d + 1 else d)) ≡
    (if own || disturbs || made then 0 else d)
forgets_own true disturbs made d = refl
forgets_own false disturbs made d = refl

forgets_dots : (m : Machine) (d : Dots) (i : ℕ) → dots_after m (dots_after m d i Work) i Step ≡ dots_after m d i Step
forgets_dots m d i = same_dots (dots_after m (dots_after m d i Work) i Step) (dots_after m d i Step)
    (λ k. forgets_own (k == i) (disturbed m i k) (makes m i k) (d k))

star_behind_dot : (v : Walk) (i : ℕ) (ps : List Pace) → paced (after_letter v i Work v.machine) i (Step ∷ ps) ≡ paced v i (Step ∷ ps)
star_behind_dot v i ps = ap (λ (d : Dots). option_and_then (λ (n : Machine). paced (with_dots n d) i ps) (step v.machine i)) (forgets_dots v.machine v.dots i)
  where
    with_dots : Machine → Dots → Walk
    with_dots n d = record { machine = n; dots = d; block = v.block; line = v.line }

-- a `.` before a `*` is licensed if the `*` is
dot_left_out : (v : Walk) (i : ℕ) (xs ps : List Pace) → v.dots i < most_dots
    → paced (after_letter v i Work v.machine) i xs ≡ paced v i (Step ∷ ps) → paced v i (Work ∷ xs) ≡ paced v i (Step ∷ ps)
dot_left_out v i xs ps few on =
    elim (cases_Bool (is_running (v.machine.jobs i))) [
      | inl run ↦
          (let next : Machine → Option Walk = λ (n : Machine). paced (after_letter v i Work n) i xs in
          let less : ltb (v.dots i) most_dots ≡ true = lt-ltb (v.dots i) most_dots few in
          ap (λ (b : Bool). option_and_then next (if_so (b && ltb (v.dots i) most_dots) v.machine)) run
          ∙ ap (λ (b : Bool). option_and_then next (if_so b v.machine)) less
          ∙ on)
      | inr off ↦
          (let next : Machine → Option Walk = λ (n : Machine). paced (after_letter v i Work n) i xs in
          ap (λ (b : Bool). option_and_then next (if_so (b && ltb (v.dots i) most_dots) v.machine)) off
          ∙ sym (ap (option_and_then (λ (n : Machine). paced (after_letter v i Step n) i ps)) (no_step v.machine i off)))
    ]

one_more : (v : Walk) (i : ℕ) → (after_letter v i Work v.machine).dots i ≡ v.dots i + 1
one_more v i =
    let own : (i == i) ≡ true = eq-eqb i i refl in
    rw own refl

dots_before : (a : ℕ) (v : Walk) (i : ℕ) (ps : List Pace) → v.dots i + a ≤ most_dots → paced v i (replicate a Work ++ (Step ∷ ps)) ≡ paced v i (Step ∷ ps)
dots_before zero v i ps few = refl
dots_before (suc a) v i ps few =
    let count : (after_letter v i Work v.machine).dots i ≡ v.dots i + 1 = one_more v i in
    dot_left_out v i (replicate a Work ++ (Step ∷ ps)) ps (omega (arith, few))
    (dots_before a (after_letter v i Work v.machine) i ps (omega (arith, few, count)) ∙ star_behind_dot v i ps)

-- `.` between `*`
same_then : (f g : Machine → Option Walk) (o : Option Machine) → ((n : Machine) → f n ≡ g n) → option_and_then f o ≡ option_and_then g o
same_then f g None same = refl
same_then f g (Some n) same = same n

none_left : (v : Walk) (i : ℕ) (n : Machine) → (after_letter v i Step n).dots i ≡ 0
none_left v i n =
    let own : (i == i) ≡ true = eq-eqb i i refl in
    rw own refl

dots_between : (m a : ℕ) (v : Walk) (i : ℕ) (ps : List Pace) → a ≤ most_dots
    → paced v i (Step ∷ (replicate m Step ++ (replicate a Work ++ (Step ∷ ps)))) ≡ paced v i (Step ∷ (replicate m Step ++ (Step ∷ ps)))
dots_between zero a v i ps few =
    same_then (λ n. paced (after_letter v i Step n) i (replicate a Work ++ (Step ∷ ps)))
    (λ n. paced (after_letter v i Step n) i (Step ∷ ps)) (step v.machine i)
    (λ n. (let none : (after_letter v i Step n).dots i ≡ 0 = none_left v i n in dots_before a (after_letter v i Step n) i ps (omega (arith, few, none))))
dots_between (suc m) a v i ps few =
    same_then (λ n. paced (after_letter v i Step n) i (Step ∷ (replicate m Step ++ (replicate a Work ++ (Step ∷ ps)))))
    (λ n. paced (after_letter v i Step n) i (Step ∷ (replicate m Step ++ (Step ∷ ps))))
    (step v.machine i) (λ n. dots_between m a (after_letter v i Step n) i ps few)

-- runs of a letter
one_run : (p : Pace) (m k n : ℕ) (ps : List Pace) → n ≡ m + k + 1 → replicate m p ++ (p ∷ (replicate k p ++ ps)) ≡ replicate n p ++ ps
one_run p m k n ps is =
    let left : suc k ≡ n - m = omega (arith, is) in
    ap (λ (j : ℕ). replicate m p ++ (replicate j p ++ ps)) left ∙ sym (taken_apart n m p ps (omega (arith, is)))

all_stars : (m a k n : ℕ) (v : Walk) (i : ℕ) (ps : List Pace) → a ≤ most_dots → n ≡ m + k + 1
    → paced v i (((Step ∷ replicate m Step) ++ replicate a Work) ++ ((Step ∷ replicate k Step) ++ ps)) ≡ paced v i
    (((Step ∷ replicate n Step) ++ replicate 0 Work) ++ ps)
all_stars m a k n v i ps few is =
    ap (λ (xs : List Pace). paced v i (Step ∷ xs)) (append_assoc (replicate m Step) (replicate a Work) (Step ∷ (replicate k Step ++ ps)))
    ∙ dots_between m a v i (replicate k Step ++ ps) few
    ∙ ap (λ (xs : List Pace). paced v i (Step ∷ xs)) (one_run Step m k n ps is ∙ sym (append_assoc (replicate n Step) [] ps))

all_dots_joined : (r : Run) (a k : ℕ) (v : Walk) (i : ℕ) (ps : List Pace)
    → paced v i ((letters_in r ++ replicate a Work) ++ ((Work ∷ replicate k Work) ++ ps)) ≡ paced v i ((letters_in r ++ replicate (a + k + 1) Work) ++ ps)
all_dots_joined r a k v i ps = ap (paced v i) (
    append_assoc (letters_in r) (replicate a Work) (Work ∷ (replicate k Work ++ ps))
    ∙ ap (λ (xs : List Pace). letters_in r ++ xs) (one_run Work a k (a + k + 1) ps refl)
    ∙ sym (append_assoc (letters_in r) (replicate (a + k + 1) Work) ps))

-- what is led together leads to the same
so_is : {X : Type 0} (b : Bool) (x y : X) → if_so b x ≡ Some y → (b ≡ true) × (x ≡ y)
so_is true x y is = (refl, cc)
so_is false x y is = absurd (none-some y is)

record Leads (g : Gathered) (r : Run) (h : Gathered) : Type 0 where
  few : h.dots ≤ most_dots
  same : (v : Walk) (i : ℕ) (ps : List Pace) → paced v i (letters_of g ++ (letters_in r ++ ps)) ≡ paced v i (letters_of h ++ ps)

leads_by : (p q : Pace) (g h : Gathered) (r : Run) → g.run.pace ≡ p → r.pace ≡ q → g.dots ≤ most_dots → joined_by p q g r.more ≡ Some h → Leads g r h
leads_by Step Step g h r first next few is =
    let n = g.run.more + r.more + 1 in
    let so = so_is (nat_lt n (2 ^ 32)) (only_run (record { pace = Step; more = n })) h is in
    record {
      few = subst (λ (k : Gathered). k.dots ≤ most_dots) so.1 (omega arith);
      same = λ v i ps. rw (first, next) (all_stars g.run.more g.dots r.more n v i ps few refl) ∙ ap (λ (k : Gathered). paced v i (letters_of k ++ ps)) so.1;
    }
leads_by Step Work g h r first next few is =
    let n = g.dots + r.more + 1 in
    let so = so_is (nat_le n most_dots) (record { run = g.run; dots = n }) h is in
    record {
      few = subst (λ (k : Gathered). k.dots ≤ most_dots) so.1 (leb-true n most_dots so.0);
      same = λ v i ps. rw next (all_dots_joined g.run g.dots r.more v i ps) ∙ ap (λ (k : Gathered). paced v i (letters_of k ++ ps)) so.1;
    }
leads_by p q g h r first next few is = absurd (none-some h is)

leads_with : (rs : List Run) (g : Gathered) (r : Run) (o : Option Gathered) (v : Walk) (i : ℕ) → g.dots ≤ most_dots → joined g r ≡ o
    → ((h : Gathered) → h.dots ≤ most_dots → paced v i (letters_of h ++ paces_in rs) ≡ paced v i
    (letters_of (gathered_by h rs).0 ++ paces_in (gathered_by h rs).1))
    → paced v i (letters_of g ++ paces_in (r ∷ rs)) ≡ paced v i
    (letters_of (option_map_or (λ h. gathered_by h rs) o (g, r ∷ rs)).0 ++ paces_in (option_map_or (λ h. gathered_by h rs) o (g, r ∷ rs)).1)
leads_with rs g r None v i few is others = refl
leads_with rs g r (Some h) v i few is others =
    let leads = leads_by g.run.pace r.pace g h r refl refl few is in leads.same v i (paces_in rs) ∙ others h leads.few

gathered_leads : (rs : List Run) (g : Gathered) (v : Walk) (i : ℕ) → g.dots ≤ most_dots
    → paced v i (letters_of g ++ paces_in rs) ≡ paced v i (letters_of (gathered_by g rs).0 ++ paces_in (gathered_by g rs).1)
gathered_leads [] g v i few = refl
gathered_leads (r ∷ rs) g v i few = leads_with rs g r (joined g r) v i few refl (λ h less. gathered_leads rs h v i less)

pub begins : (first : Run) (behind rest : List Run) (g : Gathered) → (g, rest) ≡ gathered_by (only_run first) behind → Begins first behind g rest
begins first behind rest g is v i =
    ap (λ (ps : List Pace). paced v i (first.pace ∷ ps)) (sym (append_assoc (replicate first.more first.pace) [] (paces_in behind)))
    ∙ gathered_leads behind (only_run first) v i (omega arith)
    ∙ ap (λ (k : Gathered × List Run). paced v i (letters_of k.0 ++ paces_in k.1)) (sym is)

-- what is led together is all that may be
pub stars_fit : (n : ℕ) → n < 2 ^ 32 → Some (only_run (record { pace = Step; more = n })) ≡ starred n
stars_fit n few = sym (ap (λ (b : Bool). if_so b (only_run (record { pace = Step; more = n }))) (lt-ltb n (2 ^ 32) few))

pub stars_past : (n : ℕ) → 2 ^ 32 ≤ n → None ≡ starred n
stars_past n many = sym (ap (λ (b : Bool). if_so b (only_run (record { pace = Step; more = n }))) (le-ltb n (2 ^ 32) many))

pub dots_fit : (r : Run) (n : ℕ) → n ≤ 16 → Some (record { run = r; dots = n }) ≡ dotted r n
dots_fit r n few = sym (ap (λ (b : Bool). if_so b (record { run = r; dots = n })) (le-leb n most_dots few))

pub dots_past : (r : Run) (n : ℕ) → 16 < n → None ≡ dotted r n
dots_past r n many = sym (ap (λ (b : Bool). if_so b (record { run = r; dots = n })) (lt-leb n most_dots many))

-- one more run, or one that is not led together with what was gathered
next_gathered : (whole : Gathered × List Run) (rest after : List Run) (run : Run) (g : Gathered) (o : Option Gathered)
    → gathered_by g rest ≡ whole → IsFirstAndRest rest run after → o ≡ joined g run
    → option_map_or (λ h. gathered_by h after) o (g, run ∷ after) ≡ whole
next_gathered whole rest after run g o so parts is =
    ap (λ (k : Option Gathered). option_map_or (λ h. gathered_by h after) k (g, run ∷ after)) is ∙ sym (ap (gathered_by g) parts.0) ∙ so

pub gathers_more : (whole : Gathered × List Run) (rest after : List Run) (run : Run) (g h : Gathered) → gathered_by g rest ≡ whole
    → IsFirstAndRest rest run after
    → Some h ≡ joined g run → gathered_by h after ≡ whole
gathers_more whole rest after run g h so parts is = next_gathered whole rest after run g (Some h) so parts is

pub gathers_stop : (whole : Gathered × List Run) (rest after : List Run) (run : Run) (g : Gathered) → gathered_by g rest ≡ whole
    → IsFirstAndRest rest run after
    → None ≡ joined g run → (g, rest) ≡ whole
gathers_stop whole rest after run g so parts is =
    ap (λ (rs : List Run). (g, rs)) parts.0 ∙ next_gathered whole rest after run g None so parts is

pub gathers_end : (whole : Gathered × List Run) (rest : List Run) (g : Gathered) → gathered_by g rest ≡ whole → length rest ≡ 0 → (g, rest) ≡ whole
gathers_end whole [] g so none = so
gathers_end whole (r ∷ rs) g so none = absurd (omega (arith, none))

-- what was gathered is led
run_first : (old mid : Judge) (i : ℕ) (g : Gathered) → RunLed true old mid i (letters_in g.run)
    → (b : Block) (n : ℕ) (ps : List Pace) → paced (walk_of old b n) i (letters_of g ++ ps) ≡ paced (walk_of mid b n) i (replicate g.dots Work ++ ps)
run_first old mid i g led b n ps = ap (paced (walk_of old b n) i) (append_assoc (letters_in g.run) (replicate g.dots Work) ps)
    ∙ led b n (replicate g.dots Work ++ ps)

pub run_unled : (old new : Judge) (i : ℕ) (g : Gathered) (licensed : Bool) → licensed ≡ false
    → RunLed licensed old new i (g.run.pace ∷ replicate g.run.more g.run.pace) → RunLed false old new i (letters_of g)
run_unled old new i g false is led b n ps = ap (paced (walk_of old b n) i) (append_assoc (letters_in g.run) (replicate g.dots Work) ps)
    ∙ led b n (replicate g.dots Work ++ ps)
run_unled old new i g true is led b n ps = absurd (false≢true (sym is))

pub run_alone : (old new : Judge) (i : ℕ) (g : Gathered) (licensed : Bool) → licensed ≡ true
    → RunLed licensed old new i (g.run.pace ∷ replicate g.run.more g.run.pace) → g.dots ≡ 0
    → RunLed true old new i (letters_of g)
run_alone old new i g true is led none b n ps =
    run_first old new i g led b n ps ∙ ap (λ (a : ℕ). paced (walk_of new b n) i (replicate a Work ++ ps)) none
run_alone old new i g false is led none b n ps = absurd (false≢true is)

all_dots : (a : ℕ) → a ≢ 0 → replicate a Work ≡ Work ∷ replicate (a - 1) Work
all_dots a some = let is : a ≡ suc (a - 1) = omega (arith, some) in ap (λ (j : ℕ). replicate j Work) is

pub dots_then : (old mid new : Judge) (i : ℕ) (g : Gathered) (licensed last : Bool) → licensed ≡ true
    → RunLed licensed old mid i (g.run.pace ∷ replicate g.run.more g.run.pace) → g.dots ≢ 0
    → RunLed last mid new i (Work ∷ replicate (g.dots - 1) Work) → RunLed last old new i (letters_of g)
dots_then old mid new i g true true is first some rest =
    λ b n ps. run_first old mid i g first b n ps ∙ ap (λ (xs : List Pace). paced (walk_of mid b n) i (xs ++ ps)) (all_dots g.dots some) ∙ rest b n ps
dots_then old mid new i g true false is first some rest =
    λ b n ps. run_first old mid i g first b n ps ∙ ap (λ (xs : List Pace). paced (walk_of mid b n) i (xs ++ ps)) (all_dots g.dots some) ∙ rest b n ps
dots_then old mid new i g false last is first some rest = absurd (false≢true is)

-- the runs of a line
pub runs_start : (old : Judge) (i : ℕ) (rs : List Run) → LeadsOn old old i (paces_in rs) (paces_in rs)
runs_start old i rs b n = refl

pub runs_on : (old now new : Judge) (i : ℕ) (all : List Pace) (first : Run) (rest behind left : List Run) (g : Gathered) (licensed : Bool)
    → LeadsOn old now i all (paces_in rest)
    → IsFirstAndRest rest first behind → Begins first behind g left → licensed ≡ true → RunLed licensed now new i (letters_of g)
    → LeadsOn old new i all (paces_in left)
runs_on old now new i all first rest behind left g true so parts begins licensed led b n =
    so b n ∙ ap (λ (rs : List Run). paced (walk_of now b n) i (paces_in rs)) parts.0 ∙ begins (walk_of now b n) i ∙ led b n (paces_in left)
runs_on old now new i all first rest behind left g false so parts begins licensed led b n = absurd (false≢true licensed)

pub runs_stop : (old now new : Judge) (i : ℕ) (all : List Pace) (first : Run) (rest behind left : List Run) (g : Gathered) (licensed : Bool)
    → LeadsOn old now i all (paces_in rest)
    → IsFirstAndRest rest first behind → Begins first behind g left → licensed ≡ false → RunLed licensed now new i (letters_of g)
    → RunsLed false old new i all
runs_stop old now new i all first rest behind left g false so parts begins licensed led b n =
    so b n ∙ ap (λ (rs : List Run). paced (walk_of now b n) i (paces_in rs)) parts.0 ∙ begins (walk_of now b n) i ∙ led b n (paces_in left)
runs_stop old now new i all first rest behind left g true so parts begins licensed led b n = absurd (false≢true (sym licensed))

pub runs_end : (old now : Judge) (i : ℕ) (all : List Pace) (rest : List Run) → length rest ≡ 0 → LeadsOn old now i all (paces_in rest)
    → RunsLed true old now i all
runs_end old now i all [] none so b n = so b n
runs_end old now i all (r ∷ rs) none so b n = absurd (omega (arith, none))
