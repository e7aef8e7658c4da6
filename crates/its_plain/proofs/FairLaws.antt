-- The turns of a RUN are fair: any slot that runs on is nearer than the slot that has just had its
-- turn, and becomes nearer with each turn of another slot.
use Rattle.std.specs.Prelude.{◌≡◌, ◌≢◌, ◌<◌, ◌≤◌, ◌==◌, ◌+◌, ℕ, zero, suc, Bool, true, false, Option, Some, None, List, [], ◌∷◌, ◌++◌, length, drop, refl}
use Rattle.std.proofs.Common.{sym, ◌∙◌, ap, subst, arith, inl, inr, append-nil}
use Rattle.std.proofs.lemmas.Bool.{cases_eq, cases_lt, cases_order, eq-eqb, ne_eqb}
use Rattle.its_robin.specs.Robin.{between, robin, IsNext}
use Rattle.its_robin.proofs.RobinLaws.{robin_next, first_end, first_some, turn_around, way_on, as_far, farthest}
use Rattle.its_records.specs.Item.{Item, Read, Unread, Beyond}
use Rattle.its_word.specs.Limits.{slots}
use Rattle.its_records.specs.declared.calls.Pace.{Pace}
use Rattle.its_records.specs.declared.session.Event.{Event}
use Rattle.its_print.specs.Printing.{Line}
use Rattle.its_plain.specs.Transcript.Course.{Course, Lines, Letter, machine_after, paced, letters, turned_by, turned, past, course}
use Rattle.its_plain.specs.Transcript.Course as courses
use Rattle.its_plain.specs.Promise.Fair.{Turn, with_turn, turns_on, RunsAt, has_turn, Fair, FairTurns}
use Rattle.its_plain.specs.Machine.{Machine}
use Rattle.its_plain.specs.Operator.{Refuses, Does, Ticks, Quits}
use Rattle.its_plain.specs.Operator.Lines.{Lined, Done, Peeks, lined}
use Rattle.its_plain.specs.Transcript.{Walk, at_start, after_letter, walk_after, next_line}
use Rattle.its_plain.specs.Transcript.Turns.{runs, turn_after, highest, turn_kept, turns_asked}

-- the machine after some letters of slot i
abbrev after_letters : Machine → ℕ → List Pace → Machine
after_letters m i [] = m
after_letters m i (p ∷ ps) = after_letters (machine_after m i p) i ps

-- up to n turns from machine m on, if these lines are shown
abbrev chosen : Machine → Option ℕ → (ℕ → List Turn) → List Turn
chosen m (Some s) next = record { machine = m; slot = s } ∷ next s
chosen m None next = []

abbrev turns : ℕ → Machine → ℕ → List Line → List Turn
turns zero m last lines = []
turns (suc n) m last lines =
    chosen m (turn_after m last) (λ s. turns n (after_letters m s (letters lines)) s (drop 1 lines))

-- whose turn it is depends on who runs alone, and it is a slot
pub turn_same : (m n : Machine) (last : ℕ) → ((k : ℕ) → runs m k ≡ runs n k) → turn_after m last ≡ turn_after n last
turn_same m n last h = ap (λ (f : ℕ → Bool). robin slots f last) (λ t k. h k t)

pub turn_within : (m : Machine) (last s : ℕ) → last < slots → turn_after m last ≡ Some s → s < slots
turn_within m last s l h = (robin_next slots last s (runs m) l h).within

-- turns of a RUN, after a turn of the last slot
record From (last : ℕ) (ts : List Turn) : Type 0 where
  count : ℕ
  machine : Machine
  lines : List Line
  is : ts ≡ turns count machine last lines

-- the first turn, and the others. TURN may name a slot past those that there are: if the job of a
-- slot that there is runs, the next turn is that of such a slot
record First (last : ℕ) (t : Turn) (ts : List Turn) : Type 0 where
  nearest : last < slots → IsNext slots (runs t.machine) last t.slot
  back : slots ≤ last → (k : ℕ) → k < slots → runs t.machine k ≡ true → t.slot < slots
  more : From t.slot ts

tail_is : (t u : Turn) (ts us : List Turn) → t ∷ ts ≡ u ∷ us → (t ≡ u) × (ts ≡ us)
tail_is t u ts us h = (cc, cc)

-- from a slot past those that there are the turn goes to the first that runs
back_to : (last s k : ℕ) (f : ℕ → Bool) → slots ≤ last → robin slots f last ≡ Some s → k < slots → f k ≡ true → s < slots
back_to last s k f past is within runs =
    let found = first_some f (last + 1) 0 s (sym (turn_around f slots last (first_end f slots (last + 1) (omega arith))) ∙ is) in
    elim (cases_lt s slots) [
      | inl t ↦ t
      | inr g ↦ absurd (let no : true ≡ false = sym runs ∙ found.before k (omega arith) (omega (arith, g, within)) in cc)
    ]

first_by : (n last : ℕ) (m : Machine) (lines : List Line) (t : Turn) (ts : List Turn) (o : Option ℕ) → turn_after m last ≡ o
    → t ∷ ts ≡ chosen m o (λ s. turns n (after_letters m s (letters lines)) s (drop 1 lines)) → First last t ts
first_by n last m lines t ts (Some s) e h =
    let here : Turn = record { machine = m; slot = s } in
    let parts = tail_is t here ts (turns n (after_letters m s (letters lines)) s (drop 1 lines)) h in
    subst (λ (x : Turn). First last x ts) (sym parts.0)
    (record {
      nearest = λ l. robin_next slots last s (runs m) l e;
      back = λ past k within on. back_to last s k (runs m) past e within on;
      more = record { count = n; machine = after_letters m s (letters lines); lines = drop 1 lines; is = parts.1 };
    })
first_by n last m lines t ts None e h = cc

first_of : (n last : ℕ) (m : Machine) (lines : List Line) (t : Turn) (ts : List Turn) → t ∷ ts ≡ turns n m last lines → First last t ts
first_of zero last m lines t ts h = cc
first_of (suc n) last m lines t ts h = first_by n last m lines t ts (turn_after m last) refl h

first : (last : ℕ) (t : Turn) (ts : List Turn) → From last (t ∷ ts) → First last t ts
first last t ts f = first_of f.count last f.machine f.lines t ts f.is

-- those after some turns
record Behind (ts : List Turn) : Type 0 where
  last : ℕ
  from : From last ts

behind : (before ts : List Turn) (last : ℕ) → From last (before ++ ts) → Behind ts
behind [] ts last f = record { last = last; from = f }
behind (t ∷ before) ts last f = let x = first last t (before ++ ts) f in behind before ts t.slot x.more

-- slot k runs on and is nearer than slot s, which has a turn after these: slot k has one of these
-- turns
has_one : (between_ after : List Turn) (z : Turn) (last k s : ℕ) → last < slots → k < slots → s < slots → z.slot ≡ s
    → between slots last k < between slots last s
    → From last (between_ ++ z ∷ after) → RunsAt k (between_ ++ z ∷ []) → has_turn k between_ ≡ true
has_one [] after z last k s l lk ls e h f r =
    let x = (first last z after f).nearest l in
    let near : between slots last z.slot ≤ between slots last k = x.nearest k lk r.0 in
    let far : between slots last z.slot ≡ between slots last s = ap (between slots last) e in
    absurd (omega (arith, near, far, h))
has_one (t ∷ ts) after z last k s l lk ls e h f r =
    let x = first last t (ts ++ z ∷ after) f in
    let next = x.nearest l in
    let near : between slots last t.slot ≤ between slots last k = next.nearest k lk r.0 in
    elim (cases_eq t.slot k) [
      | inl same ↦ has_here t ts k same
      | inr other ↦ (
          let lt = next.within in
          let nearer : between slots last t.slot < between slots last k = strictly slots last t.slot k l lt lk near other in
          let nearest : between slots last t.slot < between slots last s = omega (arith, nearer, h) in
          let on = way_on slots last t.slot k l lt lk nearer in
          let on_s = way_on slots last t.slot s l lt ls nearest in
          has_later t ts k (has_one ts after z t.slot k s lt lk ls e (omega (arith, on, on_s, h)) x.more r.1))
    ]
  where
    strictly : (n a b c : ℕ) → a < n → b < n → c < n → between n a b ≤ between n a c → b ≢ c → between n a b < between n a c
    strictly n a b c x y z h ne = elim (cases_eq (between n a b) (between n a c))
        [ inl same ↦ absurd (ne (as_far n a b c x y z same)) | inr other ↦ omega (arith, h, other) ]

    has_here : (t : Turn) (ts : List Turn) (k : ℕ) → t.slot ≡ k → has_turn k (t ∷ ts) ≡ true
    has_here t ts k e = rw e (grind arith)

    has_later : (t : Turn) (ts : List Turn) (k : ℕ) → has_turn k ts ≡ true → has_turn k (t ∷ ts) ≡ true
    has_later t ts k h = rw h (grind arith)

-- after a turn of a slot that there is, each turn is that of such a slot; after a turn of a slot
-- past them too, if the job of a slot that there is runs on
stays_within : (ts after : List Turn) (z : Turn) (last : ℕ) → last < slots → From last (ts ++ z ∷ after) → z.slot < slots
stays_within [] after z last l f = ((first last z after f).nearest l).within
stays_within (t ∷ ts) after z last l f =
    let x = first last t (ts ++ z ∷ after) f in stays_within ts after z t.slot (x.nearest l).within x.more

comes_back : (ts after : List Turn) (z : Turn) (last k : ℕ) → slots ≤ last → k < slots → From last (ts ++ z ∷ after) → RunsAt k (ts ++ z ∷ [])
    → z.slot < slots
comes_back [] after z last k past lk f r = (first last z after f).back past k lk r.0
comes_back (t ∷ ts) after z last k past lk f r =
    let x = first last t (ts ++ z ∷ after) f in stays_within ts after z t.slot (x.back past k lk r.0) x.more

fair_turns : (n last : ℕ) (m : Machine) (lines : List Line) → Fair (turns n m last lines)
fair_turns n last m lines = record {
  each = λ before between_ after a z k is same lk ne run.
      let b = behind before (a ∷ (between_ ++ (z ∷ after))) last (record { count = n; machine = m; lines = lines; is = sym is }) in
      let x = first b.last a (between_ ++ z ∷ after) b.from in
      elim (cases_lt a.slot slots) [
        | inl la ↦ has_one between_ after z a.slot k a.slot la lk la same (farthest slots a.slot k la lk ne) x.more run
        | inr past ↦ (
            let back : z.slot < slots = comes_back between_ after z a.slot k past lk x.more run in
            absurd (omega (arith, back, past, same)))
      ];
}

-- a run that begins with letters, or with turns, goes on from a walk whose line is the same
record Leads (v w : Walk) (m : Machine) : Type 0 where
  line : w.line ≡ v.line
  machine : w.machine ≡ m

letter_off : (b : Bool) (m : Machine) (i : ℕ) (p : Pace) (ts : List Turn) → with_turn b m (Letter i p) ts ≡ ts
letter_off true m i p ts = refl
letter_off false m i p ts = refl

-- the turns among the moments of letters: none
paced_turns : (k i : ℕ) (v : Walk) (ps : List Pace) (next : Walk → Course) (ts : List Turn)
    → ((w : Walk) → Leads v w (after_letters v.machine i ps) → turns_on k (next w).moments ≡ ts) → turns_on k (paced v i ps next).moments ≡ ts
paced_turns k i v [] next ts h = h v (record { line = refl; machine = refl })
paced_turns k i v (p ∷ ps) next ts h =
    let w = after_letter v i p (machine_after v.machine i p) in
    letter_off (v.line == k) v.machine i p (turns_on k (paced w i ps next).moments)
    ∙ paced_turns k i w ps next ts (λ x l. h x (record { line = l.line; machine = l.machine }))

-- the turns of this line, or none of another
abbrev of_line : Bool → List Turn → List Turn
of_line true ts = ts
of_line false ts = []

of_none : (b : Bool) → of_line b [] ≡ []
of_none true = refl
of_none false = refl

turn_then : (b : Bool) (m : Machine) (s : ℕ) (ts us : List Turn)
    → with_turn b m (courses.Turns s) (of_line b ts ++ us) ≡ of_line b (record { machine = m; slot = s } ∷ ts) ++ us
turn_then true m s ts us = refl
turn_then false m s ts us = refl

-- what goes on after some turns has the turns that it has, whatever its state is then
abbrev Onward : Walk → (Walk → ℕ → List Line → Course) → ℕ → List Turn → Type 0
Onward v next k us = (w : Walk) (l : ℕ) (rest : List Line) → w.line ≡ v.line → turns_on k (next w l rest).moments ≡ us

turn_moments : (k n last : ℕ) (v : Walk) (lines : List Line) (next : Walk → ℕ → List Line → Course) (us : List Turn) (o : Option ℕ)
    → Onward v next k us
    → ((w : Walk) (s : ℕ) (rest : List Line) → w.line ≡ v.line
    → turns_on k (turned n w s rest next).moments ≡ of_line (v.line == k) (turns n w.machine s rest) ++ us)
    → turns_on k (turned_by o v lines (λ w s rest. turned n w s rest next) (next v last lines)).moments
    ≡ of_line (v.line == k) (chosen v.machine o (λ s. turns n (after_letters v.machine s (letters lines)) s (drop 1 lines))) ++ us
turn_moments k n last v lines next us None done more = done v last lines refl ∙ ap (λ ts. ts ++ us) (sym (of_none (v.line == k)))
turn_moments k n last v lines next us (Some s) done more =
    let rest = drop 1 lines in
    let ts = turns n (after_letters v.machine s (letters lines)) s rest in
    ap (with_turn (v.line == k) v.machine (courses.Turns s))
    (paced_turns k s v (letters lines) (λ w. turned n w s rest next) (of_line (v.line == k) ts ++ us)
    (λ w leads. more w s rest leads.line ∙ ap (λ m. of_line (v.line == k) (turns n m s rest) ++ us) leads.machine))
    ∙ turn_then (v.line == k) v.machine s ts us

turned_moments : (k n last : ℕ) (v : Walk) (lines : List Line) (next : Walk → ℕ → List Line → Course) (us : List Turn) → Onward v next k us
    → turns_on k (turned n v last lines next).moments ≡ of_line (v.line == k) (turns n v.machine last lines) ++ us
turned_moments k zero last v lines next us h = h v last lines refl ∙ ap (λ ts. ts ++ us) (sym (of_none (v.line == k)))
turned_moments k (suc n) last v lines next us h =
    turn_moments k n last v lines next us (turn_after v.machine last) h
    (λ w s rest same.
    turned_moments k n s w rest next us (λ x i more is. h x i more (is ∙ same))
    ∙ ap (λ (i : ℕ). of_line (i == k) (turns n w.machine s rest) ++ us) same)

-- the result of a line contains no turn of its own
abbrev Follows : Walk → (Walk → List Line → Course) → ℕ → List Turn → Type 0
Follows v next k us = (w : Walk) (rest : List Line) → w.line ≡ v.line → turns_on k (next w rest).moments ≡ us

line_off : (b : Bool) (m : Machine) (e : Event) (ts : List Turn) → with_turn b m (Lines e) ts ≡ ts
line_off true m e ts = refl
line_off false m e ts = refl

-- the turns of line k, from a line after it on
past_none : (k : ℕ) (v : Walk) (e : Event) (l : Lined) (lines : List Line) (next : Walk → List Line → Course) → Follows v next k []
    → turns_on k (past v e l lines next).moments ≡ []
past_none k v e (Done (Refuses r)) lines next h = refl
past_none k v e (Done (Does n out touched b)) lines next h = line_off (v.line == k) v.machine e _
    ∙ h (walk_after v n touched b) (drop (length out) lines) refl
past_none k v e (Done (Ticks s i)) lines next h = paced_turns k s v (letters lines) (λ w. next w (drop 1 lines)) [] (λ w leads. h w (drop 1 lines) leads.line)
past_none k v e (Done Quits) lines next h = refl
past_none k v e (Peeks s) lines next h = h v (drop 1 lines) refl

later_none : (k last : ℕ) (v : Walk) (es : List Item) (lines : List Line) → k < v.line → turns_on k (course v last es lines).moments ≡ []
later_none k last v [] lines after = refl
later_none k last v (Read e ∷ es) lines after =
    past_none k v e (lined v.machine v.block e) lines _
    (λ w rest same.
    turned_moments k (turns_asked e) (turn_kept last e) w rest (λ x i more. course (next_line x) i es more) []
    (λ x i more is. (let to : x.line ≡ v.line = is ∙ same in later_none k i (next_line x) es more (omega (arith, to, after))))
    ∙ ap (λ b. of_line b (turns (turns_asked e) w.machine (turn_kept last e) rest) ++ []) (ne_eqb w.line k (λ (is : w.line ≡ k). omega (arith, is, same, after))))
later_none k last v (Unread r ∷ es) lines after = refl
later_none k last v (Beyond ∷ es) lines after = refl

no_turns : (before : List Turn) (t : Turn) (ts : List Turn) → [] ≡ before ++ (t ∷ ts) → ⊥
no_turns [] t ts h = cc
no_turns (x ∷ before) t ts h = cc

none_fair : Fair []
none_fair = record { each = λ before between_ after a z k is same lk ne run. absurd (no_turns before a (between_ ++ (z ∷ after)) is) }

-- letters, and turns of another line, with all that follows
letters_fair : (k i : ℕ) (v : Walk) (ps : List Pace) (next : Walk → Course) → ((w : Walk) → w.line ≡ v.line → Fair (turns_on k (next w).moments))
    → Fair (turns_on k (paced v i ps next).moments)
letters_fair k i v [] next h = h v refl
letters_fair k i v (p ∷ ps) next h =
    let w = after_letter v i p (machine_after v.machine i p) in
    subst Fair (sym (letter_off (v.line == k) v.machine i p (turns_on k (paced w i ps next).moments))) (letters_fair k i w ps next (λ x same. h x same))

abbrev GoesOn : ℕ → (Walk → ℕ → List Line → Course) → Type 0
GoesOn k next = (w : Walk) (l : ℕ) (rest : List Line) → Fair (turns_on k (next w l rest).moments)

turn_fair : (k n last : ℕ) (v : Walk) (lines : List Line) (next : Walk → ℕ → List Line → Course) (o : Option ℕ) → v.line ≢ k
    → GoesOn k next
    → ((w : Walk) (s : ℕ) (rest : List Line) → w.line ≢ k → Fair (turns_on k (turned n w s rest next).moments))
    → Fair (turns_on k (turned_by o v lines (λ w s rest. turned n w s rest next) (next v last lines)).moments)
turn_fair k n last v lines next None ne done more = done v last lines
turn_fair k n last v lines next (Some s) ne done more =
    let w = letters_fair k s v (letters lines) (λ w. turned n w s (drop 1 lines) next)
    (λ w same. more w s (drop 1 lines) (λ e. ne (sym same ∙ e))) in
    subst (λ b. Fair (with_turn b v.machine (courses.Turns s) (turns_on k
    (paced v s (letters lines) (λ w. turned n w s (drop 1 lines) next)).moments))) (sym (ne_eqb v.line k ne)) w

turned_fair : (k n last : ℕ) (v : Walk) (lines : List Line) (next : Walk → ℕ → List Line → Course) → v.line ≢ k → GoesOn k next
    → Fair (turns_on k (turned n v last lines next).moments)
turned_fair k zero last v lines next ne h = h v last lines
turned_fair k (suc n) last v lines next ne h =
    turn_fair k n last v lines next (turn_after v.machine last) ne h (λ w s rest other. turned_fair k n s w rest next other h)

-- a line whose turns, with all that follows, are fair
past_fair : (k : ℕ) (v : Walk) (e : Event) (l : Lined) (lines : List Line) (next : Walk → List Line → Course)
    → ((w : Walk) (rest : List Line) → w.line ≡ v.line → Fair (turns_on k (next w rest).moments)) → Fair (turns_on k (past v e l lines next).moments)
past_fair k v e (Done (Refuses r)) lines next h = none_fair
past_fair k v e (Done (Does n out touched b)) lines next h =
    subst Fair (sym (line_off (v.line == k) v.machine e (turns_on k (next (walk_after v n touched b) (drop (length out) lines)).moments)))
    (h (walk_after v n touched b) (drop (length out) lines) refl)
past_fair k v e (Done (Ticks s i)) lines next h = letters_fair k s v (letters lines) (λ w. next w (drop 1 lines)) (λ w same. h w (drop 1 lines) same)
past_fair k v e (Done Quits) lines next h = none_fair
past_fair k v e (Peeks s) lines next h = h v (drop 1 lines) refl

-- the turns of line k, from a line that is not after it on
course_fair : (k last : ℕ) (v : Walk) (es : List Item) (lines : List Line) → Fair (turns_on k (course v last es lines).moments)
course_fair k last v [] lines = none_fair
course_fair k last v (Read e ∷ es) lines =
    past_fair k v e (lined v.machine v.block e) lines _
    (λ w rest same.
    elim (cases_order w.line k) [
      | inl here ↦ (
          let kept = turn_kept last e in
          let none = turned_moments k (turns_asked e) kept w rest (λ x i more. course (next_line x) i es more) []
          (λ x i more is. later_none k i (next_line x) es more (omega (arith, is, here))) in
          subst Fair (sym (none ∙ ap (λ b. of_line b (turns (turns_asked e) w.machine kept rest) ++ []) (eq-eqb w.line k here)
          ∙ append-nil (turns (turns_asked e) w.machine kept rest))) (fair_turns (turns_asked e) kept w.machine rest)
          )
      | inr apart ↦ turned_fair k (turns_asked e) (turn_kept last e) w rest (λ x i more. course (next_line x) i es more)
          (λ (is : w.line ≡ k). elim apart [ inl less ↦ omega (arith, is, less) | inr more ↦ omega (arith, is, more) ])
          (λ x i more. course_fair k i (next_line x) es more)
    ])
course_fair k last v (Unread r ∷ es) lines = none_fair
course_fair k last v (Beyond ∷ es) lines = none_fair

-- the turns of each RUN of every session are fair, whatever its lines are
pub fair_all : (es : List Item) (lines : List Line) → FairTurns es lines
fair_all es lines = record { fair = λ k. course_fair k highest at_start es lines }
