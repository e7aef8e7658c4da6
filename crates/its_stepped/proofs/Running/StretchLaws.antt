-- Each byte once and in order, over a stretch of a session's run (docs/CALLS.md, "Each byte once").
use Rattle.std.specs.Prelude.{◌≡◌, ◌≢◌, ℕ, suc, ◌+◌, Bool, true, false, Option, Some, None, is_some, List, [], ◌∷◌, length, Result, Ok, Err, refl, option_map}
use Rattle.std.proofs.Common.{sym, ◌∙◌, ap, subst, arith, inl, inr}
use Rattle.std.proofs.lemmas.Bool.{cases_eq, eqb-true}
use Rattle.its_records.specs.Item.{Item}
use Rattle.its_records.specs.declared.calls.Ask.{Ask}
use Rattle.its_records.specs.declared.calls.Pace.TheVariants.{Step}
use Rattle.its_records.specs.declared.calls.Site.{Site}
use Rattle.its_records.specs.declared.jobs.Job.{Job}
use Rattle.its_records.specs.declared.session.Event.{Event}
use Rattle.its_records.specs.declared.session.Event.TheVariants as events
use Rattle.its_records.specs.declared.session.Reason.{Reason}
use Rattle.its_records.specs.declared.show.JobShow.{JobShow}
use Rattle.its_print.specs.Printing.{Line, listed}
use Rattle.its_frame.specs.declared.decision.Decision.{Decision}
use Rattle.its_frame.specs.declared.decision.Decision.TheVariants.{Waits, Goes, Ends, Gone}
use Rattle.its_frame.specs.declared.name.CallName.TheVariants.{Siot}
use Rattle.its_plain.specs.Call.Arguments.{input}
use Rattle.its_plain.specs.Operator.Lines.{operate, by_exam, in_a_line, by_state}
use Rattle.its_plain.specs.Call.Step.{acted, decision, step, Transition, by_delivery, unless_stopped, transition_of, transition, part_in, steps_on}
use Rattle.its_plain.specs.Transcript.Course.{Deed, Lines, Turns, Letter, Moment, after_step, machine_after, run_of}
use Rattle.its_plain.specs.Transcript.{at_start}
use Rattle.its_plain.specs.Transcript.Turns.{highest}
use Rattle.its_plain.specs.Call.Decide.{call_named, reach}
use Rattle.its_plain.specs.Call.Footprint.{Stands}
use Rattle.its_plain.specs.Unit.Interrupt.{deliverable}
use Rattle.its_plain.specs.Machine.{Whole, Machine, changed}
use Rattle.its_plain.specs.Promise.OneByte.{rest_of_transfer, ByteBy}
use Rattle.its_plain.specs.Operator.{Block, Operated, Does, disturbs}
use Rattle.its_plain.specs.Operator.Jobs.{after_int, after_stop, after_cont, on_job, with_registers, on_registers, examined, state_shown}
use Rattle.its_plain.specs.Promise.Stretch.{Untouched, machine_at, is_own, StretchFits, Stretch, counted, parts_in, incremented, rest_after, ByteOf, InOrder_by, InOrder, StandsAt, Transferred, end_of, begin_of, Stretches}
use Rattle.its_stepped.specs.Forest.{Forest}
use Rattle.its_stepped.proofs.Frame.DecodingLaws.{input_word, siot_inputs}
use Rattle.its_stepped.proofs.Running.CourseLaws.{Linked, EachMoment, run_course, linked_middle}
use Rattle.its_stepped.proofs.Keeping.ForestLaws.{forest_starts}
use Rattle.its_stepped.proofs.Frame.FrameLaws.{changed_only}
use Rattle.its_stepped.proofs.Running.OneByteLaws.{rest_pointer, rest_count, decides_error, each_byte, stands_acts, some_or}
use Rattle.its_stepped.proofs.Frame.PcLaws.{stands_same}
use Rattle.its_stepped.proofs.Duties.CallDuties.{named_same}

-- the moments of a run: each finds a forest of jobs, and one that is a letter leads to the machine
-- after the letter
abbrev Leads : Deed → Machine → Machine → Type 0
Leads (Letter i p) m n = n ≡ machine_after m i p
Leads (Turns s) m n = Unit {0}
Leads (Lines e) m n = Unit {0}

record Leading (t : Moment) (n : Machine) : Type 0 where
  forest : Forest t.machine
  leads : Leads t.deed t.machine n

each_leads : EachMoment Leading
each_leads = record {
  letter = λ v i p forest. record { forest = forest; leads = refl };
  turn = λ v s forest. record { forest = forest; leads = tt };
  line = λ v e n out touched c forest is. record { forest = forest; leads = tt };
}

-- if the job is at the call, its arguments are its words
stands_at : (m : Machine) (j : ℕ) (q : Whole) (s : Site) (a : Ask) → m.jobs j ≡ Some q → Stands q.core q.job s a → StandsAt m j s a
stands_at m j q s a is st = record { job = q; there = is; stands = st; words = λ k p e. input_word q.core q.job s a k p st e }

-- and it is still there if its core and its PC are as they were
untouched : (m n : Machine) (j : ℕ) (s : Site) (a : Ask) → StandsAt m j s a → Untouched (m.jobs j) (n.jobs j) → StandsAt n j s a
untouched m n j s a st h = go (n.jobs j) refl (subst (λ (o : Option Whole). Untouched o (n.jobs j)) st.there h)
  where
    go : (o : Option Whole) → n.jobs j ≡ o → Untouched (Some st.job) o → StandsAt n j s a
    go (Some p) is h =
        stands_at n j p s a is (stands_same p.core st.job.job p.job s a h.1 (subst (λ c. Stands c st.job.job s a) (sym h.0) st.stands))
    go None is h = absurd h

-- a decision that is a part of the call
abbrev is_part : Decision → Bool
is_part (Goes cs h vs) = true
is_part (Waits r) = false
is_part (Ends cs ss e) = false
is_part (Gone cs) = false

record Part (m : Machine) (j : ℕ) (q : Whole) (a : Ask) : Type 0 where
  quiet : deliverable q.job ≡ false
  part : is_part (decision m j q a) ≡ true
  steps : step m j ≡ Some (after_step m j)

part_acts : (m : Machine) (j : ℕ) (a : Ask) (ks : List ℕ) (d : Decision) → part_in (acted m j a ks d) ≡ is_part d
unfolding acted
part_acts m j a ks (Goes cs h vs) = refl
part_acts m j a ks (Waits r) = refl
part_acts m j a ks (Ends cs ss x) = refl
part_acts m j a ks (Gone cs) = refl

part_steps : (o : Option Transition) → part_in o ≡ true → is_some (option_map (λ (t : Transition). t.machine) o) ≡ true
part_steps (Some t) h = refl
part_steps None h = cc

part_runs : (m : Machine) (j : ℕ) (q : Whole) (b : Bool) → part_in (unless_stopped m j q b) ≡ true → b ≡ false
part_runs m j q false h = refl
part_runs m j q true h = cc

part_quiet : (m : Machine) (j : ℕ) (q : Whole) (b : Bool) → part_in (by_delivery m j q b) ≡ true → b ≡ false
part_quiet m j q false h = refl
part_quiet m j q true h = cc

part_is : (m : Machine) (j : ℕ) (q : Whole) (s : Site) (a : Ask) → steps_on m j ≡ true → m.jobs j ≡ Some q → Stands q.core q.job s a → Part m j q a
unfolding steps_on transition step
part_is m j q s a h is st =
    let at : part_in (unless_stopped m j q q.job.stopped) ≡ true = ap (λ (o : Option Whole). part_in (transition_of m j o)) (sym is) ∙ h in
    let runs = part_runs m j q q.job.stopped at in
    let quiet = part_quiet m j q (deliverable q.job) (ap (λ (b : Bool). part_in (unless_stopped m j q b)) (sym runs) ∙ at) in
    record {
      quiet = quiet;
      part = sym (part_acts m j a (reach m j q a) (decision m j q a)) ∙ ap part_in (sym (stands_acts m j q s a is runs quiet st)) ∙ h;
      steps = some_or (step m j) m (part_steps (transition m j) h);
    }

byte_of : (m n : Machine) (j : ℕ) (q : Whole) (s : Site) (a : Ask) (d : Decision) → m.jobs j ≡ Some q → is_part d ≡ true
    → ByteBy m j q s a d n → ByteOf m j s a n
byte_of m n j q s a (Goes cs h vs) is e b = record { job = q; there = is; changes = cs.items; held = h; byte = b }
byte_of m n j q s a _ is e b = cc

-- only a call whose decoding gave no error has parts
part_fine : (m : Machine) (j : ℕ) (q : Whole) (a : Ask) → is_part (decision m j q a) ≡ true → a.fail ≡ 0
part_fine m j q a h = elim (cases_eq a.fail 0) [
  | inl z ↦ z
  | inr ne ↦ absurd (let no : false ≡ true = ap is_part (sym (decides_error m j q a ne)) ∙ h in cc)
]

-- what moments have moved: this of each, and then the job is at the rest of k bytes more
record Moves (j : ℕ) (s : Site) (a : Ask) (k : ℕ) (n : Machine) (Each : Type 0) : Type 0 where
  each : Each
  rest : StandsAt n j s (rest_after k a)
  pointer : input (rest_after k a) 1 ≡ incremented k (input a 1)
  count : input (rest_after k a) 2 + k ≡ input a 2

one_more : (j : ℕ) (s : Site) (a : Ask) (k : ℕ) (n : Machine) (One Each : Type 0) → length a.inputs.items ≡ 3 → One → input a 2 ≢ 0
    → Moves j s (rest_of_transfer a) k n Each
    → Moves j s a (suc k) n (One × Each)
one_more j s a k n One Each three one some h = record {
  each = (one, h.each);
  rest = h.rest;
  pointer = h.pointer ∙ ap (incremented k) (rest_pointer a three);
  count = let c = h.count in let r = rest_count a three in omega arith;
}

-- a moment, and those after it
moment_moves : (b : Bool) (m n last : Machine) (j : ℕ) (s : Site) (a : Ask) (k : ℕ) (next : Ask → Type 0) → Forest m
    → (b ≡ true → n ≡ after_step m j) → StandsAt m j s a
    → call_named a.name ≡ Some Siot → StretchFits b j m n → ((r : Ask) → StandsAt n j s r → call_named r.name ≡ Some Siot → Moves j s r k last (next r))
    → Moves j s a (counted b k) last (InOrder_by b m j s a n next)
moment_moves false m n last j s a k next forest leads st e fits h = h a (untouched m n j s a st fits) e
moment_moves true m n last j s a k next forest leads st e fits h =
    let p = part_is m j st.job s a fits st.there st.stands in
    let steps = p.steps ∙ ap Some (sym (leads refl)) in
    let byte = byte_of m n j st.job s a (decision m j st.job a) st.there p.part
    ((each_byte m n j forest steps).byte st.job s a st.there p.quiet st.stands e) in
    let rest = rest_of_transfer a in
    one_more j s a k last (ByteOf m j s a n) (next rest) (siot_inputs st.job.core s a st.stands.ask_is e (part_fine m j st.job a p.part))
    byte byte.byte.counted
    (h rest (stands_at n j byte.byte.after s rest byte.byte.there byte.byte.stands) (ap call_named (named_same a _) ∙ e))

own_leads : (d : Deed) (m n : Machine) (j : ℕ) → Leads d m n → is_own j d ≡ true → n ≡ after_step m j
own_leads (Letter i Step) m n j h own = h ∙ ap (after_step m) (eqb-true i j own)
own_leads _ m n j h own = cc

moments_move : (ts : List Moment) (n : Machine) (j : ℕ) (s : Site) (a : Ask) → Linked Leading ts n → StandsAt (machine_at ts n) j s a
    → call_named a.name ≡ Some Siot → Stretch j ts n
    → Moves j s a (parts_in j ts) n (InOrder j s ts n a)
moments_move [] n j s a linked st e fits = record { each = tt; rest = st; pointer = refl; count = omega arith }
moments_move (t ∷ ts) n j s a linked st e fits =
    moment_moves (is_own j t.deed) t.machine (machine_at ts n) n j s a (parts_in j ts) (InOrder j s ts n) linked.0.forest
    (own_leads t.deed t.machine (machine_at ts n) j linked.0.leads) st e fits.0
    (λ r st' e'. moments_move ts n j s r linked.1 st' e' fits.1)

transferred : (ts : List Moment) (n : Machine) (j : ℕ) (s : Site) (a : Ask) → Moves j s a (parts_in j ts) n (InOrder j s ts n a) → Transferred j s a ts n
transferred ts n j s a h = record { each = h.each; rest = h.rest; pointer = h.pointer; count = h.count }

-- each stretch of a run moves its bytes once and in order, whatever the lines are
pub stretches : (es : List Item) (lines : List Line) → Stretches es lines
stretches es lines = record {
  each = λ j x.
      let u = run_of es lines in
      let n = end_of u x.section in
      let ts = x.section.moments in
      let linked = subst (λ (xs : List Moment). Linked Leading xs u.last) x.section.whole
      (run_course each_leads at_start highest es lines forest_starts).linked in
      transferred ts n j x.site x.ask
      (moments_move ts n j x.site x.ask (linked_middle Leading x.section.before ts x.section.after u.last linked)
      (stands_at (begin_of u x.section) j x.job x.site x.ask x.there x.stands) x.siot x.stretch);
}

-- lines that end no stretch: EXAM and STATE look at a job, STOP and CONT change its stopped mark
-- and its pending bits, and INT its pending bits
abbrev pub SparesBy : Option Whole → ℕ → Operated → Type 0
SparesBy o j (Does n out touched b) = Untouched o (n.jobs j)
SparesBy o j _ = Unit {0}

untouched_same : (o : Option Whole) → is_some o ≡ true → Untouched o o
untouched_same (Some q) h = (refl, refl)
untouched_same None h = cc

job_spared : (m : Machine) (s j : ℕ) (q : Whole) (f : Job → Job) → ((k : Job) → (f k).pc ≡ k.pc) → m.jobs s ≡ Some q → is_some (m.jobs j) ≡ true
    → Untouched (m.jobs j) (changed m.jobs s (Some (record q { job = f q.job })) j)
job_spared m s j q f same is there =
    let p : Whole = record q { job = f q.job } in
    let only = changed_only m.jobs s (Some p) in
    elim (cases_eq j s) [
      | inl e ↦ subst (λ (i : ℕ). Untouched (m.jobs i) (changed m.jobs s (Some p) i)) (sym e)
          (subst (λ (o : Option Whole). Untouched o (changed m.jobs s (Some p) s)) (sym is) (subst (Untouched (Some q)) (sym only.here) (refl, same q.job)))
      | inr ne ↦ subst (Untouched (m.jobs j)) (sym (only.others j ne)) (untouched_same (m.jobs j) there)
    ]

registers_spared : (m : Machine) (b : Block) (s j : ℕ) (f : Job → Job) → ((k : Job) → (f k).pc ≡ k.pc) → is_some (m.jobs j) ≡ true
    → SparesBy (m.jobs j) j (disturbs s b (on_registers m s f))
unfolding on_registers
registers_spared m b s j f same there = go (m.jobs s) refl
  where
    go : (o : Option Whole) → m.jobs s ≡ o → SparesBy (m.jobs j) j (disturbs s b (on_job m s (with_registers m s f) o))
    go (Some q) is = job_spared m s j q f same is there
    go None is = tt

exam_spared : (m : Machine) (b : Block) (s j : ℕ) (show : List ℕ → List Line) (r : Result (List ℕ) Reason) → is_some (m.jobs j) ≡ true
    → SparesBy (m.jobs j) j (by_exam m b s show r)
exam_spared m b s j show (Ok ws) there = untouched_same (m.jobs j) there
exam_spared m b s j show (Err r) there = tt

state_spared : (m : Machine) (b : Block) (s j : ℕ) (r : Result JobShow Reason) → is_some (m.jobs j) ≡ true → SparesBy (m.jobs j) j (by_state m b s r)
state_spared m b s j (Ok show) there = untouched_same (m.jobs j) there
state_spared m b s j (Err r) there = tt

abbrev pub EndsNone : Event → Type 0
EndsNone (events.Exam s a n) = Unit {0}
EndsNone (events.List s a n) = Unit {0}
EndsNone (events.State s) = Unit {0}
EndsNone (events.Stop s) = Unit {0}
EndsNone (events.Cont s) = Unit {0}
EndsNone (events.Int s v w) = Unit {0}
EndsNone _ = ⊥

pub line_spared : (m : Machine) (b : Block) (e : Event) (j : ℕ) → EndsNone e → is_some (m.jobs j) ≡ true → SparesBy (m.jobs j) j (operate m b e)
unfolding operate
line_spared m b (events.Exam s a n) j h there = exam_spared m b s j (in_a_line s a) (examined m s a n) there
line_spared m b (events.List s a n) j h there = exam_spared m b s j (listed s a) (examined m s a n) there
line_spared m b (events.State s) j h there = state_spared m b s j (state_shown m s) there
line_spared m b (events.Stop s) j h there = registers_spared m b s j after_stop (λ k. refl) there
line_spared m b (events.Cont s) j h there = registers_spared m b s j after_cont (λ k. refl) there
line_spared m b (events.Int s v w) j h there = registers_spared m b s j (after_int v w) (λ k. refl) there
line_spared m b _ j h there = absurd h
