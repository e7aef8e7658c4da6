-- The lines that the stepped machine writes are a transcript of the plain machine (docs/STEPS.md,
-- "Lines").
use Rattle.std.specs.Prelude.{◌≡◌, ◌<◌, ℕ, zero, suc, ◌+◌, not, Option, Some, None, option_map, List, ◌∷◌, length, refl}
use Rattle.std.proofs.Common.{sym, ap, subst}
use Rattle.its_records.specs.Item.{Item, Read}
use Rattle.its_records.specs.declared.session.Event.{Event}
use Rattle.its_plain.specs.Operator.Lines.{Lined, Done, Peeks, lined}
use Rattle.its_plain.specs.Transcript.Licence.{Licensed, Dots, most_dots, dots_after, dots_after_line}
use Rattle.its_plain.specs.Machine.{Whole, no_machine}
use Rattle.its_plain.specs.Operator.{Block, no_block, Refuses, Does, Ticks, Quits}
use Rattle.its_plain.specs.Transcript.{Fate, Walk, at_start, Transcript}
use Rattle.its_print.specs.Printing.{Line}
use Rattle.its_plain.specs.Transcript.Turns.{is_running, runs, turn_after, highest, turn_kept, turns_asked, ticks_asked}
use Rattle.its_plain.proofs.FairLaws.{turn_same}
use Rattle.its_plain.proofs.RunLaws.{PacedOn, TurnBy, TurnsOn, LinedOn, Run, run_shows}
use Rattle.its_frame.specs.declared.frame.Frame.{Frame}
use Rattle.its_stepped.specs.State.{State, seen, plain, no_state}
use Rattle.its_stepped.specs.Tick.{tick}
use Rattle.its_stepped.specs.Lines.{peeked, after_calm, with_raw, lifted_line, paces_of, after_ticks, told_by, Told, turned_by, turned, told, stepped}
use Rattle.its_stepped.proofs.Frame.FrameLaws.{seen_stopped}
use Rattle.its_stepped.proofs.Lining.StartLaws.{no_state_plain}

-- a predicate of the dots and the state holds after a line
abbrev pub HoldsAfter : (Dots → State → Type 0) → Dots → State → Lined → Type 0
HoldsAfter Good d v (Done (Does m out touched b)) = Good (dots_after_line d touched) (with_raw v m)
HoldsAfter Good d v (Done (Refuses r)) = Unit {0}
HoldsAfter Good d v (Done (Ticks s k)) = Unit {0}
HoldsAfter Good d v (Done Quits) = Unit {0}
HoldsAfter Good d v (Peeks s) = Unit {0}

-- a predicate that holds at the start and that ticks and lines keep; if it holds, the letter of a
-- tick is licensed, and a line is that of the plain machine
pub record Upkeep (Good : Dots → State → Type 0) : Type 0 where
  pub starts : Good (λ _. 0) (no_state no_machine)
  pub paced : (d : Dots) (w : State) (j : ℕ) → Good d w → Licensed (plain w) j (tick w j).pace (plain (tick w j).state)
  pub few : (d : Dots) (w : State) (j : ℕ) → Good d w → d j < most_dots
  pub ticks : (d : Dots) (w : State) (j : ℕ) → Good d w → Good (dots_after (plain w) d j (tick w j).pace) (tick w j).state
  pub line : (d : Dots) (w : State) (b : Block) (e : Event) → Good d w
      → lined (plain w) b e ≡ lifted_line (after_calm w b e) (lined (after_calm w b e).raw b e)
  pub after : (d : Dots) (w : State) (b : Block) (e : Event) → Good d w → HoldsAfter Good d (after_calm w b e) (lined (after_calm w b e).raw b e)

-- a job runs in the raw state exactly if it runs on the plain machine
seen_running : (f : Option Frame) (o : Option Whole) → is_running (option_map (seen f) o) ≡ is_running o
seen_running f (Some q) = ap not (seen_stopped f q)
seen_running f None = refl

pub runs_plain : (w : State) (k : ℕ) → runs (plain w) k ≡ runs w.raw k
unfolding plain
runs_plain w k = seen_running (w.frames k) (w.raw.jobs k)

pub turn_plain : (w : State) (last : ℕ) → turn_after (plain w) last ≡ turn_after w.raw last
turn_plain w last = turn_same (plain w) w.raw last (runs_plain w)

paces_length : (w : State) (i n : ℕ) → length (paces_of w i n) ≡ n
paces_length w i zero = refl
paces_length w i (suc n) = ap suc (paces_length (tick w i).state i n)

-- the walk in the state of the stepped machine
abbrev walk : ℕ → State → Dots → Block → Walk
walk n w d b = record { machine = plain w; dots = d; block = b; line = n }

module _ {Good : Dots → State → Type 0} (u : Upkeep Good) where
  -- whatever goes on after k ticks goes on from here
  ticks_run : (n : ℕ) (w : State) (d : Dots) (b : Block) (i k : ℕ) (next : Walk → Type 0) → Good d w
      → ((f : Dots) → Good f (after_ticks w i k) → next (walk n (after_ticks w i k) f b)) → PacedOn (walk n w d b) i (paces_of w i k) next
  ticks_run n w d b i zero next g h = h d g
  ticks_run n w d b i (suc k) next g h = (
    plain (tick w i).state,
    u.paced d w i g,
    (λ p. u.few d w i g),
    ticks_run n (tick w i).state (dots_after (plain w) d i (tick w i).pace) b i k next (u.ticks d w i g) h,
  )

  -- turns, and what follows them
  abbrev TurnsRun : ℕ → ℕ → ℕ → Block → (State → ℕ → Told) → (Walk → ℕ → List Line → Fate → Type 0) → State → Dots → ℕ → Type 0
  TurnsRun n k q b next S w d last =
      let t = turned k q w last next in TurnsOn k q (walk n w d b) last (λ x l rest. S x l rest t.fate) t.lines

  abbrev Follows : ℕ → Block → (State → ℕ → Told) → (Walk → ℕ → List Line → Fate → Type 0) → Type 0
  Follows n b next S = (w : State) (d : Dots) (l : ℕ) → Good d w → S (walk n w d b) l (next w l).lines (next w l).fate

  turn_runs : (n k q : ℕ) (w : State) (d : Dots) (b : Block) (last : ℕ) (next : State → ℕ → Told) (S : Walk → ℕ → List Line → Fate → Type 0) (o : Option ℕ)
      → Good d w → Follows n b next S
      → ((w' : State) (f : Dots) (s : ℕ) → Good f w' → TurnsRun n k q b next S w' f s)
      → let t = turned_by o q w (λ v s. turned k q v s next) (next w last) in
      TurnBy q (walk n w d b) o (λ x s rest. TurnsOn k q x s (λ y l more. S y l more t.fate) rest) (S (walk n w d b) last t.lines t.fate) t.lines
  turn_runs n k q w d b last next S None g h more = h w d last g
  turn_runs n k q w d b last next S (Some s) g h more = (
    paces_of w s q,
    (turned k q (after_ticks w s q) s next).lines,
    refl,
    paces_length w s q,
    ticks_run n w d b s q _ g (λ f good. more (after_ticks w s q) f s good),
  )

  turns_run : (n k q : ℕ) (w : State) (d : Dots) (b : Block) (last : ℕ) (next : State → ℕ → Told) (S : Walk → ℕ → List Line → Fate → Type 0)
      → Good d w → Follows n b next S → TurnsRun n k q b next S w d last
  turns_run n zero q w d b last next S g h = h w d last g
  turns_run n (suc k) q w d b last next S g h =
      let t = turned (suc k) q w last next in
      subst (λ o. TurnBy q (walk n w d b) o (λ x s rest. TurnsOn k q x s (λ y l more. S y l more t.fate) rest) (S (walk n w d b) last t.lines t.fate) t.lines)
      (sym (turn_plain w last))
      (turn_runs n k q w d b last next S (turn_after w.raw last) g h (λ w' f s good. turns_run n k q w' f b s next S good h))

  -- a line, if the lines after it go on
  line_runs : (n : ℕ) (w v : State) (d : Dots) (b : Block) (l : Lined) (next : State → Block → Told) (S : Walk → List Line → Fate → Type 0)
      → Good d w → HoldsAfter Good d v l
      → ((w' : State) (d' : Dots) (b' : Block) → Good d' w' → S (walk (n + 1) w' d' b') (next w' b').lines (next w' b').fate)
      → let t = told_by n w v b l next in LinedOn (walk n w d b) (lifted_line v l) (λ x rest. S x rest t.fate) t.lines t.fate
  line_runs n w v d b (Done (Refuses r)) next S g a h = (refl, refl)
  line_runs n w v d b (Done (Does m out touched b')) next S g a h = ((next (with_raw v m) b').lines, refl, h (with_raw v m) (dots_after_line d touched) b' a)
  line_runs n w v d b (Done (Ticks s k)) next S g a h =
      (paces_of w s k, (next (after_ticks w s k) b).lines, refl, paces_length w s k, ticks_run n w d b s k _ g (λ f good. h (after_ticks w s k) f b good))
  line_runs n w v d b (Done Quits) next S g a h = (refl, refl)
  line_runs n w v d b (Peeks s) next S g a h = (peeked w s, (next w b).lines, refl, h w d b g)

  pub told_runs : (n : ℕ) (w : State) (d : Dots) (b : Block) (last : ℕ) (es : List Item) → Good d w
      → Run (walk n w d b) last es (told n w b last es).lines (told n w b last es).fate
  told_runs n w d b last (Read e ∷ es) g =
      let t = told n w b last (Read e ∷ es) in
      let kept = turn_kept last e in
      let S : Walk → List Line → Fate → Type 0 = λ x rest fate. TurnsOn (turns_asked e) (ticks_asked e) x kept (λ y i more. Run y i es more fate) rest in
      subst (λ o. LinedOn (walk n w d b) o (λ x rest. S x rest t.fate) t.lines t.fate) (sym (u.line d w b e g))
      (line_runs n w (after_calm w b e) d b (lined (after_calm w b e).raw b e)
      (λ v b'. turned (turns_asked e) (ticks_asked e) v kept (λ x i. told (n + 1) x b' i es)) S g
      (u.after d w b e g)
      (λ w' d' b' good.
      turns_run (n + 1) (turns_asked e) (ticks_asked e) w' d' b' kept (λ x i. told (n + 1) x b' i es) (λ y i more fate. Run y i es more fate) good
      (λ x f i fine. told_runs (n + 1) x f b' i es fine)))
  told_runs n w d b last _ g = (refl, refl)

  -- the lines of `stepped` are a transcript
  pub stepped_transcript : (es : List Item) → Transcript es (stepped es).lines (stepped es).fate
  stepped_transcript es =
      run_shows at_start highest es (stepped es).lines (stepped es).fate
      (subst (λ m. Run (record at_start { machine = m }) highest es (stepped es).lines (stepped es).fate) (no_state_plain no_machine)
      (told_runs 1 (no_state no_machine) (λ _. 0) no_block highest es u.starts))
