-- The state that a session leaves is the one at the end of its run, and so is the slot of its last
-- turn.
use Rattle.std.specs.Prelude.{◌≡◌, ℕ, zero, suc, ◌+◌, Option, Some, None, List, ◌∷◌, length, refl}
use Rattle.std.proofs.Common.{sym, subst}
use Rattle.std.proofs.lemmas.List.{drop_at}
use Rattle.its_records.specs.Item.{Item, Read}
use Rattle.its_records.specs.declared.session.Event.{Event}
use Rattle.its_print.specs.Printing.{Line}
use Rattle.its_plain.specs.Operator.{Block, no_block, Refuses, Does, Ticks, Quits}
use Rattle.its_plain.specs.Operator.Lines.{Lined, Done, Peeks, lined}
use Rattle.its_plain.specs.Machine.{Machine, no_machine}
use Rattle.its_plain.specs.Transcript.{Walk, at_start, after_letter, next_line}
use Rattle.its_plain.specs.Transcript.Licence.{Dots, dots_after, dots_after_line}
use Rattle.its_plain.specs.Transcript.Course.{Course, paced, past, course, run_of, turn_past, last_turn}
use Rattle.its_plain.specs.Transcript.Course as courses
use Rattle.its_plain.specs.Transcript.Turns.{turn_after, highest, turn_kept, turns_asked, ticks_asked}
use Rattle.its_plain.proofs.RunLaws.{ticks_keep_turn, peek_keeps_turn}
use Rattle.its_stepped.specs.Calling.{Decoding}
use Rattle.its_stepped.specs.State.{State, plain, no_state}
use Rattle.its_stepped.specs.Tick.{tick}
use Rattle.its_stepped.specs.Lines.{after_calm, with_raw, lifted_line, paces_of, after_ticks, told_by, Told, turned_by, turned, told, stepped}
use Rattle.its_stepped.proofs.Running.SessionLaws.{HoldsAfter, turn_plain}
use Rattle.its_stepped.proofs.Lining.StartLaws.{no_state_plain}
use Rattle.its_top.specs.Leaving.{Left, left_at, left_by, turn_left, turns_left, left}
use Rattle.its_top.proofs.FewDotsLaws as dots
use Rattle.its_top.proofs.FewDotsLaws.{at, letter_leads}

-- a run ends with the machine that is left, and with the last turn if slot i had the turn before it
abbrev Ends : Course → ℕ → Left → Type 0
Ends u i l = (u.last ≡ plain l.state) × (turn_past i u.moments ≡ l.turn)

-- TICK and PEEK keep the last turn
abbrev KeepsTurn : ℕ → Event → Lined → Type 0
KeepsTurn last e (Done (Ticks s q)) = turn_kept last e ≡ last
KeepsTurn last e (Peeks s) = turn_kept last e ≡ last
KeepsTurn last e (Done (Refuses r)) = Unit {0}
KeepsTurn last e (Done (Does m out touched c)) = Unit {0}
KeepsTurn last e (Done Quits) = Unit {0}

keeps_turn : (m : Machine) (b : Block) (e : Event) (last : ℕ) (l : Lined) → lined m b e ≡ l → KeepsTurn last e l
keeps_turn m b e last (Done (Ticks s q)) is = ticks_keep_turn m b e s q last is
keeps_turn m b e last (Peeks s) is = peek_keeps_turn m b e s last is
keeps_turn m b e last (Done (Refuses r)) is = tt
keeps_turn m b e last (Done (Does n out touched c)) is = tt
keeps_turn m b e last (Done Quits) is = tt

module _ (decoding : Decoding) where
  abbrev Fine : Dots → State → Type 0
  Fine d w = dots.Fine decoding d w

  ticks_end : (k : ℕ) (w : State) (d : Dots) (b : Block) (s q i : ℕ) (next : Walk → Course) (l : Left) → Fine d w
      → ((f : Dots) → Fine f (after_ticks w s q) → Ends (next (at k (after_ticks w s q) f b)) i l)
      → Ends (paced (at k w d b) s (paces_of w s q) next) i l
  ticks_end k w d b s zero i next l g h = h d g
  ticks_end k w d b s (suc q) i next l g h =
      let p = (tick w s).pace in
      let n = plain (tick w s).state in
      subst (λ m. Ends (paced (after_letter (at k w d b) s p m) s (paces_of (tick w s).state s q) next) i l)
      (sym (letter_leads (plain w) n s p ((dots.u decoding).paced d w s g)))
      (ticks_end k (tick w s).state (dots_after (plain w) d s p) b s q i next l ((dots.u decoding).ticks d w s g) h)

  -- turns, if what follows them ends so
  abbrev Follows : ℕ → Block → (State → ℕ → Told) → (Walk → ℕ → List Line → Course) → (State → ℕ → Left) → Type 0
  Follows k b next more rest = (w : State) (d : Dots) (l : ℕ) → Fine d w → Ends (more (at k w d b) l (next w l).lines) l (rest w l)

  turn_ends : (k n q last : ℕ) (w : State) (d : Dots) (b : Block) (next : State → ℕ → Told) (more : Walk → ℕ → List Line → Course)
      (rest : State → ℕ → Left) (o : Option ℕ) → Fine d w → Follows k b next more rest
      → ((w' : State) (f : Dots) (s : ℕ) → Fine f w'
      → Ends (courses.turned n (at k w' f b) s (turned n q w' s next).lines more) s (turns_left n q w' s rest))
      → let lines = (turned_by o q w (λ v s. turned n q v s next) (next w last)).lines in
      Ends (courses.turned_by o (at k w d b) lines (λ x s ls. courses.turned n x s ls more) (more (at k w d b) last lines)) last
      (turn_left o q w (λ v s. turns_left n q v s rest) (rest w last))
  turn_ends k n q last w d b next more rest None g h go = h w d last g
  turn_ends k n q last w d b next more rest (Some s) g h go =
      ticks_end k w d b s q s (λ x. courses.turned n x s (turned n q (after_ticks w s q) s next).lines more) (turns_left n q (after_ticks w s q) s rest) g
      (λ f good. go (after_ticks w s q) f s good)

  turns_end : (k n q last : ℕ) (w : State) (d : Dots) (b : Block) (next : State → ℕ → Told) (more : Walk → ℕ → List Line → Course)
      (rest : State → ℕ → Left) → Fine d w → Follows k b next more rest
      → Ends (courses.turned n (at k w d b) last (turned n q w last next).lines more) last (turns_left n q w last rest)
  turns_end k zero q last w d b next more rest g h = h w d last g
  turns_end k (suc n) q last w d b next more rest g h =
      let lines = (turned (suc n) q w last next).lines in
      subst (λ o. Ends (courses.turned_by o (at k w d b) lines (λ x s ls. courses.turned n x s ls more) (more (at k w d b) last lines)) last
      (turns_left (suc n) q w last rest)) (sym (turn_plain w last))
      (turn_ends k n q last w d b next more rest (turn_after w.raw last) g h (λ w' f s good. turns_end k n q s w' f b next more rest good h))

  -- a line, if the lines after it end so
  line_ends : (k n : ℕ) (w v : State) (d : Dots) (b : Block) (last : ℕ) (e : Event) (l : Lined) (next : State → Block → Told)
      (more : Walk → List Line → Course) (rest : State → Block → Left) → Fine d w → HoldsAfter Fine d v l → KeepsTurn last e l
      → ((w' : State) (f : Dots) (c : Block) → Fine f w' → Ends (more (at k w' f c) (next w' c).lines) (turn_kept last e) (rest w' c))
      → Ends (past (at k w d b) e (lifted_line v l) (told_by n w v b l next).lines more) last (left_by w v b (left_at w last) l rest)
  line_ends k n w v d b last e (Done (Refuses r)) next more rest g a keeps h = (refl, refl)
  line_ends k n w v d b last e (Done (Does m out touched c)) next more rest g a keeps h =
      let ls = (next (with_raw v m) c).lines in
      subst (λ x. Ends (more (at k (with_raw v m) (dots_after_line d touched) c) x) (turn_kept last e) (rest (with_raw v m) c))
      (sym (drop_at out ls (length out) refl)) (h (with_raw v m) (dots_after_line d touched) c a)
  line_ends k n w v d b last e (Done (Ticks s q)) next more rest g a keeps h =
      let x = after_ticks w s q in
      ticks_end k w d b s q last (λ y. more y (next x b).lines) (rest x b) g
      (λ f good. subst (λ i. Ends (more (at k x f b) (next x b).lines) i (rest x b)) keeps (h x f b good))
  line_ends k n w v d b last e (Done Quits) next more rest g a keeps h = (refl, refl)
  line_ends k n w v d b last e (Peeks s) next more rest g a keeps h =
      subst (λ i. Ends (more (at k w d b) (next w b).lines) i (rest w b)) keeps (h w d b g)

  told_ends : (k n : ℕ) (w : State) (d : Dots) (b : Block) (last : ℕ) (es : List Item) → Fine d w
      → Ends (course (at k w d b) last es (told n w b last es).lines) last (left w b last es)
  told_ends k n w d b last (Read e ∷ es) g =
      let kept = turn_kept last e in
      let more : Walk → List Line → Course = λ x ls. courses.turned (turns_asked e) x kept ls (λ y i zs. course (next_line y) i es zs) in
      let next : State → Block → Told = λ v c. turned (turns_asked e) (ticks_asked e) v kept (λ x i. told (n + 1) x c i es) in
      let rest : State → Block → Left = λ v c. turns_left (turns_asked e) (ticks_asked e) v kept (λ x i. left x c i es) in
      let calm = after_calm w b e in
      subst (λ o. Ends (past (at k w d b) e o (told n w b last (Read e ∷ es)).lines more) last (left w b last (Read e ∷ es)))
      (sym ((dots.u decoding).line d w b e g))
      (line_ends k n w calm d b last e (lined calm.raw b e) next more rest g ((dots.u decoding).after d w b e g)
      (keeps_turn calm.raw b e last (lined calm.raw b e) refl)
      (λ w' f c good.
      turns_end k (turns_asked e) (ticks_asked e) kept w' f c (λ x i. told (n + 1) x c i es) (λ y i zs. course (next_line y) i es zs)
      (λ x i. left x c i es) good
      (λ x f' i fine. told_ends (k + 1) (n + 1) x f' c i es fine)))
  told_ends k n w d b last _ g = (refl, refl)

  -- the run of a session, whose lines are those that the monitor writes
  run_ends : (es : List Item) → Ends (run_of es (stepped es).lines) highest (left (no_state no_machine) no_block highest es)
  run_ends es =
      subst (λ m. Ends (course (record at_start { machine = m }) highest es (stepped es).lines) highest (left (no_state no_machine) no_block highest es))
      (no_state_plain no_machine)
      (told_ends 1 1 (no_state no_machine) (λ k. 0) no_block highest es (dots.u decoding).starts)

  pub run_machine : (es : List Item) → (run_of es (stepped es).lines).last ≡ plain (left (no_state no_machine) no_block highest es).state
  run_machine es = (run_ends es).0

  pub run_turn : (es : List Item) → last_turn (run_of es (stepped es).lines) ≡ (left (no_state no_machine) no_block highest es).turn
  unfolding last_turn
  run_turn es = (run_ends es).1
