-- The lines that the monitor writes have at most twelve `.` in a row (docs/STEPS.md, "Lines").
use Rattle.std.specs.Prelude.{◌≡◌, ◌<◌, ◌≤◌, ℕ, zero, suc, ◌+◌, Option, Some, None, List, ◌∷◌, length, unwrap_or, refl}
use Rattle.std.proofs.Common.{sym, ap, subst, arith}
use Rattle.std.proofs.lemmas.List.{drop_at}
use Rattle.std.specs.List.{AllByRecursion}
use Rattle.its_records.specs.Item.{Item, Read}
use Rattle.its_records.specs.declared.calls.Pace.{Pace}
use Rattle.its_records.specs.declared.calls.Pace.TheVariants.{Step, Work, Wait, Off}
use Rattle.its_records.specs.declared.session.Event.{Event}
use Rattle.its_print.specs.Printing.{Line}
use Rattle.its_plain.specs.Transcript.Course.{Course, Letter, Moment, machine_after, paced, past, course}
use Rattle.its_plain.specs.Transcript.Course as courses
use Rattle.its_plain.specs.Promise.FewDots.{most_in_a_row, FewAt, FewDots}
use Rattle.its_plain.specs.Transcript.Licence.{Licensed, Dots, dots_after, dots_after_line}
use Rattle.its_plain.specs.Machine.{Machine, no_machine}
use Rattle.its_plain.specs.Operator.{Block, no_block, Refuses, Does, Ticks, Quits}
use Rattle.its_plain.specs.Operator.Lines.{Lined, Done, Peeks, lined}
use Rattle.its_plain.specs.Transcript.{Walk, at_start, after_letter, next_line}
use Rattle.its_plain.specs.Transcript.Turns.{turn_after, highest, turn_kept, turns_asked, ticks_asked}
use Rattle.its_stepped.specs.Calling.{Decoding}
use Rattle.its_stepped.specs.Forest.{Forest}
use Rattle.its_stepped.specs.Lines.{Told, after_calm, with_raw, lifted_line, paces_of, after_ticks, told_by, turned_by, turned, told, stepped}
use Rattle.its_stepped.specs.State.{State, plain, no_state}
use Rattle.its_stepped.specs.Tick.{tick}
use Rattle.its_stepped.proofs.Ticking.DotsLaws.{bound, OwnDots, bound_few, tick_dots}
use Rattle.its_stepped.proofs.Running.SessionLaws.{HoldsAfter, Upkeep, turn_plain}
use Rattle.its_stepped.proofs.Ticking.SoundLaws.{tick_sound}
use Rattle.its_stepped.proofs.Lining.StartLaws.{no_state_plain}
use Rattle.its_stepped.proofs.Running.UpkeepLaws.{Good, upkeep}
use Rattle.its_stepped.proofs.Running.WrittenLaws.{lasting}

-- the machine after a letter that is licensed
pub letter_leads : (m n : Machine) (i : ℕ) (p : Pace) → Licensed m i p n → machine_after m i p ≡ n
letter_leads m n i Step h = ap (λ o. unwrap_or o m) h
letter_leads m n i Work h = sym h.1
letter_leads m n i Wait h = sym h.2
letter_leads m n i Off h = sym h.1

few_at : (d : Dots) (i : ℕ) (p : Pace) → (p ≡ Work → d i < most_in_a_row) → FewAt d (Letter i p)
few_at d i Step h = tt
few_at d i Work h = h refl
few_at d i Wait h = tt
few_at d i Off h = tt

abbrev Few : List Moment → Type 0
Few ts = AllByRecursion (λ (t : Moment). FewAt t.dots t.deed) ts

-- a walk in the state of the stepped machine, at line k
abbrev pub at : ℕ → State → Dots → Block → Walk
at k w d b = record { machine = plain w; dots = d; block = b; line = k }

-- a `.` leaves a bound that is one more, which is at most twelve
fewer : (p : Pace) (d before after : ℕ) → OwnDots p before after → d ≤ before → after ≤ 12 → p ≡ Work → d < most_in_a_row
fewer p d before after own h few is =
    let one : before + 1 ≤ after = subst (λ (q : Pace). OwnDots q before after) is own in
    omega arith

module _ (decoding : Decoding) where
  abbrev pub Fine : Dots → State → Type 0
  Fine d w = Good Forest d w

  abbrev pub u : Upkeep Fine
  u = upkeep (lasting decoding)

  letter_few : (w : State) (d : Dots) (i : ℕ) → Fine d w → (tick w i).pace ≡ Work → d i < most_in_a_row
  letter_few w d i g is =
      let given = (lasting decoding).duties w i g.sound g.placed in
      let sound = tick_sound w i g.sound given in
      fewer (tick w i).pace (d i) (bound (w.frames i)) (bound ((tick w i).state.frames i)) (tick_dots w i g.sound given).own
      (g.dotted.each i) (bound_few (tick w i).state i sound) is

  ticks_few : (k : ℕ) (w : State) (d : Dots) (b : Block) (i q : ℕ) (next : Walk → Course) → Fine d w
      → ((f : Dots) → Fine f (after_ticks w i q) → Few (next (at k (after_ticks w i q) f b)).moments)
      → Few (paced (at k w d b) i (paces_of w i q) next).moments
  ticks_few k w d b i zero next g h = h d g
  ticks_few k w d b i (suc q) next g h =
      let p = (tick w i).pace in
      let n = plain (tick w i).state in (
        few_at d i p (λ is. letter_few w d i g is),
        subst (λ m. Few (paced (after_letter (at k w d b) i p m) i (paces_of (tick w i).state i q) next).moments)
            (sym (letter_leads (plain w) n i p (u.paced d w i g)))
            (ticks_few k (tick w i).state (dots_after (plain w) d i p) b i q next (u.ticks d w i g) h),
      )

  -- turns, if what follows them goes on
  abbrev Follows : ℕ → Block → (State → ℕ → Told) → (Walk → ℕ → List Line → Course) → Type 0
  Follows k b next more = (w : State) (d : Dots) (l : ℕ) → Fine d w → Few (more (at k w d b) l (next w l).lines).moments

  turn_few : (k n q last : ℕ) (w : State) (d : Dots) (b : Block) (next : State → ℕ → Told) (more : Walk → ℕ → List Line → Course) (o : Option ℕ)
      → Fine d w → Follows k b next more
      → ((w' : State) (f : Dots) (s : ℕ) → Fine f w' → Few (courses.turned n (at k w' f b) s (turned n q w' s next).lines more).moments)
      → let lines = (turned_by o q w (λ v s. turned n q v s next) (next w last)).lines in
      Few (courses.turned_by o (at k w d b) lines (λ x s rest. courses.turned n x s rest more) (more (at k w d b) last lines)).moments
  turn_few k n q last w d b next more None g h go = h w d last g
  turn_few k n q last w d b next more (Some s) g h go = (
    tt,
    ticks_few k w d b s q (λ x. courses.turned n x s (turned n q (after_ticks w s q) s next).lines more) g
        (λ f good. go (after_ticks w s q) f s good),
  )

  turns_few : (k n q last : ℕ) (w : State) (d : Dots) (b : Block) (next : State → ℕ → Told) (more : Walk → ℕ → List Line → Course)
      → Fine d w → Follows k b next more
      → Few (courses.turned n (at k w d b) last (turned n q w last next).lines more).moments
  turns_few k zero q last w d b next more g h = h w d last g
  turns_few k (suc n) q last w d b next more g h =
      let lines = (turned (suc n) q w last next).lines in
      subst (λ o. Few (courses.turned_by o (at k w d b) lines (λ x s rest. courses.turned n x s rest more)
      (more (at k w d b) last lines)).moments) (sym (turn_plain w last))
      (turn_few k n q last w d b next more (turn_after w.raw last) g h (λ w' f s good. turns_few k n q s w' f b next more good h))

  -- a line, if the lines after it go on
  line_few : (k n : ℕ) (w v : State) (d : Dots) (b : Block) (e : Event) (l : Lined) (next : State → Block → Told)
      (more : Walk → List Line → Course) → Fine d w → HoldsAfter Fine d v l
      → ((w' : State) (f : Dots) (c : Block) → Fine f w' → Few (more (at k w' f c) (next w' c).lines).moments)
      → Few (past (at k w d b) e (lifted_line v l) (told_by n w v b l next).lines more).moments
  line_few k n w v d b e (Done (Refuses r)) next more g a h = tt
  line_few k n w v d b e (Done (Does m out touched c)) next more g a h =
      let rest = (next (with_raw v m) c).lines in (
        tt,
        subst (λ ls. Few (more (at k (with_raw v m) (dots_after_line d touched) c) ls).moments) (sym (drop_at out rest (length out) refl))
            (h (with_raw v m) (dots_after_line d touched) c a),
      )
  line_few k n w v d b e (Done (Ticks s q)) next more g a h =
      ticks_few k w d b s q (λ x. more x (next (after_ticks w s q) b).lines) g (λ f good. h (after_ticks w s q) f b good)
  line_few k n w v d b e (Done Quits) next more g a h = tt
  line_few k n w v d b e (Peeks s) next more g a h = h w d b g

  told_few : (k n : ℕ) (w : State) (d : Dots) (b : Block) (last : ℕ) (es : List Item) → Fine d w
      → Few (course (at k w d b) last es (told n w b last es).lines).moments
  told_few k n w d b last (Read e ∷ es) g =
      let more : Walk → List Line → Course = λ x rest. courses.turned (turns_asked e) x (turn_kept last e) rest (λ y i ls. course (next_line y) i es ls) in
      let next : State → Block → Told = λ v c. turned (turns_asked e) (ticks_asked e) v (turn_kept last e) (λ x i. told (n + 1) x c i es) in
      subst (λ o. Few (past (at k w d b) e o (told n w b last (Read e ∷ es)).lines more).moments) (sym (u.line d w b e g))
      (line_few k n w (after_calm w b e) d b e (lined (after_calm w b e).raw b e) next more g (u.after d w b e g)
      (λ w' f c good.
      turns_few k (turns_asked e) (ticks_asked e) (turn_kept last e) w' f c (λ x i. told (n + 1) x c i es) (λ y i ls. course (next_line y) i es ls) good
      (λ x f' i fine. told_few (k + 1) (n + 1) x f' c i es fine)))
  told_few k n w d b last _ g = tt

  -- the lines of `stepped`
  pub few_dots : (es : List Item) → FewDots es (stepped es).lines
  few_dots es = record {
    few = subst (λ m. Few (course (record at_start { machine = m }) highest es (stepped es).lines).moments) (no_state_plain no_machine)
        (told_few 1 1 (no_state no_machine) (λ k. 0) no_block highest es u.starts);
  }
