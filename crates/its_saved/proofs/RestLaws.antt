-- What is shown of lines that follow a session is shown from the state that the session has led to.
use Rattle.std.specs.Prelude.{◌≡◌, ℕ, zero, suc, true, false, Option, Some, None, Result, Ok, Err, List, [], ◌∷◌, ◌++◌, length, drop, unwrap_or, refl}
use Rattle.std.proofs.Common.{sym, ◌∙◌, ap, subst, append_assoc}
use Rattle.its_records.specs.Item.{Item, Read, Unread, Beyond}
use Rattle.its_records.specs.declared.calls.Pace.{Pace}
use Rattle.its_records.specs.declared.calls.Pace.TheVariants.{Step, Work, Wait, Off}
use Rattle.its_records.specs.declared.session.Event.{Event}
use Rattle.its_records.specs.declared.session.Event.TheVariants as events
use Rattle.its_records.specs.declared.session.Reason.{Reason}
use Rattle.its_records.specs.declared.state_line.StateLine.{StateLine}
use Rattle.its_records.specs.declared.state_line.StateLine.TheVariants as states
use Rattle.its_records.specs.declared.show.JobShow.{JobShow}
use Rattle.its_print.specs.Printing.{Line}
use Rattle.its_print.specs.Printing as printed
use Rattle.its_session.specs.Events.{before_end}
use Rattle.its_plain.specs.Machine.{Whole, Machine}
use Rattle.its_plain.specs.Machine.Own.{names_of}
use Rattle.its_plain.specs.Operator.{Block, Refuses, Does, Ticks, Quits, quietly, disturbs}
use Rattle.its_plain.specs.Operator.Clock.{after_clock}
use Rattle.its_plain.specs.Operator.Files.{with_file_made, with_words_added, file_shown}
use Rattle.its_plain.specs.Operator.Jobs.{after_load, with_words_loaded, with_page_protected, after_go, after_int, after_stop, after_cont, on_registers, examined, state_shown, after_deposit}
use Rattle.its_plain.specs.Operator.Lines.{Lined, Done, Peeks, lined, operate, in_a_line, by_load, by_exam, by_state, shows, by_clock, peeked_at}
use Rattle.its_plain.specs.Operator.State.{with_job_made, after_registers, with_alarm_set, with_superior_set, with_tty, with_disk, with_draft, with_words_written, with_usr, with_link, with_words_sent, with_end_shut, with_bytes_waiting, with_holder_set, restored}
use Rattle.its_plain.specs.Operator.Symbols.{with_symbol_kept}
use Rattle.its_plain.specs.Transcript.{Fate, Ended, Open, Refused, TooLong, Walk, after_letter, walk_after, next_line, Shows}
use Rattle.its_plain.specs.Transcript.Course.{Course, machine_after, letters, paced, turned_by, turned, past, course, turn_past}
use Rattle.its_plain.specs.Transcript.Licence.{Licensed}
use Rattle.its_plain.specs.Transcript.Turns.{turn_after, turn_kept, turns_asked, ticks_asked}
use Rattle.its_plain.proofs.RunLaws.{PacedOn, TurnBy, TurnsOn, LinedOn, Run, ticks_keep_turn, peek_keeps_turn, shows_run, run_shows}

-- a session that ends at END or at the end of its lines
abbrev pub IsOver : Fate → Type 0
IsOver Ended = Unit {0}
IsOver Open = Unit {0}
IsOver Refused = ⊥
IsOver TooLong = ⊥

-- END alone ends a session
abbrev Goes : Lined → Type 0
Goes (Done Quits) = ⊥
Goes _ = Unit {0}

quietly_goes : (b : Block) (r : Result Machine Reason) → Goes (Done (quietly b r))
quietly_goes b (Ok n) = tt
quietly_goes b (Err r) = tt

disturbs_goes : (s : ℕ) (b : Block) (r : Result Machine Reason) → Goes (Done (disturbs s b r))
disturbs_goes s b (Ok n) = tt
disturbs_goes s b (Err r) = tt

load_goes : (b : Block) (r : Result (Machine × ℕ) Reason) → Goes (Done (by_load b r))
load_goes b (Ok (n, s)) = tt
load_goes b (Err r) = tt

exam_goes : (m : Machine) (b : Block) (s : ℕ) (show : List ℕ → List Line) (r : Result (List ℕ) Reason) → Goes (Done (by_exam m b s show r))
exam_goes m b s show (Ok ws) = tt
exam_goes m b s show (Err r) = tt

state_goes : (m : Machine) (b : Block) (s : ℕ) (r : Result JobShow Reason) → Goes (Done (by_state m b s r))
state_goes m b s (Ok x) = tt
state_goes m b s (Err r) = tt

shows_goes : (m : Machine) (b : Block) (r : Result (List Line) Reason) → Goes (Done (shows m b r))
shows_goes m b (Ok out) = tt
shows_goes m b (Err r) = tt

clock_goes : (m : Machine) (b : Block) (n : ℕ) (r : Result Machine Reason) → Goes (Done (by_clock m b n r))
clock_goes m b n (Ok k) = tt
clock_goes m b n (Err r) = tt

peek_goes : (s : ℕ) (o : Option Whole) → Goes (peeked_at s o)
peek_goes s (Some q) = tt
peek_goes s None = tt

restored_goes : (m : Machine) (b : Block) (l : StateLine) → Goes (Done (restored m b l))
unfolding restored
restored_goes m b (states.System v) = tt
restored_goes m b (states.Clock n) = clock_goes m b n (after_clock m n)
restored_goes m b (states.File d x y) = quietly_goes (record b { file = names_of d x y }) (with_file_made m (names_of d x y))
restored_goes m b (states.FileWords ws) = quietly_goes b (with_words_added m b.file ws.items)
restored_goes m b (states.Job s u j c) = disturbs_goes s (record b { slot = s }) (with_job_made m s u j c)
restored_goes m b (states.CoreWords a ws) = disturbs_goes b.slot b (with_words_loaded m b.slot a ws.items)
restored_goes m b (states.ReadOnly p) = disturbs_goes b.slot b (with_page_protected m b.slot p)
restored_goes m b (states.Symbol x a) = quietly_goes b (with_symbol_kept m b.slot x a)
restored_goes m b (states.Regs r) = disturbs_goes b.slot b (on_registers m b.slot (after_registers r))
restored_goes m b (states.Alarm s p n) = disturbs_goes s b (with_alarm_set m s p n)
restored_goes m b (states.Under s t) = disturbs_goes s b (with_superior_set m s t)
restored_goes m b (states.Tty s n w) = disturbs_goes s b (with_tty m s n w)
restored_goes m b (states.Disk s n d x y at) = disturbs_goes s b (with_disk m s n (names_of d x y) at)
restored_goes m b (states.Draft s n d x y) = disturbs_goes s b (with_draft m s n (names_of d x y))
restored_goes m b (states.Wrote s n ws) = disturbs_goes s b (with_words_written m s n ws.items)
restored_goes m b (states.Usr s n t w at) = disturbs_goes s b (with_usr m s n t w at)
restored_goes m b (states.Join s n l w x y) = disturbs_goes s b (with_link m s n l w x y)
restored_goes m b (states.Sent l ws) = quietly_goes b (with_words_sent m l ws.items)
restored_goes m b (states.EndShut l w) = quietly_goes b (with_end_shut m l w)
restored_goes m b (states.Input c bs) = quietly_goes b (with_bytes_waiting m c false bs.items)
restored_goes m b (states.Output c bs) = quietly_goes b (with_bytes_waiting m c true bs.items)
restored_goes m b (states.Hold c s) = quietly_goes b (with_holder_set m c s)
restored_goes m b (states.Turn s) = tt
restored_goes m b states.Ready = tt

-- an event is END, or its line does not end the session
pub data IsEnd (m : Machine) (b : Block) (e : Event) : Type 0 where
  it_is : e ≡ events.End → IsEnd m b e
  it_goes : Goes (lined m b e) → before_end (Read e ∷ []) ≡ Read e ∷ [] → IsEnd m b e

is_end : (m : Machine) (b : Block) (e : Event) → IsEnd m b e
unfolding lined operate
is_end m b events.End = it_is refl
is_end m b (events.Load u j console) = it_goes (load_goes b (after_load m u j console)) refl
is_end m b (events.Words a words) = it_goes (disturbs_goes b.slot b (with_words_loaded m b.slot a words.items)) refl
is_end m b (events.ReadOnly page) = it_goes (disturbs_goes b.slot b (with_page_protected m b.slot page)) refl
is_end m b (events.Symbol name a) = it_goes (quietly_goes b (with_symbol_kept m b.slot name a)) refl
is_end m b (events.Go a) = it_goes (disturbs_goes b.slot b (on_registers m b.slot (after_go a))) refl
is_end m b (events.File d x y) = it_goes (quietly_goes (record b { file = names_of d x y }) (with_file_made m (names_of d x y))) refl
is_end m b (events.Append words) = it_goes (quietly_goes b (with_words_added m b.file words.items)) refl
is_end m b (events.Clock n) = it_goes (clock_goes m b n (after_clock m n)) refl
is_end m b (events.Int s v w) = it_goes (disturbs_goes s b (on_registers m s (after_int v w))) refl
is_end m b (events.Exam s a n) = it_goes (exam_goes m b s (in_a_line s a) (examined m s a n)) refl
is_end m b (events.List s a n) = it_goes (exam_goes m b s (printed.listed s a) (examined m s a n)) refl
is_end m b (events.State s) = it_goes (state_goes m b s (state_shown m s)) refl
is_end m b (events.Deposit s a w) = it_goes (disturbs_goes s b (after_deposit m s a w)) refl
is_end m b (events.Stop s) = it_goes (disturbs_goes s b (on_registers m s after_stop)) refl
is_end m b (events.Cont s) = it_goes (disturbs_goes s b (on_registers m s after_cont)) refl
is_end m b (events.Peek s) = it_goes (peek_goes s (m.jobs s)) refl
is_end m b (events.Show d x y) = it_goes (shows_goes m b (file_shown m d x y)) refl
is_end m b (events.Restore line) = it_goes (restored_goes m b line) refl
is_end m b _ = it_goes tt refl

-- an event that stays is before END
stays : (e : Event) (es : List Item) → before_end (Read e ∷ []) ≡ Read e ∷ [] → before_end (Read e ∷ es) ≡ Read e ∷ before_end es
stays events.End es h = cc
stays _ es h = refl

end_lined : (m : Machine) (b : Block) → lined m b events.End ≡ Done Quits
unfolding lined operate
end_lined m b = refl

-- the walk after some letters
abbrev paced_end : Walk → ℕ → List Pace → Walk
paced_end v i [] = v
paced_end v i (p ∷ ps) = paced_end (after_letter v i p (machine_after v.machine i p)) i ps

licensed_after : (m n : Machine) (i : ℕ) (p : Pace) → Licensed m i p n → machine_after m i p ≡ n
licensed_after m n i Step h = ap (λ o. unwrap_or o m) h
licensed_after m n i Work h = sym h.1
licensed_after m n i Wait h = sym h.2
licensed_after m n i Off h = sym h.1

paced_to : (ps : List Pace) (v : Walk) (i : ℕ) (next : Walk → Type 0) → PacedOn v i ps next → next (paced_end v i ps)
paced_to [] v i next h = h
paced_to (p ∷ ps) v i next h =
    paced_to ps (after_letter v i p (machine_after v.machine i p)) i next
    (subst (λ n. PacedOn (after_letter v i p n) i ps next) (sym (licensed_after v.machine h.0 i p h.1)) h.3)

paced_next : (ps : List Pace) (v : Walk) (i : ℕ) → paced_end (next_line v) i ps ≡ next_line (paced_end v i ps)
paced_next [] v i = refl
paced_next (p ∷ ps) v i = paced_next ps (after_letter v i p (machine_after v.machine i p)) i

-- the rest is shown from a state with this machine, after a turn of this slot
record From (rest : List Item) (more : List Line) (end : Fate) (turn : ℕ) (m : Machine) : Type 0 where
  walk : Walk
  machine : walk.machine ≡ m
  run : Run walk turn rest more end

module _ (rest : List Item) (more : List Line) (end : Fate) where
  abbrev FromEnd : ℕ → Course → Type 0
  FromEnd last u = From rest more end (turn_past last u.moments) u.last

  paced_from : (ps : List Pace) (v : Walk) (i last : ℕ) (k : Walk → Course) → FromEnd last (k (paced_end v i ps)) → FromEnd last (paced v i ps k)
  paced_from [] v i last k h = h
  paced_from (p ∷ ps) v i last k h = paced_from ps (after_letter v i p (machine_after v.machine i p)) i last k h

  -- turns
  turns_from : (n q last : ℕ) (v : Walk) (lines : List Line) (one two : Walk → ℕ → List Line → Type 0) (k : Walk → ℕ → List Line → Course)
      → ((x : Walk) (l : ℕ) (ls : List Line) → one (next_line x) l ls → two (next_line x) l (ls ++ more) → FromEnd l (k x l ls))
      → TurnsOn n q (next_line v) last one lines → TurnsOn n q (next_line v) last two (lines ++ more) → FromEnd last (turned n v last lines k)
  turns_from zero q last v lines one two k each a b = each v last lines a b
  turns_from (suc n) q last v lines one two k each a b = by (turn_after v.machine last) a b (λ w s ls c d. turns_from n q s w ls one two k each c d)
    where
      by : (o : Option ℕ) → TurnBy q (next_line v) o (λ w s ls. TurnsOn n q w s one ls) (one (next_line v) last lines) lines
          → TurnBy q (next_line v) o (λ w s ls. TurnsOn n q w s two ls) (two (next_line v) last (lines ++ more)) (lines ++ more)
          → ((w : Walk) (s : ℕ) (ls : List Line) → TurnsOn n q (next_line w) s one ls → TurnsOn n q (next_line w) s two (ls ++ more)
          → FromEnd s (turned n w s ls k))
          → FromEnd last (turned_by o v lines (λ w s ls. turned n w s ls k) (k v last lines))
      by None a b go = each v last lines a b
      by (Some s) a b go =
          let ps = a.0 in
          let ls = a.1 in
          let both : printed.Ticks s ps ∷ (ls ++ more) ≡ printed.Ticks s b.0 ∷ b.1 = ap (λ xs. xs ++ more) (sym a.2) ∙ b.2 in
          let same : ps ≡ b.0 = ap letters both in
          let tail : ls ++ more ≡ b.1 = ap (drop 1) both in
          let w = paced_end v s ps in
          let c : TurnsOn n q (next_line w) s one ls =
          subst (λ x. TurnsOn n q x s one ls) (paced_next ps v s) (paced_to ps (next_line v) s (λ x. TurnsOn n q x s one ls) a.4) in
          let d0 : TurnsOn n q (paced_end (next_line v) s b.0) s two b.1 = paced_to b.0 (next_line v) s (λ x. TurnsOn n q x s two b.1) b.4 in
          let d1 : TurnsOn n q (paced_end (next_line v) s ps) s two b.1 = subst (λ xs. TurnsOn n q (paced_end (next_line v) s xs) s two b.1) (sym same) d0 in
          let d : TurnsOn n q (next_line w) s two (ls ++ more) =
          subst (λ xs. TurnsOn n q (next_line w) s two xs) (sym tail) (subst (λ x. TurnsOn n q x s two b.1) (paced_next ps v s) d1) in
          subst (λ xs. FromEnd s (paced v s (letters xs) (λ x. turned n x s (drop 1 xs) k))) (sym a.2)
          (paced_from ps v s s (λ x. turned n x s ls k) (go w s ls c d))

  -- a line that does not end the session
  drop_shown : (out ls : List Line) → drop (length out) (out ++ ls) ≡ ls
  drop_shown [] ls = refl
  drop_shown (x ∷ out) ls = drop_shown out ls

  line_from : (v : Walk) (last : ℕ) (e : Event) (lines : List Line) (fate : Fate) (one two : Walk → ℕ → List Line → Type 0) (k : Walk → ℕ → List Line → Course)
      (o : Lined) → lined v.machine v.block e ≡ o → Goes o → IsOver fate
      → ((x : Walk) (l : ℕ) (ls : List Line) → one (next_line x) l ls → two (next_line x) l (ls ++ more) → FromEnd l (k x l ls))
      → LinedOn v o (λ w ls. TurnsOn (turns_asked e) (ticks_asked e) w (turn_kept last e) one ls) lines fate
      → LinedOn v o (λ w ls. TurnsOn (turns_asked e) (ticks_asked e) w (turn_kept last e) two ls) (lines ++ more) end
      → FromEnd last (past v e o lines (λ w ls. turned (turns_asked e) w (turn_kept last e) ls k))
  line_from v last e lines fate one two k (Done (Refuses r)) is goes over each a b = absurd (subst IsOver a.1 over)
  line_from v last e lines fate one two k (Done (Does n out touched c)) is goes over each a b =
      let w = walk_after v n touched c in
      let ls = a.0 in
      let here : drop (length out) lines ≡ ls = ap (drop (length out)) a.1 ∙ drop_shown out ls in
      let there : b.0 ≡ ls ++ more =
      sym (drop_shown out b.0) ∙ ap (drop (length out)) (sym b.1 ∙ ap (λ xs. xs ++ more) a.1 ∙ append_assoc out ls more) ∙ drop_shown out (ls ++ more) in
      let t = turn_kept last e in
      subst (λ xs. FromEnd t (turned (turns_asked e) w t xs k)) (sym here)
      (turns_from (turns_asked e) (ticks_asked e) t w ls one two k each a.2
      (subst (λ xs. TurnsOn (turns_asked e) (ticks_asked e) (next_line w) t two xs) there b.2))
  line_from v last e lines fate one two k (Done (Ticks i q)) is goes over each a b =
      let ps = a.0 in
      let ls = a.1 in
      let both : printed.Ticks i ps ∷ (ls ++ more) ≡ printed.Ticks i b.0 ∷ b.1 = ap (λ xs. xs ++ more) (sym a.2) ∙ b.2 in
      let same : ps ≡ b.0 = ap letters both in
      let tail : ls ++ more ≡ b.1 = ap (drop 1) both in
      let n = turns_asked e in
      let t = ticks_asked e in
      let l = turn_kept last e in
      let kept : l ≡ last = ticks_keep_turn v.machine v.block e i q last is in
      let w = paced_end v i ps in
      let c : TurnsOn n t (next_line w) l one ls = paced_to ps v i (λ x. TurnsOn n t (next_line x) l one ls) a.4 in
      let d0 : TurnsOn n t (next_line (paced_end v i b.0)) l two b.1 = paced_to b.0 v i (λ x. TurnsOn n t (next_line x) l two b.1) b.4 in
      let d : TurnsOn n t (next_line w) l two (ls ++ more) =
      subst (λ xs. TurnsOn n t (next_line w) l two xs) (sym tail)
      (subst (λ xs. TurnsOn n t (next_line (paced_end v i xs)) l two b.1) (sym same) d0) in
      subst (λ xs. FromEnd last (paced v i (letters xs) (λ x. turned n x l (drop 1 xs) k))) (sym a.2)
      (paced_from ps v i last (λ x. turned n x l ls k)
      (subst (λ y. FromEnd y (turned n w l ls k)) kept (turns_from n t l w ls one two k each c d)))
  line_from v last e lines fate one two k (Done Quits) is goes over each a b = absurd goes
  line_from v last e lines fate one two k (Peeks i) is goes over each a b =
      let ls = a.1 in
      let tail : ls ++ more ≡ b.1 = ap (drop 1) (ap (λ xs. xs ++ more) (sym a.2) ∙ b.2) in
      let l = turn_kept last e in
      let kept : l ≡ last = peek_keeps_turn v.machine v.block e i last is in
      subst (λ xs. FromEnd last (turned (turns_asked e) v l (drop 1 xs) k)) (sym a.2)
      (subst (λ y. FromEnd y (turned (turns_asked e) v l ls k)) kept
      (turns_from (turns_asked e) (ticks_asked e) l v ls one two k each a.3
      (subst (λ xs. TurnsOn (turns_asked e) (ticks_asked e) (next_line v) l two xs) (sym tail) b.3)))

  run_from : (es : List Item) (v : Walk) (last : ℕ) (lines : List Line) (fate : Fate) → IsOver fate → Run v last es lines fate
      → Run v last (before_end es ++ rest) (lines ++ more) end → FromEnd last (course v last es lines)
  run_from [] v last lines fate over a b =
      record { walk = v; machine = refl; run = subst (λ xs. Run v last rest (xs ++ more) end) a.0 b }
  run_from (Read e ∷ es) v last lines fate over a b = by (is_end v.machine v.block e) (λ x l ls c d. run_from es x l ls fate over c d)
    where
      by : IsEnd v.machine v.block e
          → ((x : Walk) (l : ℕ) (ls : List Line) → Run x l es ls fate → Run x l (before_end es ++ rest) (ls ++ more) end → FromEnd l (course x l es ls))
          → FromEnd last (course v last (Read e ∷ es) lines)
      by (it_is is) go = ended e is a b
        where
          at_end : (o : Lined) → o ≡ Done Quits
              → LinedOn v o (λ w ls. TurnsOn (turns_asked events.End) (ticks_asked events.End) w (turn_kept last events.End) (λ x l m. Run x l es m fate) ls) lines fate
              → Run v last rest (lines ++ more) end
              → FromEnd last (past v events.End o lines (λ w ls. turned (turns_asked events.End) w (turn_kept last events.End) ls (λ x l m. course (next_line x) l es m)))
          at_end (Done Quits) q a b = record { walk = v; machine = refl; run = subst (λ xs. Run v last rest (xs ++ more) end) a.0 b }
          at_end (Done (Refuses r)) q a b = cc
          at_end (Done (Does n out touched c)) q a b = cc
          at_end (Done (Ticks i k)) q a b = cc
          at_end (Peeks i) q a b = cc

          ended : (x : Event) → x ≡ events.End → Run v last (Read x ∷ es) lines fate
              → Run v last (before_end (Read x ∷ es) ++ rest) (lines ++ more) end → FromEnd last (course v last (Read x ∷ es) lines)
          ended events.End q a b = at_end (lined v.machine v.block events.End) (end_lined v.machine v.block) a b
          ended _ q a b = cc
      by (it_goes goes kept) go =
          line_from v last e lines fate (λ x l m. Run x l es m fate) (λ x l m. Run x l (before_end es ++ rest) m end)
          (λ x l m. course (next_line x) l es m) (lined v.machine v.block e) refl goes over (λ x l ls c d. go (next_line x) l ls c d) a
          (subst (λ xs. Run v last (xs ++ rest) (lines ++ more) end) (stays e es kept) b)
  run_from (Unread r ∷ es) v last lines fate over a b = absurd (subst IsOver a.1 over)
  run_from (Beyond ∷ es) v last lines fate over a b = absurd (subst IsOver a.1 over)

-- what is shown of the rest after a session that is over is shown from a state with the machine and
-- the turn at the end of its run
pub record ShownFrom (rest : List Item) (more : List Line) (end : Fate) (turn : ℕ) (m : Machine) : Type 0 where
  pub walk : Walk
  pub machine : walk.machine ≡ m
  pub shown : Shows walk turn rest more end

pub shown_from : (v : Walk) (last : ℕ) (es rest : List Item) (lines more : List Line) (fate end : Fate) → IsOver fate → Shows v last es lines fate
    → Shows v last (before_end es ++ rest) (lines ++ more) end
    → ShownFrom rest more end (turn_past last (course v last es lines).moments) (course v last es lines).last
shown_from v last es rest lines more fate end over a b =
    let f = run_from rest more end es v last lines fate over (shows_run v last es lines fate a)
    (shows_run v last (before_end es ++ rest) (lines ++ more) end b) in
    record { walk = f.walk; machine = f.machine; shown = run_shows f.walk (turn_past last (course v last es lines).moments) rest more end f.run }
