-- What the monitor writes of its peeks is short: their slots and their counts of steps are small
-- numbers.
use Rattle.std.proofs.Common.{◌≤◌, ◌<◌, ◌+◌, ◌/◌, ◌^◌, ℕ, zero, suc, Bool, true, false, Option, Some, None, Result, Ok, Err, List, [], ◌∷◌, ◌++◌, length, map, drop, ltb, leb, refl, inl, inr, arith}
use Rattle.std.specs.Prelude.{IfOk}
use Rattle.std.specs.List.{AllByRecursion, list_all}
use Rattle.std.proofs.lemmas.Bool.{cases_Bool}
use Rattle.its_records.specs.Item.{Item, Read, Unread, Beyond}
use Rattle.its_word.specs.Text.{is_code, words_of}
use Rattle.its_records.specs.declared.session.Bad.{Bad}
use Rattle.its_records.specs.declared.session.Event.{Event}
use Rattle.its_records.specs.declared.session.Event.TheVariants as events
use Rattle.its_records.specs.declared.session.Place.{Place}
use Rattle.its_records.specs.declared.session.Place.TheVariants as places
use Rattle.its_records.specs.declared.session.Reason.{Reason}
use Rattle.its_records.specs.declared.show.JobShow.{JobShow}
use Rattle.its_records.specs.declared.state_line.StateLine.{StateLine}
use Rattle.its_records.specs.declared.state_line.StateLine.TheVariants as states
use Rattle.its_print.specs.Printing.{Line, Peeked}
use Rattle.its_print.specs.Printing as printed
use Rattle.its_session.specs.Events.{end_of, events_of, item_then, items_from, lines_from, most_lines, place_after, version_after}
use Rattle.its_session.specs.Fits.{EventFits}
use Rattle.its_session.specs.Grammar.{event_of_words, last_slot, line_event}
use Rattle.its_session.proofs.FitsLaws.{later_fits, words_fit}
use Rattle.its_plain.specs.Transcript.Licence.{Dots, dots_after_line}
use Rattle.its_plain.specs.Machine.{File, Machine, Whole, no_machine}
use Rattle.its_plain.specs.Machine.Own.{names_of}
use Rattle.its_plain.specs.Operator.{Block, no_block, Refuses, Does, Ticks, Quits, disturbs, quietly}
use Rattle.its_plain.specs.Call.File.{file_named}
use Rattle.its_plain.specs.Operator.Files.{file_shown, filed_line, files_in, rows, shown_by}
use Rattle.its_plain.specs.Operator.Lines.{Lined, Done, Peeks, by_clock, by_exam, by_load, by_state, in_a_line, lined, operate, peeked_at, shows}
use Rattle.its_plain.specs.Operator.State.{restored}
use Rattle.its_plain.specs.Transcript.Turns.{highest, turn_after, turn_kept, turns_asked, ticks_asked}
use Rattle.its_stepped.specs.Calling.{Decoding}
use Rattle.its_stepped.specs.Forest.{Forest}
use Rattle.its_stepped.specs.Lines.{Told, after_calm, peeked, stepped, after_ticks, turned_by, turned, told, told_by, with_raw}
use Rattle.its_stepped.specs.Sound.{Sound}
use Rattle.its_stepped.specs.State.{State, no_state}
use Rattle.its_stepped.specs.Tick.{tick}
use Rattle.its_stepped.specs.Unwind.{left}
use Rattle.its_stepped.proofs.Running.SessionLaws.{HoldsAfter, Upkeep}
use Rattle.its_stepped.proofs.Unwinding.UnwindLaws.{few_left}
use Rattle.its_stepped.proofs.Running.UpkeepLaws.{Good, upkeep}
use Rattle.its_stepped.proofs.Running.WrittenLaws.{lasting}

-- a line that is short if it is a peek
abbrev pub Small : Line → Type 0
Small (Peeked s peek) = (s < 2 ^ 8) × (peek.left < 2 ^ 8)
Small _ = Unit {0}

abbrev pub AllSmall : List Line → Type 0
AllSmall lines = AllByRecursion Small lines

small_append : (a b : List Line) → AllSmall a → AllSmall b → AllSmall (a ++ b)
small_append [] b h k = k
small_append (l ∷ ls) b h k = (h.0, small_append ls b h.1 k)

-- the events of a session: a slot that is peeked at is small
abbrev PeekFits : Event → Type 0
PeekFits (events.Peek s) = s < 2 ^ 8
PeekFits _ = Unit {0}

abbrev ItemFits : Item → Type 0
ItemFits (Read e) = PeekFits e
ItemFits _ = Unit {0}

abbrev AllFit : List Item → Type 0
AllFit es = AllByRecursion ItemFits es

slot_small : (s : ℕ) → s ≤ last_slot 2 → s < 2 ^ 8
unfolding last_slot
slot_small s h = omega arith

peek_fits : (v : ℕ) (e : Event) → EventFits v e → PeekFits e
peek_fits v (events.Peek s) h = slot_small s (later_fits v (events.Peek s) h)
peek_fits v _ h = tt

ok_fits : (v : ℕ) (r : Result Event Bad) → IfOk r (EventFits v) → IfOk r PeekFits
ok_fits v (Ok e) h = peek_fits v e h
ok_fits v (Err bad) h = tt

line_fits : (place : Place) (v : ℕ) (line : List ℕ) → IfOk (line_event place v line) PeekFits
unfolding line_event
line_fits place v line =
    elim (cases_Bool (leb (length line) 255)) [
      | inl short ↦
          elim (cases_Bool (list_all (is_code 32 126) line)) [
            | inl printable ↦ rw (short, printable) (ok_fits v (event_of_words place v (words_of line))
                (words_fit place v (words_of line) (event_of_words place v (words_of line)) refl))
            | inr other ↦ rw (short, other) tt
          ]
      | inr longer ↦ rw longer tt
    ]

then_fits : (r : Result Event Bad) (rest : Event → List Item) → IfOk r PeekFits → ((e : Event) → AllFit (rest e)) → AllFit (item_then r rest)
then_fits (Ok events.End) rest h k = (tt, tt)
then_fits (Ok e) rest h k = (h, k e)
then_fits (Err bad) rest h k = (tt, tt)

end_fits : (whole : Bool) (place : Place) → AllFit (end_of whole place)
end_fits true places.System = (tt, tt)
end_fits true places.Load = (tt, tt)
end_fits true places.File = (tt, tt)
end_fits true places.First = tt
end_fits true places.Plain = tt
end_fits false place = tt

items_fit : (whole : Bool) (n : ℕ) (place : Place) (v : ℕ) (lines : List (List ℕ)) → AllFit (items_from whole n place v lines)
items_fit whole n place v [] = end_fits whole place
items_fit whole n place v (line ∷ lines) =
    elim (cases_Bool (ltb most_lines n)) [
      | inl past ↦ rw past (tt, tt)
      | inr few ↦
          rw few
          (then_fits (line_event place v line) (λ e. items_from whole (n + 1) (place_after place e) (version_after v e) lines) (line_fits place v line)
          (λ e. items_fit whole (n + 1) (place_after place e) (version_after v e) lines))
    ]

events_fit : (bytes : List ℕ) → AllFit (events_of bytes)
unfolding events_of
events_fit bytes = items_fit true 1 places.First 1 (lines_from true [] bytes)

-- what a line shows is no peek, and one that peeks does so at its slot
abbrev Shown : Lined → Type 0
Shown (Done (Does m out touched b)) = AllSmall out
Shown (Done (Refuses r)) = Unit {0}
Shown (Done (Ticks s k)) = Unit {0}
Shown (Done Quits) = Unit {0}
Shown (Peeks s) = s < 2 ^ 8

filed_small : (fs : List File) → AllSmall (map filed_line fs)
filed_small [] = tt
filed_small (f ∷ fs) = (tt, filed_small fs)

rows_small : (n : ℕ) (ws : List ℕ) → AllSmall (rows n ws)
rows_small zero ws = tt
rows_small (suc n) ws = (tt, rows_small n (drop 8 ws))

listed_small : (s a : ℕ) (ws : List ℕ) → AllSmall (printed.listed s a ws)
listed_small s a [] = tt
listed_small s a (w ∷ ws) = (tt, listed_small s (a + 1) ws)

load_shown : (b : Block) (r : Result (Machine × ℕ) Reason) → Shown (Done (by_load b r))
load_shown b (Ok x) = (tt, tt)
load_shown b (Err r) = tt

disturbs_shown : (s : ℕ) (b : Block) (r : Result Machine Reason) → Shown (Done (disturbs s b r))
disturbs_shown s b (Ok m) = tt
disturbs_shown s b (Err r) = tt

quietly_shown : (b : Block) (r : Result Machine Reason) → Shown (Done (quietly b r))
quietly_shown b (Ok m) = tt
quietly_shown b (Err r) = tt

clock_shown : (m : Machine) (b : Block) (n : ℕ) (r : Result Machine Reason) → Shown (Done (by_clock m b n r))
clock_shown m b n (Ok k) = tt
clock_shown m b n (Err r) = tt

exam_shown : (m : Machine) (b : Block) (s : ℕ) (show : List ℕ → List Line) (r : Result (List ℕ) Reason)
    → ((ws : List ℕ) → AllSmall (show ws)) → Shown (Done (by_exam m b s show r))
exam_shown m b s show (Ok ws) h = h ws
exam_shown m b s show (Err r) h = tt

state_shown : (m : Machine) (b : Block) (s : ℕ) (r : Result JobShow Reason) → Shown (Done (by_state m b s r))
state_shown m b s (Ok show) = (tt, tt)
state_shown m b s (Err r) = tt

file_by : (m : Machine) (b : Block) (d x y : ℕ) (o : Option File) → Shown (Done (shows m b (shown_by d x y o)))
file_by m b d x y (Some f) = (tt, rows_small ((length f.words + 7) / 8) f.words)
file_by m b d x y None = tt

show_shown : (m : Machine) (b : Block) (d x y : ℕ) → Shown (Done (shows m b (file_shown m d x y)))
unfolding file_shown
show_shown m b d x y = file_by m b d x y (file_named (names_of d x y) m.files)

peek_shown : (s : ℕ) (o : Option Whole) → s < 2 ^ 8 → Shown (peeked_at s o)
peek_shown s (Some q) h = h
peek_shown s None h = tt

restored_shown : (m : Machine) (b : Block) (l : StateLine) → Shown (Done (restored m b l))
unfolding restored
restored_shown m b (states.System v) = tt
restored_shown m b (states.Clock n) = clock_shown m b n _
restored_shown m b (states.File d x y) = quietly_shown _ _
restored_shown m b (states.FileWords ws) = quietly_shown b _
restored_shown m b (states.Job s u j c) = disturbs_shown s _ _
restored_shown m b (states.CoreWords a ws) = disturbs_shown b.slot b _
restored_shown m b (states.ReadOnly p) = disturbs_shown b.slot b _
restored_shown m b (states.Symbol x a) = quietly_shown b _
restored_shown m b (states.Regs r) = disturbs_shown b.slot b _
restored_shown m b (states.Alarm s p n) = disturbs_shown s b _
restored_shown m b (states.Under s t) = disturbs_shown s b _
restored_shown m b (states.Tty s n w) = disturbs_shown s b _
restored_shown m b (states.Disk s n d x y at) = disturbs_shown s b _
restored_shown m b (states.Draft s n d x y) = disturbs_shown s b _
restored_shown m b (states.Wrote s n ws) = disturbs_shown s b _
restored_shown m b (states.Usr s n t w at) = disturbs_shown s b _
restored_shown m b (states.Join s n l w x y) = disturbs_shown s b _
restored_shown m b (states.Sent l ws) = quietly_shown b _
restored_shown m b (states.EndShut l w) = quietly_shown b _
restored_shown m b (states.Input c bs) = quietly_shown b _
restored_shown m b (states.Output c bs) = quietly_shown b _
restored_shown m b (states.Hold c s) = quietly_shown b _
restored_shown m b (states.Turn s) = tt
restored_shown m b states.Ready = tt

lined_shown : (m : Machine) (b : Block) (e : Event) → PeekFits e → Shown (lined m b e)
unfolding lined operate
lined_shown m b (events.Load u j c) h = load_shown b _
lined_shown m b (events.Words a ws) h = disturbs_shown b.slot b _
lined_shown m b (events.ReadOnly page) h = disturbs_shown b.slot b _
lined_shown m b (events.Symbol name a) h = quietly_shown b _
lined_shown m b (events.Go a) h = disturbs_shown b.slot b _
lined_shown m b (events.File d x y) h = quietly_shown _ _
lined_shown m b (events.Append ws) h = quietly_shown b _
lined_shown m b (events.TypeIn c bytes) h = (tt, tt)
lined_shown m b (events.Drain c n) h = (tt, tt)
lined_shown m b (events.Clock n) h = clock_shown m b n _
lined_shown m b (events.Int s v w) h = disturbs_shown s b _
lined_shown m b (events.Exam s a n) h = exam_shown m b s (in_a_line s a) _ (λ ws. (tt, tt))
lined_shown m b (events.List s a n) h = exam_shown m b s (printed.listed s a) _ (λ ws. listed_small s a ws)
lined_shown m b (events.State s) h = state_shown m b s _
lined_shown m b (events.Deposit s a w) h = disturbs_shown s b _
lined_shown m b (events.Stop s) h = disturbs_shown s b _
lined_shown m b (events.Cont s) h = disturbs_shown s b _
lined_shown m b (events.Peek s) h = peek_shown s (m.jobs s) h
lined_shown m b (events.Dir d) h = (tt, filed_small (files_in d m.files))
lined_shown m b (events.Show d x y) h = show_shown m b d x y
lined_shown m b (events.Restore l) h = restored_shown m b l
lined_shown m b _ h = tt

-- the steps that a peek counts are at most four
peek_small : (w : State) (s : ℕ) → Sound w → (peeked w s).left < 2 ^ 8
unfolding peeked
peek_small w s sound = let few : left w s ≤ 4 = few_left w s sound in omega arith

module _ (decoding : Decoding) where
  abbrev Fine : Dots → State → Type 0
  Fine d w = Good Forest d w

  abbrev u : Upkeep Fine
  u = upkeep (lasting decoding)

  ticks_small : (w : State) (d : Dots) (i k : ℕ) (lines : State → List Line) → Fine d w
      → ((f : Dots) → Fine f (after_ticks w i k) → AllSmall (lines (after_ticks w i k))) → AllSmall (lines (after_ticks w i k))
  ticks_small w d i zero lines g h = h d g
  ticks_small w d i (suc k) lines g h = ticks_small (tick w i).state _ i k lines (u.ticks d w i g) h

  -- turns, and what follows them
  abbrev Next : (State → ℕ → Told) → Type 0
  Next next = (w' : State) (f : Dots) (l : ℕ) → Fine f w' → AllSmall (next w' l).lines

  turn_small : (q last : ℕ) (w : State) (d : Dots) (next : State → ℕ → Told) (done : Told) (o : Option ℕ) → Fine d w → Next next
      → AllSmall done.lines → AllSmall (turned_by o q w next done).lines
  turn_small q last w d next done None g h k = k
  turn_small q last w d next done (Some s) g h k =
      (tt, ticks_small w d s q (λ x. (next x s).lines) g (λ f good. h (after_ticks w s q) f s good))

  turns_small : (n q last : ℕ) (w : State) (d : Dots) (next : State → ℕ → Told) → Fine d w → Next next
      → AllSmall (turned n q w last next).lines
  turns_small zero q last w d next g h = h w d last g
  turns_small (suc n) q last w d next g h =
      turn_small q last w d (λ v s. turned n q v s next) (next w last) (turn_after w.raw last) g
      (λ w' f s good. turns_small n q s w' f next good h) (h w d last g)

  line_small : (n : ℕ) (w v : State) (d : Dots) (b : Block) (l : Lined) (next : State → Block → Told) → Fine d w → HoldsAfter Fine d v l → Shown l
      → ((w' : State) (f : Dots) (c : Block) → Fine f w' → AllSmall (next w' c).lines)
      → AllSmall (told_by n w v b l next).lines
  line_small n w v d b (Done (Refuses r)) next g a s h = (tt, tt)
  line_small n w v d b (Done (Does m out touched c)) next g a s h =
      small_append out (next (with_raw v m) c).lines s (h (with_raw v m) (dots_after_line d touched) c a)
  line_small n w v d b (Done (Ticks i k)) next g a s h = (tt, ticks_small w d i k (λ x. (next x b).lines) g (λ f good. h (after_ticks w i k) f b good))
  line_small n w v d b (Done Quits) next g a s h = tt
  line_small n w v d b (Peeks i) next g a s h = ((s, peek_small w i g.sound), h w d b g)

  told_small : (n : ℕ) (w : State) (d : Dots) (b : Block) (last : ℕ) (es : List Item) → Fine d w → AllFit es
      → AllSmall (told n w b last es).lines
  told_small n w d b last [] g fit = tt
  told_small n w d b last (Read e ∷ es) g fit =
      line_small n w (after_calm w b e) d b (lined (after_calm w b e).raw b e) _ g (u.after d w b e g) (lined_shown (after_calm w b e).raw b e fit.0)
      (λ w' f c good. turns_small (turns_asked e) (ticks_asked e) (turn_kept last e) w' f (λ x i. told (n + 1) x c i es) good
      (λ x g i fine. told_small (n + 1) x g c i es fine fit.1))
  told_small n w d b last (Unread r ∷ es) g fit = (tt, tt)
  told_small n w d b last (Beyond ∷ es) g fit = tt

  -- the lines of a session
  pub session_small : (bytes : List ℕ) → AllSmall (stepped (events_of bytes)).lines
  session_small bytes = told_small 1 (no_state no_machine) (λ k. 0) no_block highest (events_of bytes) u.starts (events_fit bytes)
