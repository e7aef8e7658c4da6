-- Worked examples of the rules of a transcript: sessions with lines that are one, and with a line
-- that is none.
use Rattle.std.specs.Prelude.{◌≡◌, List, [], ◌∷◌, refl}
use Rattle.std.proofs.Common.{sym, ap, subst}
use Rattle.its_records.specs.Item.{Read}
use Rattle.its_records.specs.declared.calls.Pace.{Pace}
use Rattle.its_records.specs.declared.calls.Pace.TheVariants.{Work, Off}
use Rattle.its_records.specs.declared.session.Event.TheVariants as events
use Rattle.its_records.specs.declared.session.Reason.TheVariants as reasons
use Rattle.its_records.specs.declared.state_line.StateLine.TheVariants as states
use Rattle.its_print.specs.Printing.{Line}
use Rattle.its_print.specs.Printing as printed
use Rattle.its_plain.specs.Machine.{no_machine}
use Rattle.its_plain.specs.Operator.Clock.{after_clock}
use Rattle.its_plain.specs.Operator.Lines.{operate, lined}
use Rattle.its_plain.specs.Operator.State.{restored}
use Rattle.its_plain.specs.Transcript.{Fate, Ended, Open, Refused, at_start, next_line, none, letter, end_line, input_end, refused_line, obeyed_line, all_made, tick_line, Transcript}
use Rattle.its_plain.specs.Transcript.Course.{run_of, last_turn}
use Rattle.its_plain.specs.Transcript.Turns.{highest}
use Rattle.its_plain.proofs.RunLaws.{PacedOn, Run, shows_run}

-- CLOCK shows nothing, and END ends the session
clock : Transcript (Read (events.Clock 5) ∷ Read events.End ∷ []) [] Ended
unfolding lined operate after_clock no_machine
clock = obeyed_line refl refl all_made (end_line refl)

-- a slot without a job: PEEK is refused, and each tick has the letter `-`
absent : Transcript (Read (events.Clock 5) ∷ Read (events.Peek 3) ∷ []) (printed.Refused 2 reasons.NoJob ∷ []) Refused
unfolding lined operate after_clock no_machine
absent = obeyed_line refl refl all_made (refused_line refl)

off : Transcript (Read (events.Tick 0 2) ∷ []) (printed.Ticks 0 (Off ∷ Off ∷ []) ∷ []) Open
unfolding lined operate no_machine
off = tick_line refl refl (letter _ (tt, refl) (λ e. absurd cc) (letter _ (tt, refl) (λ e. absurd cc) none)) input_end

-- TURN shows nothing, and the slot that it names had the last turn
turn : Transcript (Read (events.Restore (states.Turn 7)) ∷ []) [] Open
unfolding lined operate restored no_machine
turn = obeyed_line refl refl all_made input_end

turn_of : last_turn (run_of (Read (events.Restore (states.Turn 7)) ∷ []) []) ≡ 7
unfolding last_turn lined operate restored no_machine
turn_of = refl

-- and no `.`
abbrev first_letters : List Line → List Pace
first_letters (printed.Ticks i ps ∷ lines) = ps
first_letters _ = []

not_working : (fate : Fate) → Transcript (Read (events.Tick 0 1) ∷ []) (printed.Ticks 0 (Work ∷ []) ∷ []) fate → ⊥
unfolding lined operate no_machine
not_working fate t =
    let run = shows_run at_start highest (Read (events.Tick 0 1) ∷ []) (printed.Ticks 0 (Work ∷ []) ∷ []) fate t in
    let is : Work ∷ [] ≡ run.0 = ap first_letters run.2 in
    let paced = subst (λ (ps : List Pace). PacedOn at_start 0 ps (λ w. Run (next_line w) highest [] run.1 fate)) (sym is) run.4 in
    paced.1.0
