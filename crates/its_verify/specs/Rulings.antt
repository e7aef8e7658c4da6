-- The judge: it follows the events and the lines together, and gives the first line that is not
-- licensed. That it accepts exactly what is a transcript by the rules of `Transcript`, and else
-- gives the first line that is none of one, are laws (proofs/VerdictLaws).
-- A promise rests on this.
use Rattle.std.specs.Prelude.{ℕ, zero, suc, ◌+◌, Option, Some, None, List, [], ◌∷◌}
use Rattle.its_records.specs.Item.{Item, Read, Unread, Beyond}
use Rattle.its_print.specs.Printing.{Line, Refused}
use Rattle.its_plain.specs.Operator.Lines.{Lined, Done, Peeks, lined}
use Rattle.its_plain.specs.Operator.{Refuses, Does, Ticks, Quits}
use Rattle.its_plain.specs.Transcript.{Walk, at_start, walk_after, next_line}
use Rattle.its_plain.specs.Transcript.Turns.{turn_after, highest, turn_kept, turns_asked, ticks_asked}
use Rattle.its_reader.specs.TextLines.{lines_in}
use Rattle.its_verify.specs.Lines.{is_peek, says}
use Rattle.its_verify.specs.Letters.{if_so, ticked}

-- what the judge says
pub data Verdict : Type 0 where
  -- they are a transcript, of so many lines
  Yes : ℕ → Verdict
  -- the number of the first line that is not licensed; if one is missing, one more than there are
  No : ℕ → Verdict

-- what is said of the lines that are left, after so many that are licensed
abbrev pub Ruling : Type 0
Ruling = ℕ → List (List ℕ) → Verdict

-- nothing more is shown
abbrev pub at_end : Ruling
at_end n [] = Yes n
at_end n (text ∷ texts) = No (n + 1)

-- one line is shown, and its text says how to go on, or is not licensed
abbrev pub led_by : {X : Type 0} → Option X → (X → Ruling) → Ruling
led_by None next n texts = No (n + 1)
led_by (Some x) next n texts = next x (n + 1) texts

abbrev pub led : {X : Type 0} → (List ℕ → Option X) → (X → Ruling) → Ruling
led reads next n [] = No (n + 1)
led reads next n (text ∷ texts) = led_by (reads text) next n texts

-- the bytes, if they are the text of the line, and if they may be a line of PEEK
abbrev pub saying : Line → List ℕ → Option (List ℕ)
saying line bytes = if_so (says line bytes) bytes

abbrev pub peeking : List ℕ → Option (List ℕ)
peeking bytes = if_so (is_peek bytes) bytes

-- these lines are shown
abbrev pub expects : List Line → Ruling → Ruling
expects [] next = next
expects (line ∷ lines) next = led (saying line) (λ text. expects lines next)

-- a line of the session with this effect
abbrev pub gone : Walk → Lined → (Walk → Ruling) → Ruling
gone v (Done (Refuses r)) next = expects (Refused v.line r ∷ []) at_end
gone v (Done (Does n out touched b)) next = expects out (next (next_line (walk_after v n touched b)))
gone v (Done (Ticks i k)) next = led (ticked v i k) (λ w. next (next_line w))
gone v (Done Quits) next = at_end
gone v (Peeks i) next = led peeking (λ text. next (next_line v))

-- a turn of q ticks of the slot whose turn it is; if it is nobody's, no more turns come
abbrev pub turned_by : ℕ → Walk → Option ℕ → (Walk → ℕ → Ruling) → Ruling → Ruling
turned_by q v (Some s) more done = led (ticked v s q) (λ w. more w s)
turned_by q v None more done = done

-- up to n turns of q ticks, the first of them after a turn of the last slot, and how it goes on
-- after them
abbrev pub turned : ℕ → ℕ → Walk → ℕ → (Walk → ℕ → Ruling) → Ruling
turned zero q v last next = next v last
turned (suc n) q v last next = turned_by q v (turn_after v.machine last) (λ w s. turned n q w s next) (next v last)

-- the events of a session from here on, after a turn of the last slot
abbrev pub judged : Walk → ℕ → List Item → Ruling
judged v last [] = at_end
judged v last (Read e ∷ es) =
    gone v (lined v.machine v.block e) (λ w. turned (turns_asked e) (ticks_asked e) w (turn_kept last e) (λ x s. judged x s es))
judged v last (Unread r ∷ es) = expects (Refused v.line r ∷ []) at_end
judged v last (Beyond ∷ es) = at_end

-- what the judge says of the bytes of a transcript
unfoldable pub verdict : List Item → List ℕ → Verdict
verdict es bytes = judged at_start highest es 0 (lines_in bytes)
