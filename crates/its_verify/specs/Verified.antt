-- What the judge of a session and a transcript in one input says. The session is all up to and with
-- the first line whose only word is END, and the transcript is the rest.
-- A promise rests on this.
use Rattle.std.specs.Prelude.{if◌then◌else◌, ℕ, ◌+◌, ◌-◌, Bool, false, List, [], ◌∷◌, ◌++◌, length, take, nat_le, nat_lt, bytes_eq, codes}
use Rattle.its_records.specs.Item.{Item}
use Rattle.its_word.specs.Text.{digits_of, spaced, words_of}
use Rattle.its_records.specs.declared.session.Reason.TheVariants as reasons
use Rattle.its_print.specs.Printing.{Refused, text_of_line}
use Rattle.its_session.specs.Events.{events_of, most_lines}
use Rattle.its_plain.specs.Transcript.{at_start}
use Rattle.its_plain.specs.Transcript.Turns.{highest}
use Rattle.its_reader.specs.TextLines.{before_lf, lines_in}
use Rattle.its_verify.specs.Rulings.{Verdict, Yes, No, judged}

-- what is said of an input
pub data Answer : Type 0 where
  -- the lines of the transcript are judged
  Judged : Verdict → Answer
  -- line n of the session is the first that is too long
  Long : ℕ → Answer
  -- there is no END line, and line n would be the next
  Cut : ℕ → Answer
  -- a line past the most that an input may have begins, and nothing is said before
  TooLong : Answer

-- the lines of the transcript are all that the session has, and are licensed
abbrev pub IsYes : Answer → Type 0
IsYes (Judged (Yes n)) = Unit {0}
IsYes _ = ⊥

-- the only word of a line is END
abbrev pub is_only : List ℕ → List (List ℕ) → Bool
is_only word (first ∷ []) = bytes_eq first word
is_only word _ = false

unfoldable pub is_end_line : List ℕ → Bool
is_end_line line = is_only (codes "END") (words_of (before_lf line))

-- the most bytes of a line of a session before its LF
abbrev pub most_session_bytes : ℕ
most_session_bytes = 255

-- the input, cut after its first END line
pub data Parts : Type 0 where
  -- the bytes of the session, how many lines they are, and the lines of the transcript
  Both : List ℕ → ℕ → List (List ℕ) → Parts
  LongLine : ℕ → Parts
  NoEnd : ℕ → Parts
  TooMany : Parts

-- these lines from line number n on, if the session begins with some bytes
abbrev pub parts_from : ℕ → List ℕ → List (List ℕ) → Parts
parts_from n session [] = NoEnd n
parts_from n session (line ∷ lines) =
    if nat_lt most_lines n then TooMany
    else (if nat_lt most_session_bytes (length (before_lf line)) then LongLine n
    else (if is_end_line line then Both (session ++ line) n lines
    else parts_from (n + 1) (session ++ line) lines))

-- a verdict on the first lines of a transcript that has more: it counts only if it names one of
-- them
abbrev pub within : ℕ → Verdict → Answer
within room (Yes n) = TooLong
within room (No n) = if nat_le n room then Judged (No n) else TooLong

-- the verdict on a transcript for which there is room for so many lines
unfoldable pub bounded : ℕ → List Item → List (List ℕ) → Answer
bounded room es texts =
    if nat_le (length texts) room then Judged (judged at_start highest es 0 texts)
    else within room (judged at_start highest es 0 (take room texts))

abbrev pub by_parts : Parts → Answer
by_parts (Both session count texts) = bounded (most_lines - count) (events_of session) texts
by_parts (LongLine n) = Long n
by_parts (NoEnd n) = Cut n
by_parts TooMany = TooLong

-- what is said of an input
unfoldable pub verified : List ℕ → Answer
verified bytes = by_parts (parts_from 1 [] (lines_in bytes))

-- the line that is written for it; if the input has too many lines, nothing is
abbrev pub answer_text : Answer → List ℕ
answer_text (Judged (Yes n)) = spaced (codes "YES") (digits_of n ∷ []) ++ 10 ∷ []
answer_text (Judged (No n)) = spaced (codes "NO") (digits_of n ∷ []) ++ 10 ∷ []
answer_text (Long n) = text_of_line (Refused n reasons.Long)
answer_text (Cut n) = text_of_line (Refused n reasons.Cut)
answer_text TooLong = []
