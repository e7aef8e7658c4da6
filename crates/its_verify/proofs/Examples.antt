-- Worked examples of the judge, evaluated: the transcripts of small sessions, whole and with one
-- letter, line or LF changed.
use Rattle.std.specs.Prelude.{◌≡◌, ℕ, true, false, Some, List, [], ◌∷◌, ◌++◌, codes, map, refl, replicate}
use Rattle.its_robin.specs.Robin.{first_running, robin}
use Rattle.its_records.specs.Item.{Read}
use Rattle.its_word.specs.Text.{digits_of, is_octal, octal_value, spaced, words_of}
use Rattle.its_records.specs.declared.session.Event.TheVariants as events
use Rattle.its_print.specs.Printing.{runs_of, text_of_line}
use Rattle.its_session.specs.Events.{events_of}
use Rattle.its_session.specs.Grammar.{bare_line, event_of_words, kind_of, last_slot, line_event, slot_line, tick_line}
use Rattle.its_plain.specs.Machine.{Whole, no_machine}
use Rattle.its_plain.specs.Operator.Jobs.{state_shown}
use Rattle.its_plain.specs.Operator.Lines.{lined, operate}
use Rattle.its_plain.specs.Transcript.{Walk, at_start}
use Rattle.its_plain.specs.Transcript.Turns.{highest}
use Rattle.its_reader.specs.TextLines.{lines_in}
use Rattle.its_verify.specs.Lines.{is_peek}
use Rattle.its_verify.specs.Rulings.{Verdict, Yes, No, judged}
use Rattle.its_verify.specs.Letters.{ticks_in}
use Rattle.its_verify.specs.Verified.{verified, bounded, is_end_line, Judged, Cut, Long}

abbrev line : List ℕ → List ℕ
line bytes = bytes ++ 10 ∷ []

-- two ticks of a slot without a job, and then a line that is refused
abbrev session : List ℕ
session = line (codes "TICK 0 2") ++ line (codes "STATE 3") ++ line (codes "END")

abbrev first : List ℕ
first = line (codes "T 0 2-")

abbrev last : List ℕ
last = line (codes "? 2 NOJOB")

-- the whole transcript; a letter that is not licensed; a run that is cut in two; one tick less and
-- one more; the last line missing, one line too many, the last LF missing, and an LF too many
-- before the end; and a transcript of nothing
abbrev transcripts : List (List ℕ)
transcripts =
    (first ++ last)
    ∷ (line (codes "T 0 2.") ++ last)
    ∷ (line (codes "T 0 1- 1-") ++ last)
    ∷ (line (codes "T 0 1-") ++ last)
    ∷ (line (codes "T 0 3-") ++ last)
    ∷ first
    ∷ (first ++ last ++ last)
    ∷ (first ++ codes "? 2 NOJOB")
    ∷ (first ++ line [] ++ last)
    ∷ []
    ∷ []

answers : map (λ transcript. verified (session ++ transcript)) transcripts ≡ map Judged
    (Yes 2 ∷ No 1 ∷ No 1 ∷ No 1 ∷ No 1 ∷ No 2 ∷ No 3 ∷ No 2 ∷ No 2 ∷ No 1 ∷ [])
unfolding verified bounded is_end_line lines_in events_of line_event event_of_words kind_of last_slot tick_line slot_line bare_line words_of
    is_octal octal_value lined operate no_machine state_shown ticks_in text_of_line runs_of spaced digits_of
answers = refl

-- inputs whose session has no END line, one without lines, one that has END in a word, and one with
-- a line of 256 bytes
abbrev inputs : List (List ℕ)
inputs = line (codes "TICK 0 2") ∷ [] ∷ line (codes "END.") ∷ (line (replicate 256 59) ++ line (codes "END"))
    ∷ (codes "; " ++ line (codes "END") ++ codes " END ") ∷ []

cuts : map verified inputs ≡ Cut 2 ∷ Cut 1 ∷ Cut 2 ∷ Long 1 ∷ Judged (Yes 0) ∷ []
unfolding verified bounded is_end_line lines_in events_of line_event event_of_words kind_of bare_line words_of lined operate
cuts = refl

-- PEEK of any job: a line is passed over if its first word is `P`
abbrev with_job : Whole → Walk
with_job q = record at_start { machine = record no_machine { jobs = λ k. Some q } }

abbrev peeks : List (List ℕ)
peeks = line (codes "P 0 USER - 0 - - -") ∷ line (codes "P") ∷ line (codes "  P here") ∷ line (codes "PP") ∷ line (codes "Q P") ∷ line []
    ∷ codes "P" ∷ (line (codes "P") ++ line (codes "P")) ∷ []

peeked : (q : Whole) → map (λ text. judged (with_job q) highest (Read (events.Peek 0) ∷ []) 0 (lines_in text)) peeks ≡ Yes 1 ∷ Yes 1 ∷ Yes 1
    ∷ No 1 ∷ No 1 ∷ No 1 ∷ No 1 ∷ No 2 ∷ []
unfolding lined lines_in is_peek words_of
peeked q = refl

-- RUN if a job runs in each slot: the turns in their order; one that is missing, of another slot,
-- with a letter that is not licensed, and one too many
abbrev running : Whole → Walk
running q = with_job (record q { job = record q.job { stopped = false } })

abbrev turns : List (List ℕ)
turns =
    (line (codes "T 0 1.") ++ line (codes "T 1 1."))
    ∷ line (codes "T 0 1.")
    ∷ (line (codes "T 0 1.") ++ line (codes "T 0 1."))
    ∷ line (codes "T 1 1.")
    ∷ (line (codes "T 0 1.") ++ line (codes "T 1 1-"))
    ∷ (line (codes "T 0 1.") ++ line (codes "T 1 1.") ++ line (codes "T 2 1."))
    ∷ []

abbrev turn_answers : List Verdict
turn_answers = Yes 2 ∷ No 2 ∷ No 2 ∷ No 1 ∷ No 2 ∷ No 3 ∷ []

run_turns : (q : Whole) → map (λ text. judged (running q) highest (Read (events.Run 2 1) ∷ []) 0 (lines_in text)) turns ≡ turn_answers
unfolding lined operate lines_in ticks_in text_of_line runs_of spaced digits_of robin first_running
run_turns q = refl

-- the next RUN goes on after the last turn
next_turns : (q : Whole) → map (λ text. judged (running q) highest (Read (events.Run 1 1) ∷ Read (events.Run 1 1) ∷ []) 0 (lines_in text))
    turns ≡ turn_answers
unfolding lined operate lines_in ticks_in text_of_line runs_of spaced digits_of robin first_running
next_turns q = refl

-- if no job runs, RUN shows nothing
no_turns : map (λ text. judged at_start highest (Read (events.Run 2 1) ∷ []) 0 (lines_in text)) ([] ∷ line (codes "T 0 1-") ∷ []) ≡ Yes 0 ∷ No 1 ∷ []
unfolding lined operate lines_in no_machine robin first_running
no_turns = refl

-- a `P` line has at most 1543 bytes before its LF
longest : is_peek (line (codes "P " ++ replicate 1541 88)) ≡ true
unfolding is_peek words_of
longest = refl

too_long : is_peek (line (codes "P " ++ replicate 1542 88)) ≡ false
unfolding is_peek words_of
too_long = refl
