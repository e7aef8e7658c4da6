-- The letters of a `T` line, read back from its text, and the state to which they lead.
-- A promise rests on this.
use Rattle.std.specs.Prelude.{if◌then◌else◌, ℕ, ◌+◌, ◌-◌, ◌*◌, ◌==◌, ◌&&◌, Bool, true, false, not, min, Option, Some, None, List, [], ◌∷◌, ◌++◌, length, replicate, nat_lt, is_none, option_and_then}
use Rattle.its_word.specs.Text.{is_code}
use Rattle.its_records.specs.declared.calls.Pace.{Pace}
use Rattle.its_records.specs.declared.calls.Pace.TheVariants.{Step, Work, Wait, Off}
use Rattle.its_print.specs.Printing.{Ticks, letter_of}
use Rattle.its_plain.specs.Call.Step.{step}
use Rattle.its_plain.specs.Transcript.Licence.{most_dots}
use Rattle.its_plain.specs.Machine.{Machine}
use Rattle.its_plain.specs.Transcript.{Walk, after_letter}
use Rattle.its_plain.specs.Transcript.Turns.{is_running}
use Rattle.its_verify.specs.Lines.{says}

-- the letter that a byte is, if it is one
abbrev pub letter_at : ℕ → Option Pace
letter_at c =
    if c == letter_of Step then Some Step
    else (if c == letter_of Work then Some Work
    else (if c == letter_of Wait then Some Wait
    else (if c == letter_of Off then Some Off
    else None)))

-- the number before a byte with the digit that the byte is, held below a bound; no number goes on
-- after any other byte
abbrev pub counted : ℕ → ℕ → ℕ → ℕ
counted most n c = if is_code 48 55 c then min (n * 8 + (c - 48)) most else 0

-- so many of a letter
abbrev pub run_of : Option Pace → ℕ → List Pace
run_of (Some p) n = replicate n p
run_of None n = []

-- the letters of the runs in some bytes, before which a number came
abbrev pub paces_from : ℕ → ℕ → List ℕ → List Pace
paces_from most n [] = []
paces_from most n (c ∷ cs) = run_of (letter_at c) n ++ paces_from most (counted most n c) cs

abbrev pub if_so : {X : Type 0} → Bool → X → Option X
if_so true x = Some x
if_so false x = None

-- the k letters of slot i that a text says, if it says a `T` line of so many
unfoldable pub ticks_in : ℕ → ℕ → List ℕ → Option (List Pace)
ticks_in i k text =
    let ps = paces_from k 0 text in
    if_so ((length ps == k) && says (Ticks i ps) text) ps

-- the machine to which a letter leads, if it is licensed and not a `.` too many
abbrev pub led_to : Walk → ℕ → Pace → Option Machine
led_to v i Step = step v.machine i
led_to v i Work = if_so (is_running (v.machine.jobs i) && nat_lt (v.dots i) most_dots) v.machine
led_to v i Wait = if_so (is_running (v.machine.jobs i) && is_none (step v.machine i)) v.machine
led_to v i Off = if_so (not (is_running (v.machine.jobs i))) v.machine

-- the walk after some letters, if each is licensed in its turn
abbrev pub paced : Walk → ℕ → List Pace → Option Walk
paced v i [] = Some v
paced v i (p ∷ ps) = option_and_then (λ n. paced (after_letter v i p n) i ps) (led_to v i p)

-- its state after the letters of a text
abbrev pub ticked : Walk → ℕ → ℕ → List ℕ → Option Walk
ticked v i k text = option_and_then (paced v i) (ticks_in i k text)
