-- Calls on consoles: OPEN, `.IOT` and SIOT if they are on one; FINISH, LISTEN and TTYLND
-- (docs/CALLS.md, "Consoles").
-- A promise rests on this.
use Rattle.std.specs.Prelude.{if◌then◌else◌, ◌==◌, ◌||◌, ◌&&◌, ℕ, ◌-◌, ◌%◌, ◌^◌, Bool, true, false, not, Option, Some, None, List, [], ◌∷◌, ◌++◌, nat_lt, is_some, length, slice_get, unwrap_or}
use Rattle.its_word.specs.Word.{right_of}
use Rattle.its_word.specs.Byte.{load_of}
use Rattle.its_word.specs.Console.{most_waiting}
use Rattle.its_records.specs.declared.calls.Ask.{Ask}
use Rattle.its_frame.specs.declared.change.Change.TheVariants as changes
use Rattle.its_frame.specs.declared.change.Opened.{Opened}
use Rattle.its_frame.specs.declared.change.Opened.TheVariants as opened
use Rattle.its_frame.specs.declared.decision.Decision.{Decision}
use Rattle.its_frame.specs.declared.decision.Decision.TheVariants.{Waits}
use Rattle.its_frame.specs.declared.decision.Wait.TheVariants.{Input, Output, Drained}
use Rattle.its_frame.specs.Errors as error
use Rattle.its_plain.specs.Machine.{Chan, Shut, TtyIn, TtyOut, On}
use Rattle.its_plain.specs.Machine.View.{View}
use Rattle.its_plain.specs.Call.Arguments.{input}
use Rattle.its_plain.specs.Call.Tests.{Test, ◌⇒◌, first, finishes, fails, goes, out}
use Rattle.its_plain.specs.Call.Basic.{channel_at, is_shut, is_superior, Party, Oneself, Nobody, Channel, party}
use Rattle.its_plain.specs.Call.Transfer.{iot_ends, read_tests, store_tests, word_of}

-- the console of a job. A channel on a console is opened only if its job has one
abbrev pub view_console : View → ℕ
view_console v = unwrap_or v.own.job.console 0

abbrev pub has_console : View → Bool
has_console v = is_some v.own.job.console

-- a console that another job holds gives it no byte and takes none from it; one without holder is
-- nobody's
abbrev pub is_other : ℕ → Option ℕ → Bool
is_other j (Some h) = not (h == j)
is_other j None = false

abbrev pub is_empty : List ℕ → Bool
is_empty [] = true
is_empty (b ∷ bs) = false

abbrev pub input_waits : View → ℕ → Bool
input_waits v c = is_empty (v.consoles c).input || is_other v.slot (v.holders c)

abbrev pub output_waits : View → ℕ → Bool
output_waits v c = not (nat_lt (length (v.consoles c).output) most_waiting) || is_other v.slot (v.holders c)

abbrev pub output_left : View → ℕ → Bool
output_left v c = not (is_empty (v.consoles c).output)

-- the byte that is taken, and what of a byte is put out: its low 7 bits
abbrev pub first_typed : View → ℕ → ℕ
first_typed v c = unwrap_or (slice_get (v.consoles c).input 0) 0

abbrev pub shown_byte : ℕ → ℕ
shown_byte w = w % 2 ^ 7

-- OPEN channel, TTY: input, or output with control 1
abbrev pub tty_device : ℕ
tty_device = 0o646471000000

abbrev pub opens_on : ℕ → Opened
opens_on control = if control == 1 then opened.TtyOut else opened.TtyIn

abbrev pub open_tests : View → Ask → ℕ → ℕ → ℕ → List Test
open_tests v a n device control =
    not (nat_lt n 16 && is_shut (channel_at v.own.channels n)) ⇒ fails v a error.BAD_CHANNEL
    ∷ not (device == tty_device) ⇒ fails v a error.WRONG_DEVICE
    ∷ nat_lt 1 control ⇒ fails v a error.OUT_OF_RANGE
    ∷ not (has_console v) ⇒ fails v a error.WRONG_DEVICE
    ∷ []

unfoldable pub opens : View → Ask → Decision
opens v a =
    first (open_tests v a (input a 0) (input a 1) (unwrap_or a.control 0))
    (finishes v (changes.Open (input a 0) (opens_on (unwrap_or a.control 0)) ∷ []) [])

-- `.IOT` of the word at E: one byte, right-justified
abbrev pub iot_in : View → ℕ → ℕ → Decision
iot_in v e c =
    first (store_tests v e ++ (input_waits v c ⇒ Waits (Input c) ∷ []))
    (iot_ends v (changes.Take c ∷ []) (record { at = e; word = first_typed v c } ∷ []))

abbrev pub iot_out : View → ℕ → ℕ → Decision
iot_out v e c =
    first (read_tests v e ++ (output_waits v c ⇒ Waits (Output c) ∷ []))
    (iot_ends v (changes.Put c (shown_byte (word_of v e)) ∷ []) [])

-- SIOT channel, pointer, count: one byte
abbrev pub siot_in : View → Ask → ℕ → ℕ → ℕ → Decision
siot_in v a next k c =
    first (store_tests v (right_of next) ++ (input_waits v c ⇒ Waits (Input c) ∷ []))
    (goes (changes.Take c ∷ []) (Some (record { place = right_of next; byte = first_typed v c })) (next ∷ (k - 1) ∷ []))

abbrev pub siot_out : View → Ask → ℕ → ℕ → ℕ → Decision
siot_out v a next k c =
    first (read_tests v (right_of next) ++ (output_waits v c ⇒ Waits (Output c) ∷ []))
    (goes (changes.Put c (shown_byte (load_of next (word_of v (right_of next)))) ∷ []) None (next ∷ (k - 1) ∷ []))

-- FINISH channel, and LISTEN channel: they wait until all output is drained; LISTEN gives the
-- number of input bytes
abbrev pub finish_on : View → Ask → Chan → Decision
finish_on v a Shut = fails v a error.BAD_CHANNEL
finish_on v a TtyOut = first (output_left v (view_console v) ⇒ Waits (Drained (view_console v)) ∷ []) (finishes v [] [])
finish_on v a _ = fails v a error.WRONG_DEVICE

unfoldable pub finish : View → Ask → Decision
finish v a = finish_on v a (channel_at v.own.channels (input a 0))

abbrev pub listens : View → Ask → ℕ → Decision
listens v a c =
    first (output_left v c ⇒ Waits (Drained c) ∷ []) (finishes v [] (out a.outputs.items (length (v.consoles c).input)))

abbrev pub listen_on : View → Ask → Chan → Decision
listen_on v a Shut = fails v a error.BAD_CHANNEL
listen_on v a TtyIn = listens v a (view_console v)
listen_on v a TtyOut = listens v a (view_console v)
listen_on v a _ = fails v a error.WRONG_DEVICE

unfoldable pub listen : View → Ask → Decision
listen v a = listen_on v a (channel_at v.own.channels (input a 0))

-- TTYLND job: the job becomes the holder of the caller's console. The caller may take the console
-- from nobody and from an inferior of its own; it may give it to an inferior if it holds it
abbrev pub can_take : View → Option ℕ → Bool
can_take v None = true
can_take v (Some h) = (h == v.slot) || is_superior v.slot (v.outlines h)

abbrev pub is_holder : View → Option ℕ → Bool
is_holder v None = false
is_holder v (Some h) = h == v.slot

abbrev pub lands : View → Ask → Bool → ℕ → ℕ → Decision
lands v a may number s =
    first (not (has_console v) ⇒ fails v a error.WRONG_DEVICE ∷ not may ⇒ fails v a number ∷ []) (finishes v (changes.Hold (view_console v) s ∷ []) [])

abbrev pub ttylnd_of : View → Ask → Party → Decision
ttylnd_of v a Oneself = lands v a (can_take v (v.holders (view_console v))) error.NOT_INFERIOR v.slot
ttylnd_of v a Nobody = fails v a error.BAD_CHANNEL
ttylnd_of v a (Channel (On s write at)) = lands v a (is_holder v (v.holders (view_console v))) error.WRONG_DEVICE s
ttylnd_of v a (Channel c) = fails v a error.WRONG_DEVICE

unfoldable pub ttylnd : View → Ask → Decision
ttylnd v a = ttylnd_of v a (party v (input a 0))
