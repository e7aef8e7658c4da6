-- What `.IOT` and SIOT have in common, whatever their channel is on: the tests of the words that
-- they move, and of SIOT's arguments (docs/CALLS.md, "`.IOT`" and "SIOT").
-- A promise rests on this.
use Rattle.std.specs.Prelude.{◌==◌, ◌||◌, ◌&&◌, ℕ, ◌/◌, ◌%◌, ◌^◌, Bool, not, List, [], ◌∷◌, is_some, unwrap_or}
use Rattle.its_word.specs.Word.{right_of}
use Rattle.its_word.specs.Byte.{size, has_size, increment_of}
use Rattle.its_word.specs.Core.{Core, word_at, can_store}
use Rattle.its_word.specs.declared.access.Fault.TheVariants.{Mpv, Wro}
use Rattle.its_records.specs.declared.calls.Ask.{Ask}
use Rattle.its_word.specs.declared.plan.Store.{Store}
use Rattle.its_frame.specs.declared.change.Change.{Change}
use Rattle.its_frame.specs.declared.decision.Decision.{Decision}
use Rattle.its_frame.specs.declared.decision.Decision.TheVariants.{Ends}
use Rattle.its_frame.specs.Errors as error
use Rattle.its_plain.specs.Machine.Own.{exit_of, with_advance}
use Rattle.its_plain.specs.Machine.View.{View}
use Rattle.its_plain.specs.Call.Arguments.{input, place_of_input, in_footprint}
use Rattle.its_plain.specs.Call.Tests.{Test, ◌⇒◌, first, finishes, fails, faults}
use Rattle.its_plain.specs.Call.Basic.{is_negative, read_only, shared_place}

-- the words that a transfer stores to or reads: MPV if one is absent, WRO if it is to be stored and
-- is read only
abbrev pub is_absent : Core → ℕ → Bool
is_absent c p = not (is_some (word_at c p))

abbrev pub store_tests : View → ℕ → List Test
store_tests v p = is_absent v.own.core p ⇒ faults v Mpv ∷ not (can_store v.own.core p) ⇒ faults v Wro ∷ []

abbrev pub read_tests : View → ℕ → List Test
read_tests v p = is_absent v.own.core p ⇒ faults v Mpv ∷ []

abbrev pub word_of : View → ℕ → ℕ
word_of v p = unwrap_or (word_at v.own.core p) 0

-- `.IOT` of the word at E. PC gains 1
abbrev pub iot_ends : View → List Change → List Store → Decision
iot_ends v cs ss = Ends (record { items = cs }) (record { items = ss }) (exit_of (with_advance 1 v.own.job))

-- SIOT channel, pointer, count: one byte; pointer and count become those of the rest. I and X, bits
-- 13 to 17 of the pointer, have to be 0
abbrev pub is_indexed : ℕ → Bool
is_indexed p = not (p / 2 ^ 18 % 2 ^ 5 == 0)

abbrev pub next_pointer : ℕ → ℕ
next_pointer p = unwrap_or (increment_of p) 0

-- a console moves bytes of any size; a file, a draft or an inferior moves whole words, of 36 bits;
-- a file and an inferior may be at their end
abbrev pub word_bits : ℕ
word_bits = 36

abbrev pub siot_tests : View → Ask → ℕ → ℕ → Bool → Bool → List Test
siot_tests v a p k words ended =
    (shared_place a (place_of_input a 1) || shared_place a (place_of_input a 2)) ⇒ fails v a error.NO_WORD
    ∷ (read_only v.own.core (place_of_input a 1) || read_only v.own.core (place_of_input a 2)) ⇒ faults v Wro
    ∷ (not (has_size p) || is_indexed p) ⇒ fails v a error.BAD_POINTER
    ∷ (words && not (size p == word_bits)) ⇒ fails v a error.BAD_POINTER
    ∷ is_negative k ⇒ fails v a error.OUT_OF_RANGE
    ∷ (k == 0) ⇒ finishes v [] []
    ∷ ended ⇒ finishes v [] []
    ∷ in_footprint (right_of (next_pointer p)) a ⇒ fails v a error.WORD_IN_USE
    ∷ []

abbrev pub siot_by : View → Ask → Bool → Bool → Decision → Decision
siot_by v a words ended moves = first (siot_tests v a (input a 1) (input a 2) words ended) moves
