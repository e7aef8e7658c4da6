-- Calls on inferiors: OPEN of USR; `.IOT` and SIOT if the channel is on one; USRMEM and UCLOSE
-- (docs/CALLS.md, "Inferiors").
-- A promise rests on this.
use Rattle.std.specs.Prelude.{◌==◌, ◌&&◌, ℕ, ◌+◌, ◌-◌, Bool, true, false, not, Option, Some, None, List, [], ◌∷◌, ◌++◌, nat_lt, find, unwrap_or}
use Rattle.std.specs.List.{list_any, range_with_len}
use Rattle.its_word.specs.Word.{right_of}
use Rattle.its_word.specs.Byte.{load_of}
use Rattle.its_word.specs.Core.{Core, word_at, can_store}
use Rattle.its_word.specs.Limits.{slots}
use Rattle.its_records.specs.Tree.{least_free}
use Rattle.its_records.specs.declared.calls.Ask.{Ask}
use Rattle.its_frame.specs.declared.change.Change.{Change}
use Rattle.its_frame.specs.declared.change.Change.TheVariants as changes
use Rattle.its_frame.specs.declared.change.Opened.TheVariants as opened
use Rattle.its_frame.specs.declared.decision.Decision.{Decision}
use Rattle.its_frame.specs.Errors as error
use Rattle.its_plain.specs.Machine.{Chan, Shut, On, core_of}
use Rattle.its_plain.specs.Machine.View.{View, Outline}
use Rattle.its_plain.specs.Call.Arguments.{input, has_input}
use Rattle.its_plain.specs.Call.Tests.{Test, ◌⇒◌, first, finishes, fails, goes, out}
use Rattle.its_plain.specs.Call.Basic.{channel_at, ioc, is_shut, is_superior}
use Rattle.its_plain.specs.Call.Transfer.{is_absent, iot_ends, store_tests, read_tests, word_of, siot_by, next_pointer}
use Rattle.its_plain.specs.Call.File.{end_of_file, end_of_core}

-- the device of inferiors
abbrev pub usr_device : ℕ
usr_device = 0o656362000000

-- OPEN channel, USR, user name, job name: the caller's inferior with these names, in the least
-- slot, from position 0 on; control 1 gives leave to write. If there is none, OPEN with control 1
-- makes it
abbrev pub has_names : ℕ → ℕ → Option Outline → Bool
has_names u n (Some o) = (o.uname == u) && (o.jname == n)
has_names u n None = false

abbrev pub inferior_named : View → ℕ → ℕ → Option ℕ
inferior_named v u n =
    find (λ k. has_names u n (v.outlines k) && is_superior v.slot (v.outlines k)) (range_with_len 0 slots)

abbrev pub any_named : View → ℕ → ℕ → Bool
any_named v u n = list_any (λ k. has_names u n (v.outlines k)) (range_with_len 0 slots)

abbrev pub makes_job : View → Ask → ℕ → ℕ → ℕ → Option ℕ → Decision
makes_job v a n u x (Some s) = finishes v (changes.Make s u x ∷ changes.Open n (opened.Usr s true) ∷ []) []
makes_job v a n u x None = fails v a error.NO_SLOT

abbrev pub opens_job : View → Ask → ℕ → ℕ → ℕ → Bool → Option ℕ → Decision
opens_job v a n u x write (Some s) = finishes v (changes.Open n (opened.Usr s write) ∷ []) []
opens_job v a n u x write None =
    first (any_named v u x ⇒ fails v a error.NOT_INFERIOR ∷ not write ⇒ fails v a error.NO_JOB ∷ []) (makes_job v a n u x (least_free v.limit v.outlines))

abbrev pub usr_tests : View → Ask → ℕ → ℕ → List Test
usr_tests v a n control =
    not (nat_lt n 16 && is_shut (channel_at v.own.channels n)) ⇒ fails v a error.BAD_CHANNEL
    ∷ nat_lt 1 control ⇒ fails v a error.OUT_OF_RANGE
    ∷ []

unfoldable pub opens_usr : View → Ask → Decision
opens_usr v a =
    let control = unwrap_or a.control 0 in
    first (usr_tests v a (input a 0) control)
    (opens_job v a (input a 0) (input a 2) (input a 3) (control == 1) (inferior_named v (input a 2) (input a 3)))

-- the core of the inferior that a call reaches. A channel on it is at its end past word 777777
abbrev pub other_core : View → Core
other_core v = core_of v.other

abbrev pub at_end : ℕ → Bool
at_end at = not (nat_lt at end_of_core)

-- `.IOT` of the word at E: the word of the inferior at the channel's position, which is then one
-- more; at the end it gets 777777000003. Such a channel with leave to write is one for output,
-- which stores there; IOC if it cannot
abbrev pub iot_peeks : View → ℕ → ℕ → ℕ → Bool → Option ℕ → Decision
iot_peeks v e n at true o = iot_ends v [] (record { at = e; word = end_of_file } ∷ [])
iot_peeks v e n at false (Some w) = iot_ends v (changes.Move n (at + 1) ∷ []) (record { at = e; word = w } ∷ [])
iot_peeks v e n at false None = ioc v

abbrev pub iot_from : View → ℕ → ℕ → ℕ → Decision
iot_from v e n at = first (store_tests v e) (iot_peeks v e n at (at_end at) (word_at (other_core v) at))

abbrev pub iot_into : View → ℕ → ℕ → ℕ → ℕ → Decision
iot_into v e n s at =
    first (read_tests v e ++ (at_end at ⇒ ioc v ∷ not (can_store (other_core v) at) ⇒ ioc v ∷ []))
    (iot_ends v (changes.Poke s at (word_of v e) ∷ changes.Move n (at + 1) ∷ []) [])

abbrev pub iot_through : View → ℕ → ℕ → ℕ → Bool → ℕ → Decision
iot_through v e n s true at = iot_into v e n s at
iot_through v e n s false at = iot_from v e n at

-- SIOT of one word: from the inferior, or into it; error 16 if its word is absent, or cannot be
-- stored
abbrev pub siot_peeks : View → Ask → ℕ → ℕ → ℕ → ℕ → Option ℕ → Decision
siot_peeks v a next k n at (Some w) =
    first (store_tests v (right_of next)) (goes (changes.Move n (at + 1) ∷ []) (Some (record { place = right_of next; byte = w })) (next ∷ (k - 1) ∷ []))
siot_peeks v a next k n at None = first (store_tests v (right_of next)) (fails v a error.BAD_PAGE)

abbrev pub siot_from : View → Ask → ℕ → ℕ → Decision
siot_from v a n at =
    siot_by v a true (at_end at) (siot_peeks v a (next_pointer (input a 1)) (input a 2) n at (word_at (other_core v) at))

abbrev pub siot_pokes : View → Ask → ℕ → ℕ → ℕ → ℕ → ℕ → Decision
siot_pokes v a next k n s at =
    first (read_tests v (right_of next) ++ (not (can_store (other_core v) at) ⇒ fails v a error.BAD_PAGE ∷ []))
    (goes (changes.Poke s at (load_of next (word_of v (right_of next))) ∷ changes.Move n (at + 1) ∷ []) None (next ∷ (k - 1) ∷ []))

abbrev pub siot_into : View → Ask → ℕ → ℕ → ℕ → Decision
siot_into v a n s at = siot_by v a true (at_end at) (siot_pokes v a (next_pointer (input a 1)) (input a 2) n s at)

abbrev pub siot_through : View → Ask → ℕ → ℕ → Bool → ℕ → Decision
siot_through v a n s true at = siot_into v a n s at
siot_through v a n s false at = siot_from v a n at

-- USRMEM channel, address, optional new word: the output gets the word of the inferior, and then
-- the new one is stored
abbrev pub set_word : ℕ → ℕ → ℕ → Bool → List Change
set_word s p w true = changes.Poke s p w ∷ []
set_word s p w false = []

abbrev pub highest_address : ℕ
highest_address = 0o777777

abbrev pub usrmem_tests : View → Ask → Bool → ℕ → Bool → List Test
usrmem_tests v a write p new =
    nat_lt highest_address p ⇒ fails v a error.OUT_OF_RANGE
    ∷ (new && not write) ⇒ fails v a error.WRONG_DEVICE
    ∷ is_absent (other_core v) p ⇒ fails v a error.BAD_PAGE
    ∷ (new && not (can_store (other_core v) p)) ⇒ fails v a error.BAD_PAGE
    ∷ []

abbrev pub usrmem_on : View → Ask → Chan → Decision
usrmem_on v a Shut = fails v a error.BAD_CHANNEL
usrmem_on v a (On s write at) =
    first (usrmem_tests v a write (input a 1) (has_input a 2))
    (finishes v (set_word s (input a 1) (input a 2) (has_input a 2)) (out a.outputs.items (unwrap_or (word_at (other_core v) (input a 1)) 0)))
usrmem_on v a _ = fails v a error.WRONG_DEVICE

unfoldable pub usrmem : View → Ask → Decision
usrmem v a = usrmem_on v a (channel_at v.own.channels (input a 0))

-- UCLOSE channel: the inferior and all jobs below it are removed. No INF is set
abbrev pub uclose_on : View → Ask → Chan → Decision
uclose_on v a Shut = fails v a error.BAD_CHANNEL
uclose_on v a (On s write at) = finishes v (changes.Remove s ∷ []) []
uclose_on v a _ = fails v a error.WRONG_DEVICE

unfoldable pub uclose : View → Ask → Decision
uclose v a = uclose_on v a (channel_at v.own.channels (input a 0))
