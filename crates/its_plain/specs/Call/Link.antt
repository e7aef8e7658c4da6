-- Calls on links: OPEN of LNK, `.IOT` and SIOT if their channel is on one (docs/CALLS.md, "Links").
-- A promise rests on this.
use Rattle.std.specs.Prelude.{◌==◌, ◌&&◌, ℕ, ◌-◌, Bool, true, false, not, Option, Some, None, List, [], ◌∷◌, ◌++◌, nat_lt, length, find, slice_get, unwrap_or}
use Rattle.std.specs.List.{range_with_len}
use Rattle.its_word.specs.Word.{right_of}
use Rattle.its_word.specs.Byte.{load_of}
use Rattle.its_records.specs.Links.{most_links, most_link_words, link_end, is_unopened, is_closed, is_link_named}
use Rattle.its_records.specs.Tree.{least_free}
use Rattle.its_records.specs.declared.calls.Ask.{Ask}
use Rattle.its_frame.specs.declared.change.Change.TheVariants as changes
use Rattle.its_frame.specs.declared.decision.Decision.{Decision}
use Rattle.its_frame.specs.declared.decision.Decision.TheVariants.{Waits}
use Rattle.its_frame.specs.declared.decision.Wait.TheVariants.{Empty, Room}
use Rattle.its_frame.specs.Errors as error
use Rattle.its_plain.specs.Machine.{Pipe}
use Rattle.its_plain.specs.Machine.View.{View}
use Rattle.its_plain.specs.Call.Arguments.{input}
use Rattle.its_plain.specs.Call.Tests.{Test, ◌⇒◌, first, finishes, fails, goes}
use Rattle.its_plain.specs.Call.Basic.{channel_at, ioc, is_shut}
use Rattle.its_plain.specs.Call.File.{end_of_file}
use Rattle.its_plain.specs.Call.Tty.{is_empty}
use Rattle.its_plain.specs.Call.Transfer.{iot_ends, store_tests, read_tests, word_of, siot_by, next_pointer}

-- the device of links
abbrev pub link_device : ℕ
link_device = 0o545653000000

-- the words in a link, and whether one of its ends is closed. (An end that nobody has opened yet is
-- as one that is open)
abbrev pub words_in : Option Pipe → List ℕ
words_in (Some p) = p.words
words_in None = []

abbrev pub is_end_closed : Bool → Option Pipe → Bool
is_end_closed write (Some p) = is_closed (link_end write p.link)
is_end_closed write None = false

-- a link without a word can still get one, or is at its end; one with 64 words can still lose one;
-- and one that is not read any more takes none
abbrev pub is_dry : Option Pipe → Bool
is_dry o = is_empty (words_in o) && not (is_end_closed true o)

abbrev pub is_ended : Option Pipe → Bool
is_ended o = is_empty (words_in o) && is_end_closed true o

abbrev pub is_crowded : Option Pipe → Bool
is_crowded o = not (nat_lt (length (words_in o)) most_link_words) && not (is_end_closed false o)

abbrev pub is_unread : Option Pipe → Bool
is_unread o = is_end_closed false o

-- OPEN channel, LNK, name 1, name 2: the reading end, or with control 1 the writing end, of the
-- link with these names, which nobody has opened before. If there is no such link it is made, and
-- has the least number that is free
abbrev pub has_link_names : ℕ → ℕ → Option Pipe → Bool
has_link_names x y (Some p) = is_link_named x y p.link
has_link_names x y None = false

abbrev pub link_named : (ℕ → Option Pipe) → ℕ → ℕ → Option ℕ
link_named ls x y = find (λ l. has_link_names x y (ls l)) (range_with_len 0 most_links)

abbrev pub can_open : Bool → Option Pipe → Bool
can_open write (Some p) = is_unopened (link_end write p.link)
can_open write None = true

abbrev pub joins : View → ℕ → ℕ → Bool → ℕ → ℕ → Decision
joins v n l write x y = finishes v (changes.Join n l write x y ∷ []) []

abbrev pub makes_link : View → Ask → ℕ → Bool → ℕ → ℕ → Option ℕ → Decision
makes_link v a n write x y (Some l) = joins v n l write x y
makes_link v a n write x y None = fails v a error.NO_LINK

abbrev pub opens_end : View → Ask → ℕ → Bool → ℕ → ℕ → Option ℕ → Decision
opens_end v a n write x y (Some l) =
    first (not (can_open write (v.links l)) ⇒ fails v a error.LINK_IN_USE ∷ []) (joins v n l write x y)
opens_end v a n write x y None = makes_link v a n write x y (least_free most_links v.links)

abbrev pub link_tests : View → Ask → ℕ → ℕ → List Test
link_tests v a n control =
    not (nat_lt n 16 && is_shut (channel_at v.own.channels n)) ⇒ fails v a error.BAD_CHANNEL
    ∷ nat_lt 1 control ⇒ fails v a error.OUT_OF_RANGE
    ∷ []

unfoldable pub opens_link : View → Ask → Decision
opens_link v a =
    first (link_tests v a (input a 0) (unwrap_or a.control 0))
    (opens_end v a (input a 0) (unwrap_or a.control 0 == 1) (input a 2) (input a 3) (link_named v.links (input a 2) (input a 3)))

-- CLOSE of a channel on a link: the end is closed with it
abbrev pub closes_end : View → Ask → ℕ → Bool → Decision
closes_end v a l write = finishes v (changes.CloseEnd (input a 0) l write ∷ []) []

-- `.IOT` of the word at E: the first word of a link, or 777777000003 at its end; and a word that is
-- sent
abbrev pub iot_receive : View → ℕ → ℕ → List ℕ → Decision
iot_receive v e l (w ∷ ws) = iot_ends v (changes.Receive l ∷ []) (record { at = e; word = w } ∷ [])
iot_receive v e l [] = iot_ends v [] (record { at = e; word = end_of_file } ∷ [])

abbrev pub iot_receives : View → ℕ → ℕ → Decision
iot_receives v e l =
    first (store_tests v e ++ (is_dry (v.links l) ⇒ Waits (Empty l) ∷ [])) (iot_receive v e l (words_in (v.links l)))

abbrev pub iot_sends : View → ℕ → ℕ → Decision
iot_sends v e l =
    first (read_tests v e ++ (is_unread (v.links l) ⇒ ioc v ∷ is_crowded (v.links l) ⇒ Waits (Room l) ∷ []))
    (iot_ends v (changes.Send l (word_of v e) ∷ []) [])

abbrev pub iot_linked : View → ℕ → ℕ → Bool → Decision
iot_linked v e l true = iot_sends v e l
iot_linked v e l false = iot_receives v e l

-- SIOT of one word: the first word of a link, whose low bits go into the byte; or the byte, which
-- becomes a word. Error 26 if the link is not read any more
abbrev pub first_word : View → ℕ → ℕ
first_word v l = unwrap_or (slice_get (words_in (v.links l)) 0) 0

abbrev pub siot_receive : View → ℕ → ℕ → ℕ → Decision
siot_receive v next k l =
    first (store_tests v (right_of next) ++ (is_dry (v.links l) ⇒ Waits (Empty l) ∷ []))
    (goes (changes.Receive l ∷ []) (Some (record { place = right_of next; byte = first_word v l })) (next ∷ (k - 1) ∷ []))

abbrev pub siot_receives : View → Ask → ℕ → Decision
siot_receives v a l =
    siot_by v a false (is_ended (v.links l)) (siot_receive v (next_pointer (input a 1)) (input a 2) l)

abbrev pub siot_send : View → Ask → ℕ → ℕ → ℕ → Decision
siot_send v a next k l =
    first (read_tests v (right_of next) ++ (is_unread (v.links l) ⇒ fails v a error.NOBODY_READS ∷ is_crowded (v.links l) ⇒ Waits (Room l) ∷ []))
    (goes (changes.Send l (load_of next (word_of v (right_of next))) ∷ []) None (next ∷ (k - 1) ∷ []))

abbrev pub siot_sends : View → Ask → ℕ → Decision
siot_sends v a l = siot_by v a false false (siot_send v a (next_pointer (input a 1)) (input a 2) l)

abbrev pub siot_linked : View → Ask → ℕ → Bool → Decision
siot_linked v a l true = siot_sends v a l
siot_linked v a l false = siot_receives v a l
