-- The fields of a line: the words that follow its first word. Characters are their ASCII codes,
-- numbers of the text are octal.
-- A promise rests on this.
use Rattle.std.specs.Prelude.{if◌then◌else◌, ℕ, ◌-◌, ◌^◌, Bool, true, ◌&&◌, ◌||◌, Option, Some, None, Result, Ok, Err, List, length, take, slice_index, nat_le, ◌==◌, bytes_eq, codes}
use Rattle.std.specs.List.{list_all}
use Rattle.its_word.specs.Text.{is_octal, octal_value, is_name, sixbit_of}
use Rattle.its_records.specs.declared.session.Bad.{Bad}
use Rattle.its_records.specs.declared.session.Bad.TheVariants.{Syntax, Range, NoConsole}

-- a word in a field of a line: whether it is a number or a name as the field wants one, whether a
-- number other than a console lies in the field's range, and whether there is such a console
pub record Field : Type 0 where
  pub formed : Bool
  pub ranged : Bool
  pub console : Bool

-- what a line with these fields says, or the first reason against it
abbrev pub with_fields : {A : Type 0} → List Field → A → Result A Bad
with_fields fields x =
    if list_all (λ f. f.formed) fields then
    (if list_all (λ f. f.ranged) fields then
    (if list_all (λ f. f.console) fields then Ok x else Err NoConsole)
    else Err Range)
    else Err Syntax

-- any number
abbrev pub number : List ℕ → Field
number w = record { formed = is_octal w; ranged = true; console = true }

-- a number of at most this much
abbrev pub number_to : ℕ → List ℕ → Field
number_to most w = record (number w) { ranged = nat_le (octal_value w) most }

-- a number from 1 to this much
abbrev pub count_to : ℕ → List ℕ → Field
count_to most w = record (number w) { ranged = nat_le 1 (octal_value w) && nat_le (octal_value w) most }

-- a name
abbrev pub name : List ℕ → Field
name w = record { formed = is_name w; ranged = true; console = true }

-- the last slot: 77 in version 1, 137 in version 2
unfoldable pub last_slot : ℕ → ℕ
last_slot v = if v == 2 then 95 else 63

-- a slot
abbrev pub slot : ℕ → List ℕ → Field
slot v w = number_to (last_slot v) w

-- a page, 0 to 377
abbrev pub page : List ℕ → Field
page w = number_to 255 w

-- an address, 0 to 777777
abbrev pub address : List ℕ → Field
address w = number_to (2 ^ 18 - 1) w

-- a console, 0 to 7
abbrev pub console : List ℕ → Field
console w = record (number w) { console = nat_le (octal_value w) 7 }

-- `-` for no console
abbrev pub is_dash : List ℕ → Bool
is_dash w = bytes_eq w (codes "-")

-- a console, or none
abbrev pub console_or_dash : List ℕ → Field
console_or_dash w = if is_dash w then record { formed = true; ranged = true; console = true } else console w

abbrev pub console_given : List ℕ → Option ℕ
console_given w = if is_dash w then None else Some (octal_value w)

-- a tag: a name, or the 12 octal digits of a word
unfoldable pub is_tag : List ℕ → Bool
is_tag w = is_name w || ((length w == 12) && is_octal w)

abbrev pub tag : List ℕ → Field
tag w = record { formed = is_tag w; ranged = true; console = true }

-- the word of a tag
unfoldable pub word_of_tag : List ℕ → ℕ
word_of_tag w = if is_name w then sixbit_of w else octal_value w

-- RUN or STOP
abbrev pub is_run : List ℕ → Bool
is_run w = bytes_eq w (codes "RUN")

abbrev pub run_or_stop : List ℕ → Field
run_or_stop w = record { formed = is_run w || bytes_eq w (codes "STOP"); ranged = true; console = true }

-- 0 for no, 1 for yes
abbrev pub flag : List ℕ → Field
flag w = number_to 1 w

abbrev pub is_set : List ℕ → Bool
is_set w = octal_value w == 1

-- a channel, and a link, 0 to 17
abbrev pub channel : List ℕ → Field
channel w = number_to 15 w

abbrev pub link : List ℕ → Field
link w = number_to 15 w

-- a position in words, 0 to 37777777777
abbrev pub position : List ℕ → Field
position w = number_to (2 ^ 32 - 1) w

-- a line of 1 to so many words
abbrev pub with_count : {A : Type 0} → ℕ → List (List ℕ) → Result A Bad → Result A Bad
with_count most ws line = if nat_le 1 (length ws) && nat_le (length ws) most then line else Err Syntax

-- the digits before the `/` of a first word
abbrev pub before_slash : List ℕ → List ℕ
before_slash w = take (length w - 1) w

-- a number directly followed by `/`
abbrev pub is_place : List ℕ → Bool
is_place w = is_octal (before_slash w) && slice_index w (length w - 1) == 47
