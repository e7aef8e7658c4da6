-- What the steps of reading a line give.
-- No promise rests on this.
use Rattle.std.specs.Prelude.{if◌then◌else◌, ◌==◌, ◌&&◌, ◌^◌, ℕ, Bool, true, false, bytes_eq, codes, Option, Some, None, Result, Ok, Err, List, length, map, nat_le}
use Rattle.std.specs.List.{list_all}
use Rattle.arrayvec.specs.ArrayVec.{ArrayVec}
use Rattle.its_word.specs.Text.{is_name, is_octal, octal_value, sixbit_of}
use Rattle.its_records.specs.declared.session.Bad.{Bad}
use Rattle.its_records.specs.declared.session.Bad.TheVariants.{Syntax, Range, NoConsole}
use Rattle.its_session.specs.Fields.{is_dash, is_run, is_tag, last_slot, word_of_tag}

abbrev pub number_in : List ℕ → Result ℕ Bad
number_in w = if is_octal w then Ok (octal_value w) else Err Syntax

abbrev pub name_in : List ℕ → Result ℕ Bad
name_in w = if is_name w then Ok (sixbit_of w) else Err Syntax

-- a number that must be at most this much
abbrev pub ranged_to : ℕ → ℕ → Result ℕ Bad
ranged_to most n = if nat_le n most then Ok n else Err Range

-- a console that there must be
abbrev pub console_at : ℕ → Result ℕ Bad
console_at n = if nat_le n 7 then Ok n else Err NoConsole

-- the numbers of 1 to 16 words
abbrev pub numbers_in : List (List ℕ) → Result (ArrayVec ℕ) Bad
numbers_in ws =
    if nat_le 1 (length ws) && nat_le (length ws) 16 then
    (if list_all is_octal ws then Ok (record { items = map octal_value ws }) else Err Syntax)
    else Err Syntax

-- the numbers of 1 to 32 words, which must be bytes of 7 bits
abbrev pub bytes_in : List (List ℕ) → Result (ArrayVec ℕ) Bad
bytes_in ws =
    if nat_le 1 (length ws) && nat_le (length ws) 32 then
    (if list_all is_octal ws then
    (if list_all (λ w. nat_le (octal_value w) 127) ws then Ok (record { items = map octal_value ws }) else Err Range)
    else Err Syntax)
    else Err Syntax

-- a console, or `-` for none
abbrev pub console_in : List ℕ → Result (Option ℕ) Bad
console_in w =
    if is_dash w then Ok None
    else (if is_octal w then (if nat_le (octal_value w) 7 then Ok (Some (octal_value w)) else Err NoConsole) else Err Syntax)

-- a tag: a name, or the 12 octal digits of a word
abbrev pub tag_in : List ℕ → Result ℕ Bad
tag_in w = if is_tag w then Ok (word_of_tag w) else Err Syntax

-- RUN or STOP
abbrev pub run_in : List ℕ → Result Bool Bad
run_in w = if is_run w then Ok true else (if bytes_eq w (codes "STOP") then Ok false else Err Syntax)

-- two numbers
abbrev pub two_numbers_in : List ℕ → List ℕ → Result (ℕ × ℕ) Bad
two_numbers_in a b = if is_octal a && is_octal b then Ok (octal_value a, octal_value b) else Err Syntax

-- two tags, and three
abbrev pub two_tags_in : List ℕ → List ℕ → Result (ℕ × ℕ) Bad
two_tags_in x y = if is_tag x && is_tag y then Ok (word_of_tag x, word_of_tag y) else Err Syntax

abbrev pub three_tags_in : List ℕ → List ℕ → List ℕ → Result (ℕ × ℕ × ℕ) Bad
three_tags_in d x y = if is_tag d && (is_tag x && is_tag y) then Ok (word_of_tag d, word_of_tag x, word_of_tag y) else Err Syntax

-- a slot and a channel of its job
abbrev pub channel_in : ℕ → ℕ → ℕ → Result (ℕ × ℕ) Bad
channel_in v s n = if nat_le s (last_slot v) && nat_le n 15 then Ok (s, n) else Err Range

-- a link, and whether its writing end is meant
abbrev pub link_end_in : ℕ → ℕ → Result (ℕ × Bool) Bad
link_end_in l w = if nat_le l 15 && nat_le w 1 then Ok (l, w == 1) else Err Range

-- the period of an alarm
abbrev pub period_in : ℕ → Result ℕ Bad
period_in n = if nat_le 1 n && nat_le n (2 ^ 34) then Ok n else Err Range

-- 0 for no, 1 for yes
abbrev pub flag_in : ℕ → Result Bool Bad
flag_in n = if nat_le n 1 then Ok (n == 1) else Err Range

-- the console and the bytes of a line that has them
abbrev pub bytes_read : Result (ℕ × ArrayVec ℕ) Bad → Result (ℕ × List ℕ) Bad
bytes_read (Ok x) = Ok (x.0, x.1.items)
bytes_read (Err bad) = Err bad
