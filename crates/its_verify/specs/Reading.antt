-- What the steps of reading a line of a session or of a transcript give.
-- No promise rests on this.
use Rattle.std.specs.Prelude.{if◌then◌else◌, ◌==◌, ◌&&◌, ◌-◌, ℕ, Bool, true, false, Option, Some, None, List, [], ◌∷◌, length, replicate, nat_le, nat_lt, slice_index_or, bytes_eq}
use Rattle.std.specs.List.{list_all}
use Rattle.its_records.specs.declared.calls.Pace.{Pace}
use Rattle.its_print.specs.Printing.{Ticks, text_of_line}
use Rattle.its_verify.specs.Letters.{letter_at}

-- a word ends if these bytes follow
abbrev pub ends_word : List ℕ → Bool
ends_word [] = true
ends_word (b ∷ bs) = b == 32

abbrev pub is_space : ℕ → Bool
is_space b = b == 32

-- these bytes are ND and then spaces alone
abbrev pub ends_with_d : List ℕ → Bool
ends_with_d (n ∷ d ∷ bs) = (n == 78) && (d == 68) && list_all is_space bs
ends_with_d _ = false

-- the letter before the last byte of a line, if it is one
abbrev pub last_letter : List ℕ → Option Pace
last_letter line = if nat_lt (length line) 2 then None else letter_at (slice_index_or line (length line - 2) 0)

-- the most bytes of a `T` line with one run of letters, and its LF
abbrev pub most_alike : ℕ
most_alike = 12

-- a line is the `T` line of slot i with k letters, each of them this one
abbrev pub says_alike : ℕ → ℕ → List ℕ → Option Pace → Bool
says_alike i k line (Some p) = bytes_eq line (text_of_line (Ticks i (replicate k p)))
says_alike i k line None = false

-- a line of at most so many bytes is the `T` line of slot i with k letters, all of them like its
-- last one
abbrev pub is_alike : ℕ → ℕ → List ℕ → Bool
is_alike i k line = nat_le (length line) most_alike && says_alike i k line (last_letter line)
