-- Byte pointers: IBP, LDB, DPB, ILDB, IDPB (processor reference manual, "Byte manipulation").
-- A promise rests on this.
use Rattle.std.specs.Prelude.{if◌then◌else◌, ◌&&◌, ℕ, ◌+◌, ◌-◌, ◌*◌, ◌/◌, ◌%◌, ◌^◌, Bool, Option, Some, None, nat_le}
use Rattle.its_word.specs.Word.{right_of}

-- P, bits 0 to 5: how many bits are at the right of the byte
abbrev pub position : ℕ → ℕ
position p = p / 2 ^ 30

-- S, bits 6 to 11: how many bits the byte has
abbrev pub size : ℕ → ℕ
size p = p / 2 ^ 24 % 2 ^ 6

-- bits 6 to 17: S, a bit that is not used, I and X
abbrev pub middle : ℕ → ℕ
middle p = p / 2 ^ 18 % 2 ^ 12

-- the pointer of P, bits 6 to 17, and Y
abbrev pub pointer : ℕ → ℕ → ℕ → ℕ
pointer position middle y = position * 2 ^ 30 + middle * 2 ^ 18 + y

-- S is from 1 to 36; any other size is an illegal operation
abbrev pub has_size : ℕ → Bool
has_size p = nat_le 1 (size p) && nat_le (size p) 36

-- the pointer to the next byte, in this word or at the left of the next
unfoldable pub increment_of : ℕ → Option ℕ
increment_of p =
    if has_size p
    then Some (if nat_le (size p) (position p)
    then pointer (position p - size p) (middle p) (right_of p)
    else pointer (36 - size p) (middle p) ((right_of p + 1) % 2 ^ 18))
    else None

-- the byte of w: S bits, of which the lowest has value 2 ^ P; bits left of bit 0 read as 0
unfoldable pub load_of : ℕ → ℕ → ℕ
load_of p w = w / 2 ^ position p % 2 ^ size p

-- w with the low S bits of v as its byte; bits left of bit 0 are not stored
unfoldable pub deposit_of : ℕ → ℕ → ℕ → ℕ
deposit_of p w v = (above * 2 ^ (position p + size p) + v % 2 ^ size p * 2 ^ position p + below) % 2 ^ 36
  where
    above : ℕ
    above = w / 2 ^ (position p + size p)

    below : ℕ
    below = w % 2 ^ position p
