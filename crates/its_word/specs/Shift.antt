-- Shifts and rotations (processor reference manual, "Logic" and "Fixed point arithmetic"), and the
-- zeros that JFFO counts ("Program control"). e is the effective address, a is AC and b is AC+1.
-- A promise rests on this.
use Rattle.std.specs.Prelude.{if◌then◌else◌, ◌==◌, ℕ, ◌+◌, ◌-◌, ◌*◌, ◌/◌, ◌%◌, ◌^◌, Bool, nat_lt}
use Rattle.std.specs.Int.Count.{count_leading_zeros}
use Rattle.its_word.specs.Flags.{OVERFLOW}
use Rattle.its_word.specs.declared.result2.Result2.{Result2}
use Rattle.its_word.specs.Result2.{one_word}

-- the count is E as a signed number of 18 bits: to the left if it is not negative
abbrev pub is_left : ℕ → Bool
is_left e = nat_lt e (2 ^ 17)

-- by its magnitude modulo 256
abbrev pub places : ℕ → ℕ
places e = (if is_left e then e else 2 ^ 18 - e) % 256

-- n bits that move k places, with zeros coming in
abbrev pub moved_left : ℕ → ℕ → ℕ → ℕ
moved_left n w k = w * 2 ^ k % 2 ^ n

abbrev pub moved_right : ℕ → ℕ → ℕ
moved_right w k = w / 2 ^ k

abbrev pub shifted : ℕ → ℕ → ℕ → ℕ
shifted n e w = if is_left e then moved_left n w (places e) else moved_right w (places e)

-- n bits that go k places round to the left
abbrev pub rotated : ℕ → ℕ → ℕ → ℕ
rotated n w k = w * 2 ^ (k % n) % 2 ^ n + w / 2 ^ (n - k % n)

abbrev pub rotated_by : ℕ → ℕ → ℕ → ℕ
rotated_by n e w = rotated n w (if is_left e then places e else n - places e % n)

-- k copies of the sign bit s
abbrev pub sign_copies : ℕ → ℕ → ℕ
sign_copies s k = s * (2 ^ k - 1)

-- n bits m after a sign bit s, which is unchanged: zeros come in at the right, or copies of s at
-- the left
abbrev pub arithmetic : ℕ → ℕ → ℕ → ℕ → ℕ
arithmetic n e s m = if is_left e then moved_left n m (places e) else moved_right (sign_copies s (places e) * 2 ^ n + m) (places e)

-- overflow, if a bit that leaves at the left differs from the sign bit
abbrev pub arithmetic_flags : ℕ → ℕ → ℕ → ℕ → ℕ
arithmetic_flags n e s m = if is_left e then (if m * 2 ^ places e / 2 ^ n == sign_copies s (places e) then 0 else OVERFLOW) else 0

-- bit 0, and bits 1 to 35
abbrev pub sign : ℕ → ℕ
sign w = w / 2 ^ 35

abbrev pub low_35 : ℕ → ℕ
low_35 w = w % 2 ^ 35

-- ASH, ROT, LSH: one word

unfoldable pub ash_of : ℕ → ℕ → Result2
ash_of e a = one_word (sign a * 2 ^ 35 + arithmetic 35 e (sign a) (low_35 a)) (arithmetic_flags 35 e (sign a) (low_35 a))

unfoldable pub rot_of : ℕ → ℕ → Result2
rot_of e a = one_word (rotated_by 36 e a) 0

unfoldable pub lsh_of : ℕ → ℕ → Result2
lsh_of e a = one_word (shifted 36 e a) 0

-- ASHC, ROTC, LSHC: two words

-- bits 1 to 35 of both words, as one number
abbrev pub double_35 : ℕ → ℕ → ℕ
double_35 a b = low_35 a * 2 ^ 35 + low_35 b

-- as ASH on 70 bits; bit 0 of AC+1 becomes that of AC, but a count of 0 changes nothing
unfoldable pub ashc_of : ℕ → ℕ → ℕ → Result2
ashc_of e a b =
    if places e == 0 then record { first = a; second = b; flags = 0 }
    else (let m = arithmetic 70 e (sign a) (double_35 a b) in
    record {
      first = sign a * 2 ^ 35 + m / 2 ^ 35;
      second = sign a * 2 ^ 35 + m % 2 ^ 35;
      flags = arithmetic_flags 70 e (sign a) (double_35 a b);
    })

-- 72 bits as one number, and as two words
abbrev pub double : ℕ → ℕ → ℕ
double a b = a * 2 ^ 36 + b

abbrev pub two_words : ℕ → Result2
two_words n = record { first = n / 2 ^ 36; second = n % 2 ^ 36; flags = 0 }

unfoldable pub rotc_of : ℕ → ℕ → ℕ → Result2
rotc_of e a b = two_words (rotated_by 72 e (double a b))

unfoldable pub lshc_of : ℕ → ℕ → ℕ → Result2
lshc_of e a b = two_words (shifted 72 e (double a b))

-- JFFO: the zeros before the first one; 0 if there is no one
unfoldable pub zeros_of : ℕ → ℕ
zeros_of a = if a == 0 then 0 else count_leading_zeros 36 a
