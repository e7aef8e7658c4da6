-- Words of 36 bits, as numbers below 2 ^ 36 (processor reference manual, "Number system").
-- A promise rests on this.
use Rattle.std.specs.Prelude.{if◌then◌else◌, ℕ, ℤ, pos, negsuc, ◌+◌, ◌-◌, ◌*◌, ◌/◌, ◌%◌, ◌^◌, ◌-ℤ◌, nat_lt}

-- bits 0 to 17
abbrev pub left_of : ℕ → ℕ
left_of w = w / 2 ^ 18

-- bits 18 to 35
abbrev pub right_of : ℕ → ℕ
right_of w = w % 2 ^ 18

-- l,,r: the word of two halves, each modulo 2 ^ 18
abbrev pub pair_of : ℕ → ℕ → ℕ
pair_of l r = l % 2 ^ 18 * 2 ^ 18 + r % 2 ^ 18

-- the number that a word is in two's complement
abbrev pub signed_of : ℕ → ℤ
signed_of w = if nat_lt w (2 ^ 35) then pos w else pos w -ℤ pos (2 ^ 36)

-- an integer divided by d and rounded down; `negsuc n` is -(n + 1)
abbrev pub floor_div : ℤ → ℕ → ℤ
floor_div (pos n) d = pos (n / d)
floor_div (negsuc n) d = negsuc (n / d)

-- what remains of that division, from 0 to d - 1
abbrev pub modulo : ℤ → ℕ → ℕ
modulo (pos n) d = n % d
modulo (negsuc n) d = d - 1 - n % d

-- the word of an integer, in two's complement
abbrev pub word_of : ℤ → ℕ
word_of z = modulo z (2 ^ 36)

-- each bit turned round
abbrev pub complement_of : ℕ → ℕ
complement_of w = 2 ^ 36 - 1 - w
