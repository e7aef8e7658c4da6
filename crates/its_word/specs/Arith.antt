-- Integer arithmetic (processor reference manual, "Fixed point arithmetic" and "Arithmetic
-- testing"). a is AC and s the source of the row; both are words.
-- A promise rests on this.
use Rattle.std.specs.Prelude.{if◌then◌else◌, ◌==◌, ◌&&◌, ◌||◌, not, ℕ, ℤ, pos, negsuc, ◌+◌, ◌*◌, ◌/◌, ◌%◌, ◌^◌, ◌+ℤ◌, ◌*ℤ◌, Bool, true, false, Option, Some, None, [], ◌∷◌, nat_le, nat_lt, int_lt, int_div, int_rem}
use Rattle.std.specs.Ordering.{int_eq}
use Rattle.its_word.specs.Flags.{CARRY_0, CARRY_1, OVERFLOW}
use Rattle.its_word.specs.declared.instruction.Condition.{Condition}
use Rattle.its_word.specs.declared.instruction.Condition.TheVariants.{Never, L, E, Le, A, Ge, N, G}
use Rattle.its_word.specs.declared.result2.Result2.{Result2}
use Rattle.its_word.specs.Result2.{one_word}
use Rattle.its_word.specs.Word.{complement_of, floor_div, modulo, signed_of, word_of}

-- ADD, SUB, MOVN, MOVM; the sums of AOJ, AOS, SOJ and SOS are those of ADD

-- a carry leaves the leftmost of the k low bits when a, b and c are added
abbrev pub carries : ℕ → ℕ → ℕ → ℕ → Bool
carries k a b c = nat_le (2 ^ k) (a % 2 ^ k + b % 2 ^ k + c)

-- the carries out of bits 0 and 1, and overflow if they differ
abbrev pub carry_flags : Bool → Bool → ℕ
carry_flags true true = CARRY_0 + CARRY_1
carry_flags true false = OVERFLOW + CARRY_0
carry_flags false true = OVERFLOW + CARRY_1
carry_flags false false = 0

abbrev pub sum_of : ℕ → ℕ → ℕ → Result2
sum_of a b c = one_word ((a + b + c) % 2 ^ 36) (carry_flags (carries 36 a b c) (carries 35 a b c))

unfoldable pub add_of : ℕ → ℕ → Result2
add_of a s = sum_of a s 0

unfoldable pub sub_of : ℕ → ℕ → Result2
sub_of a s = sum_of a (complement_of s) 1

unfoldable pub neg_of : ℕ → Result2
neg_of s = sum_of 0 (complement_of s) 1

-- the word itself, or its negation if it is negative
unfoldable pub magnitude_of : ℕ → Result2
magnitude_of s = if int_lt (signed_of s) (pos 0) then neg_of s else one_word s 0

-- MUL, IMUL

unfoldable pub product_of : ℕ → ℕ → ℤ
product_of a s = signed_of a *ℤ signed_of s

-- the high word of a product: the product divided by 2 ^ 35 and rounded down
unfoldable pub high_of : ℤ → ℕ
high_of p = word_of (floor_div p (2 ^ 35))

-- the low 35 bits of a number, after bit 0 of a word
abbrev pub low_word_of : ℕ → ℕ → ℕ
low_word_of first low = first / 2 ^ 35 * 2 ^ 35 + low % 2 ^ 35

-- the low word of a product: its low 35 bits, after the sign of the high word
unfoldable pub low_of : ℤ → ℕ
low_of p = low_word_of (high_of p) (modulo p (2 ^ 35))

-- both words; overflow exactly for both factors -2 ^ 35
unfoldable pub mul_of : ℕ → ℕ → Result2
mul_of a s = record {
  first = high_of (product_of a s);
  second = low_of (product_of a s);
  flags = if (a == 2 ^ 35) && (s == 2 ^ 35) then OVERFLOW else 0;
}

-- the integer is one of 36 bits, from -2 ^ 35 to 2 ^ 35 - 1
abbrev pub fits : ℤ → Bool
fits (pos n) = nat_lt n (2 ^ 35)
fits (negsuc n) = nat_lt n (2 ^ 35)

-- the product; if it does not fit one word, overflow and the low word of MUL
unfoldable pub imul_of : ℕ → ℕ → Result2
imul_of a s = if fits (product_of a s) then one_word (word_of (product_of a s)) 0 else one_word (low_of (product_of a s)) OVERFLOW

-- IDIV, DIV: none means overflow and no divide, with no operand changed

-- the quotient towards 0, and the remainder with the dividend's sign; none if the divisor is 0 or
-- the quotient does not fit one word
unfoldable pub divided : ℤ → ℤ → Option Result2
divided n d =
    if int_eq d (pos 0) || not (fits (int_div n d)) then None
    else Some (record { first = word_of (int_div n d); second = word_of (int_rem n d); flags = 0 })

unfoldable pub idiv_of : ℕ → ℕ → Option Result2
idiv_of a s = divided (signed_of a) (signed_of s)

-- AC and the low 35 bits of AC+1, as one number
unfoldable pub dividend_of : ℕ → ℕ → ℤ
dividend_of a low = signed_of a *ℤ pos (2 ^ 35) +ℤ pos (low % 2 ^ 35)

unfoldable pub div_of : ℕ → ℕ → ℕ → Option Result2
div_of a low s = divided (dividend_of a low) (signed_of s)

-- CAI, CAM, JUMP, SKIP, AOJ, AOS, SOJ, SOS

-- whether a is less than b, as signed numbers
abbrev pub less : ℕ → ℕ → Bool
less a b = int_lt (signed_of a) (signed_of b)

-- whether a compares so to b
unfoldable pub compares_of : Condition → ℕ → ℕ → Bool
compares_of Never a b = false
compares_of L a b = less a b
compares_of E a b = a == b
compares_of Le a b = less a b || a == b
compares_of A a b = true
compares_of Ge a b = not (less a b)
compares_of N a b = not (a == b)
compares_of G a b = not (less a b || a == b)
