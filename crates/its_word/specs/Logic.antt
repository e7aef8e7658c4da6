-- Boolean functions, half words and tests (processor reference manual, "Logic", "Half word data
-- transmission" and "Logical testing and modification").
-- A promise rests on this.
use Rattle.std.specs.Prelude.{◌==◌, not, ℕ, ◌-◌, ◌*◌, ◌/◌, ◌^◌, Bool, true, false, List, [], ◌∷◌, bit_and, bit_or, bit_xor, slice_index}
use Rattle.its_word.specs.declared.instruction.BooleanOp.{BooleanOp}
use Rattle.its_word.specs.declared.instruction.BooleanOp.TheVariants.{Setz, And, Andca, Setm, Andcm, Seta, Xor, Ior, Andcb, Eqv, Setca, Orca, Setcm, Orcm, Orcb, Seto}
use Rattle.its_word.specs.declared.instruction.SkipWhen.{SkipWhen}
use Rattle.its_word.specs.declared.instruction.SkipWhen.TheVariants.{NoSkip, AllZero, Always, NotAllZero}
use Rattle.its_word.specs.declared.instruction.Modify.{Modify}
use Rattle.its_word.specs.declared.instruction.Modify.TheVariants.{Unmodified, Zeros, Complement, Ones}
use Rattle.its_word.specs.Word.{complement_of, left_of, pair_of, right_of}

-- the sixteen Boolean functions of AC and the source m: SETZ, AND, ANDCA, SETM, ANDCM, SETA, XOR,
-- IOR, ANDCB, EQV, SETCA, ORCA, SETCM, ORCM, ORCB, SETO
unfoldable pub boolean_of : BooleanOp → ℕ → ℕ → ℕ
boolean_of Setz a m = 0
boolean_of And a m = bit_and a m
boolean_of Andca a m = bit_and (complement_of a) m
boolean_of Setm a m = m
boolean_of Andcm a m = bit_and a (complement_of m)
boolean_of Seta a m = a
boolean_of Xor a m = bit_xor a m
boolean_of Ior a m = bit_or a m
boolean_of Andcb a m = bit_and (complement_of a) (complement_of m)
boolean_of Eqv a m = complement_of (bit_xor a m)
boolean_of Setca a m = complement_of a
boolean_of Orca a m = bit_or (complement_of a) m
boolean_of Setcm a m = complement_of m
boolean_of Orcm a m = bit_or a (complement_of m)
boolean_of Orcb a m = bit_or (complement_of a) (complement_of m)
boolean_of Seto a m = complement_of 0

-- eighteen ones
abbrev pub ones : ℕ
ones = 2 ^ 18 - 1

-- eighteen copies of the leftmost bit of a half
abbrev pub copies : ℕ → ℕ
copies half = half / 2 ^ 17 * ones

-- the sixteen half moves from the source s to d, in the order of their opcodes 500, 504 .. 574:
-- HLL, HRL, HLLZ, HRLZ, HLLO, HRLO, HLLE, HRLE, HRR, HLR, HRRZ, HLRZ, HRRO, HLRO, HRRE, HLRE. The
-- first letter after H is the source's half, the second the destination's; d's other half stays, or
-- is made zeros, ones, or copies of the moved half's leftmost bit
abbrev pub half_table : ℕ → ℕ → List ℕ
half_table s d =
    pair_of (left_of s) (right_of d)
    ∷ pair_of (right_of s) (right_of d)
    ∷ pair_of (left_of s) 0
    ∷ pair_of (right_of s) 0
    ∷ pair_of (left_of s) ones
    ∷ pair_of (right_of s) ones
    ∷ pair_of (left_of s) (copies (left_of s))
    ∷ pair_of (right_of s) (copies (right_of s))
    ∷ pair_of (left_of d) (right_of s)
    ∷ pair_of (left_of d) (left_of s)
    ∷ pair_of 0 (right_of s)
    ∷ pair_of 0 (left_of s)
    ∷ pair_of ones (right_of s)
    ∷ pair_of ones (left_of s)
    ∷ pair_of (copies (right_of s)) (right_of s)
    ∷ pair_of (copies (left_of s)) (left_of s)
    ∷ []

unfoldable pub half_of : ℕ → ℕ → ℕ → ℕ
half_of k s d = slice_index (half_table s d) k

-- TR, TL, TD, TS: whether a test of AC under a mask skips, before AC is changed: never; if all
-- masked bits are 0 (E); always (A); if not all are 0 (N)
abbrev pub all_zero : ℕ → ℕ → Bool
all_zero a mask = bit_and a mask == 0

unfoldable pub tested_of : SkipWhen → ℕ → ℕ → Bool
tested_of NoSkip a mask = false
tested_of AllZero a mask = all_zero a mask
tested_of Always a mask = true
tested_of NotAllZero a mask = not (all_zero a mask)

-- what it leaves in AC: AC itself (N), or with the masked bits cleared (Z), complemented (C), set
-- (O)
unfoldable pub changed_of : Modify → ℕ → ℕ → ℕ
changed_of Unmodified a mask = a
changed_of Zeros a mask = bit_and a (complement_of mask)
changed_of Complement a mask = bit_xor a mask
changed_of Ones a mask = bit_or a mask
