-- Block transfer, jumps, the stack and subroutines (processor reference manual, "Full word data
-- transmission", "Program control" and "Pushdown list").
-- A promise rests on this.
use Rattle.std.specs.Prelude.{if◌then◌else◌, ◌==◌, not, ℕ, ◌+◌, ◌*◌, ◌^◌, Bool, [], ◌∷◌, Option, Some, None, Ok, nat_le}
use Rattle.its_word.specs.Word.{left_of, right_of, pair_of}
use Rattle.its_word.specs.Core.{Core}
use Rattle.its_word.specs.Flags.{BYTE_HALF}
use Rattle.its_word.specs.declared.instruction.BranchOp.{BranchOp}
use Rattle.its_word.specs.declared.instruction.BranchOp.TheVariants.{Blt, Aobjp, Aobjn, Jrst, Jfcl}
use Rattle.its_word.specs.declared.instruction.StackOp.{StackOp}
use Rattle.its_word.specs.declared.instruction.StackOp.TheVariants.{Pushj, Push, Pop, Popj, Jsr, Jsp, Jsa, Jra}
use Rattle.its_word.specs.declared.plan.Context.{Context}
use Rattle.its_word.specs.declared.plan.Plan.{Plan}
use Rattle.its_plain.specs.Machine.Registers.{PDL, flags_of, pc_word}
use Rattle.its_plain.specs.Unit.Plans.{Planned, given, read_of, ac, to, without, is_on, completes, next, jump, both_up, both_down}

-- a word of BLT, from the left half of AC to its right half. Up to E, AC gets the next pair of
-- addresses after the word, and PC and first part done stay; at E it is done, and AC is not written
abbrev pub transferred : Context → ℕ → ℕ → Plan
transferred x pointer w =
    if nat_le x.e (right_of pointer) then next x (to (right_of pointer) w ∷ []) 0
    else record {
      stores = record { items = to (right_of pointer) w ∷ to x.a (both_up pointer) ∷ [] };
      pc = x.pc;
      flags = x.flags;
      pending = 0;
    }

-- the sign of a word
abbrev pub is_negative : ℕ → Bool
is_negative w = nat_le (2 ^ 35) w

-- the flags that JRST 2 takes, those of the last index register or indirect word; if neither was
-- used the flags are unchanged, except first part done
abbrev pub restored : Context → Option ℕ → ℕ
restored x (Some w) = flags_of w
restored x None = without x.flags BYTE_HALF

-- the flags that A names for JFCL: overflow 10, carry 0 4, carry 1 2, floating overflow 1
abbrev pub named_by : ℕ → ℕ
named_by a = a * 2 ^ 14

-- 251 BLT; 252 AOBJP, 253 AOBJN: AC +1,,1, and a jump if it is then not negative, negative; 254
-- JRST, with A = 2 also the flags; 255 JFCL: the named flags are cleared, and a jump if one was on
unfoldable pub branch_row : Core → Context → BranchOp → Planned
branch_row c x Blt = given (read_of c (left_of (ac c x))) (λ w. Ok (transferred x (ac c x) w))
branch_row c x Aobjp = Ok (jump x (to x.a (both_up (ac c x)) ∷ []) 0 (not (is_negative (both_up (ac c x)))))
branch_row c x Aobjn = Ok (jump x (to x.a (both_up (ac c x)) ∷ []) 0 (is_negative (both_up (ac c x))))
branch_row c x Jrst =
    Ok (record (completes x [] 0 x.e) { flags = if x.a == 2 then restored x x.flags_word else without x.flags BYTE_HALF })
branch_row c x Jfcl =
    Ok (record (jump x [] 0 (is_on x.flags (named_by x.a))) { flags = without x.flags (named_by x.a + BYTE_HALF) })

-- a plan in which PDL is set if the count in the left half ran out
abbrev pub with_count : ℕ → ℕ → Plan → Plan
with_count end pointer p = record p { pending = if left_of pointer == end then PDL else 0 }

-- 260 PUSHJ, 261 PUSH: AC +1,,1, then the word to C(right AC); PDL if AC's left half becomes 0. 262
-- POP, 263 POPJ: the word C(right AC), then AC -1,,1; PDL if AC's left half becomes 777777. AC is
-- stored before memory. 264 JSR, 265 JSP, 266 JSA, 267 JRA
unfoldable pub stack_row : Core → Context → StackOp → Planned
stack_row c x Pushj =
    let p = both_up (ac c x) in
    Ok (with_count 0 p (completes x (to x.a p ∷ to (right_of p) (pc_word x.flags (x.pc + 1)) ∷ []) 0 x.e))
stack_row c x Push =
    let p = both_up (ac c x) in
    given (read_of c x.e) (λ w. Ok (with_count 0 p (next x (to x.a p ∷ to (right_of p) w ∷ []) 0)))
stack_row c x Pop =
    let p = both_down (ac c x) in
    given (read_of c (right_of (ac c x))) (λ w. Ok (with_count 0o777777 p (next x (to x.a p ∷ to x.e w ∷ []) 0)))
stack_row c x Popj =
    let p = both_down (ac c x) in
    given (read_of c (right_of (ac c x))) (λ w. Ok (with_count 0o777777 p (completes x (to x.a p ∷ []) 0 (right_of w))))
stack_row c x Jsr = Ok (completes x (to x.e (pc_word x.flags (x.pc + 1)) ∷ []) 0 (x.e + 1))
stack_row c x Jsp = Ok (completes x (to x.a (pc_word x.flags (x.pc + 1)) ∷ []) 0 x.e)
stack_row c x Jsa = Ok (completes x (to x.e (ac c x) ∷ to x.a (pair_of x.e (x.pc + 1)) ∷ []) 0 (x.e + 1))
stack_row c x Jra = given (read_of c (left_of (ac c x))) (λ w. Ok (completes x (to x.a w ∷ []) 0 x.e))
