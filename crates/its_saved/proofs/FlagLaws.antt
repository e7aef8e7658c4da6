-- Flags without one of them are still the named ones.
use Rattle.std.specs.Prelude.{◌≡◌, ◌≤◌, ◌<◌, ℕ, ◌+◌, ◌-◌, ◌*◌, ◌/◌, ◌%◌, ◌^◌, bit_and, bit_or}
use Rattle.std.proofs.Common.{sym, ◌∙◌, ap, arith}
use lib.Bits.{and_block, and_high, and_mask, or_disjoint}
use Rattle.its_word.specs.Word.{right_of}
use Rattle.its_word.specs.Flags.{named_flags, flags_of, pc_word, BYTE_HALF, NAMED_FLAGS, USER}
use Rattle.its_plain.specs.Unit.Plans.{without}

named_parts : (f : ℕ) → named_flags f ≡ (f / 2 ^ 13 % 32) * 2 ^ 13 + (f % 2 ^ 13 / 2 ^ 5 % 2) * 2 ^ 5
named_parts f =
    let split : f ≡ (f / 2 ^ 13) * 2 ^ 13 + f % 2 ^ 13 = omega arith in
    ap (λ n. bit_and n NAMED_FLAGS) split ∙ and_block 13 (f / 2 ^ 13) 31 (f % 2 ^ 13) 32 (omega arith) (omega arith)
    ∙ ap (λ n. n * 2 ^ 13 + bit_and (f % 2 ^ 13) 32) (and_mask (f / 2 ^ 13) 5) ∙ ap (λ n. (f / 2 ^ 13 % 32) * 2 ^ 13 + n) (and_high (f % 2 ^ 13) 1 5)

half_part : (f : ℕ) → bit_and f BYTE_HALF ≡ (f / 2 ^ 13 % 2) * 2 ^ 13
half_part f = and_high f 1 13

pub named_without : (f : ℕ) → named_flags f ≡ f → named_flags (without f BYTE_HALF) ≡ without f BYTE_HALF
named_without f h =
    let a = sym (named_parts f) ∙ h in
    let g = without f BYTE_HALF in
    let b : g ≡ f - (f / 2 ^ 13 % 2) * 2 ^ 13 = ap (λ n. f - n) (half_part f) in
    named_parts g ∙ ap (λ n. (n / 2 ^ 13 % 32) * 2 ^ 13 + (n % 2 ^ 13 / 2 ^ 5 % 2) * 2 ^ 5) b ∙ (omega arith) ∙ sym b

-- the flags and the PC of a PC word are those that it was made of
pub flags_back : (f pc : ℕ) → named_flags f ≡ f → flags_of (pc_word f pc) ≡ f
flags_back f pc h =
    let a = sym (named_parts f) ∙ h in
    let n = named_flags f in
    let user : bit_and n USER ≡ 0 = and_high n 1 12 ∙ ap (λ m. (m / 2 ^ 12 % 2) * 2 ^ 12) h ∙ ap (λ m. (m / 2 ^ 12 % 2) * 2 ^ 12) (sym a) ∙ (omega arith) in
    let sum : bit_or n USER ≡ f + USER = or_disjoint n USER user ∙ ap (λ m. m + USER) h in
    let small : f < 2 ^ 18 - 2 ^ 12 = omega arith in
    let left : (bit_or n USER % 2 ^ 18 * 2 ^ 18 + pc % 2 ^ 18) / 2 ^ 18 ≡ f + 2 ^ 12 =
    ap (λ m. (m % 2 ^ 18 * 2 ^ 18 + pc % 2 ^ 18) / 2 ^ 18) sum ∙ (omega arith) in
    ap named_flags left ∙ named_parts (f + 2 ^ 12) ∙ (omega arith)

pub pc_back : (f pc : ℕ) → pc < 2 ^ 18 → right_of (pc_word f pc) ≡ pc
pc_back f pc h = omega arith
