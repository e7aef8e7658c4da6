-- The constants of the code are the numbers of the definitions.
use Rattle.std.specs.Prelude.{if◌then◌else◌, ◌&&◌, ◌≡◌, ◌%◌, ◌/◌, ◌^◌, ◌-ℤ◌, ℕ, pos, nat_le, nat_lt, refl}
use Rattle.std.proofs.Common.{arith}
use Rattle.its_word.specs.Flags.{OVERFLOW, CARRY_0, CARRY_1, FLOATING_OVERFLOW, BYTE_HALF, USER, NO_DIVIDE, NAMED_FLAGS, BRK, ILO, MPV, WRO, IOC, TBL, PDL, INF, FATAL}
use Rattle.its_word.specs.Limits.{slots, consoles, most_pages, most_symbols, budget}
use Rattle.its_word.specs.Console.{most_waiting}
use Rattle.its_word.specs.Word.{left_of, signed_of}
use Rattle.its_word.specs.Byte.{size, has_size}
use Rattle.its_word.specs.declared.limits.TheConstants as limits
use Rattle.its_word.specs.declared.pointer.TheConstants as pointer
use Rattle.its_word.specs.declared.flags.TheConstants as flags
use Rattle.its_word.specs.declared.pending.TheConstants as pending

pub flags_are :
    (flags.OVERFLOW ≡ OVERFLOW) × (flags.CARRY_0 ≡ CARRY_0) × (flags.CARRY_1 ≡ CARRY_1) × (flags.FLOATING_OVERFLOW ≡ FLOATING_OVERFLOW)
    × (flags.BYTE_HALF ≡ BYTE_HALF) × (flags.USER ≡ USER) × (flags.NO_DIVIDE ≡ NO_DIVIDE) × (flags.NAMED_FLAGS ≡ NAMED_FLAGS)
flags_are = (refl, refl, refl, refl, refl, refl, refl, refl)

pub bits_are :
    (pending.BRK ≡ BRK) × (pending.ILO ≡ ILO) × (pending.MPV ≡ MPV) × (pending.WRO ≡ WRO) × (pending.IOC ≡ IOC) × (pending.TBL ≡ TBL)
    × (pending.PDL ≡ PDL) × (pending.INF ≡ INF) × (pending.FATAL ≡ FATAL)
bits_are = (refl, refl, refl, refl, refl, refl, refl, refl, refl)

pub limits_are :
    (limits.SLOTS ≡ slots) × (limits.CONSOLES ≡ consoles) × (limits.MAPPED_PAGES ≡ most_pages) × (limits.MOST_SYMBOLS ≡ most_symbols)
    × (limits.BUDGET ≡ budget) × (limits.MOST_WAITING ≡ most_waiting) × (limits.ADDRESSES ≡ 2 ^ 18)
limits_are = (refl, refl, refl, refl, refl, refl, refl)

-- a word from BIT_0 on is negative, and there are WORDS of them
pub words_are : (w : ℕ) → signed_of w ≡ (if nat_lt w limits.BIT_0 then pos w else pos w -ℤ pos limits.WORDS)
words_are w = refl

-- S of a byte pointer, from its left half, and the sizes that it may have
pub size_is : (p : ℕ) → size p ≡ left_of p / pointer.SIZE % pointer.SIZES
size_is p = omega arith

pub has_size_is : (p : ℕ) → has_size p ≡ (nat_le 1 (size p) && nat_le (size p) pointer.WORD_BITS)
has_size_is p = refl
