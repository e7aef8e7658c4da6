-- The flags of a PC word, and the bits of pending word 1 (docs/MACHINE.md, "Instructions" and
-- "Interrupts").
-- A promise rests on this.
use Rattle.std.specs.Prelude.{ℕ, bit_and, bit_or}
use Rattle.its_word.specs.Word.{left_of, pair_of}
use Rattle.its_word.specs.declared.access.Fault.{Fault}
use Rattle.its_word.specs.declared.access.Fault.TheVariants.{Mpv, Wro, Ilo}

-- the flags, as bits of the left half of a PC word (processor reference manual, "Program control"):
-- overflow, carry 0, carry 1, floating overflow, first part done, user and no divide
abbrev pub OVERFLOW : ℕ
OVERFLOW = 0o400000

abbrev pub CARRY_0 : ℕ
CARRY_0 = 0o200000

abbrev pub CARRY_1 : ℕ
CARRY_1 = 0o100000

abbrev pub FLOATING_OVERFLOW : ℕ
FLOATING_OVERFLOW = 0o040000

abbrev pub BYTE_HALF : ℕ
BYTE_HALF = 0o020000

abbrev pub USER : ℕ
USER = 0o010000

abbrev pub NO_DIVIDE : ℕ
NO_DIVIDE = 0o000040

-- all of them but user
abbrev pub NAMED_FLAGS : ℕ
NAMED_FLAGS = 0o760040

-- the bits of pending word 1: `.BREAK`; an illegal operation; an absent page; a store to a
-- read-only page; an `.IOT` that failed; an interrupt that cannot be delivered; a pushdown count
-- that ran out; an inferior that stopped or logged out
abbrev pub BRK : ℕ
BRK = 0o1

abbrev pub ILO : ℕ
ILO = 0o2

abbrev pub MPV : ℕ
MPV = 0o4

abbrev pub WRO : ℕ
WRO = 0o10

abbrev pub IOC : ℕ
IOC = 0o20

abbrev pub TBL : ℕ
TBL = 0o40

abbrev pub PDL : ℕ
PDL = 0o100

abbrev pub INF : ℕ
INF = 0o200

abbrev pub ALR : ℕ
ALR = 0o400

-- the fatal ones, which stop a job that has not enabled them: BRK, ILO, MPV, WRO, IOC and TBL
abbrev pub FATAL : ℕ
FATAL = 0o77

-- the flags of a word, of which only the named ones are kept
abbrev pub named_flags : ℕ → ℕ
named_flags f = bit_and f NAMED_FLAGS

-- the PC word of some flags and a PC; user is always on
abbrev pub pc_word : ℕ → ℕ → ℕ
pc_word flags pc = pair_of (bit_or (named_flags flags) USER) pc

-- the flags that are taken from a PC word
abbrev pub flags_of : ℕ → ℕ
flags_of w = named_flags (left_of w)

-- the bit of a fault
abbrev pub bit_of : Fault → ℕ
bit_of Mpv = MPV
bit_of Wro = WRO
bit_of Ilo = ILO
