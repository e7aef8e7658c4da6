-- The error numbers of calls (docs/CALLS.md, "How a call ends").
-- A promise rests on this.
use Rattle.std.specs.Prelude.{ℕ}

-- no such call
abbrev pub NO_CALL : ℕ
NO_CALL = 0o1

-- too few arguments
abbrev pub TOO_FEW : ℕ
TOO_FEW = 0o2

-- too many arguments
abbrev pub TOO_MANY : ℕ
TOO_MANY = 0o3

-- bad channel
abbrev pub BAD_CHANNEL : ℕ
BAD_CHANNEL = 0o4

-- wrong device or direction
abbrev pub WRONG_DEVICE : ℕ
WRONG_DEVICE = 0o5

-- no such file
abbrev pub NO_FILE : ℕ
NO_FILE = 0o6

-- directory full
abbrev pub DIRECTORY_FULL : ℕ
DIRECTORY_FULL = 0o7

-- device full
abbrev pub DEVICE_FULL : ℕ
DEVICE_FULL = 0o10

-- file locked
abbrev pub FILE_LOCKED : ℕ
FILE_LOCKED = 0o11

-- no such job
abbrev pub NO_JOB : ℕ
NO_JOB = 0o12

-- not your inferior
abbrev pub NOT_INFERIOR : ℕ
NOT_INFERIOR = 0o13

-- no free slot
abbrev pub NO_SLOT : ℕ
NO_SLOT = 0o14

-- no core
abbrev pub NO_CORE : ℕ
NO_CORE = 0o15

-- page there, not there or read only
abbrev pub BAD_PAGE : ℕ
BAD_PAGE = 0o16

-- argument must be a word
abbrev pub NO_WORD : ℕ
NO_WORD = 0o17

-- the byte's word is one that the call reads
abbrev pub WORD_IN_USE : ℕ
WORD_IN_USE = 0o20

-- bad byte pointer
abbrev pub BAD_POINTER : ℕ
BAD_POINTER = 0o21

-- number out of range
abbrev pub OUT_OF_RANGE : ℕ
OUT_OF_RANGE = 0o22

-- file exists
abbrev pub FILE_EXISTS : ℕ
FILE_EXISTS = 0o23

-- link end in use
abbrev pub LINK_IN_USE : ℕ
LINK_IN_USE = 0o24

-- no free link
abbrev pub NO_LINK : ℕ
NO_LINK = 0o25

-- nobody reads
abbrev pub NOBODY_READS : ℕ
NOBODY_READS = 0o26
