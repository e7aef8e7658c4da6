-- The lines that a system is saved in, as data: each says one thing that a machine has. In each, s
-- and t are slots, n is a channel, c a console and l a link.
-- No promise rests on this.
use Rattle.std.specs.Prelude.{ℕ, Bool, Option, List}
pub use Rattle.its_records.specs.declared.state_line.Registers.{Registers}
use Rattle.its_plain.specs.Machine.{Names}

pub data StateLine : Type 0 where
  -- SYSTEM v: the version of the session text
  System : ℕ → StateLine
  -- CLOCK n
  Clock : ℕ → StateLine
  -- FILE d x y: a file of no words, the last
  File : Names → StateLine
  -- words after those of this file, which a line after FILE has
  FileWords : Names → List ℕ → StateLine
  -- JOB s u j c: a job with these names and this console, if it has one
  Job : ℕ → ℕ → ℕ → Option ℕ → StateLine
  -- a/ words: words of the core of s from an address on
  CoreWords : ℕ → ℕ → List ℕ → StateLine
  -- RO p: a page of s is read only
  ReadOnly : ℕ → ℕ → StateLine
  -- SYM name a: a symbol of s
  Symbol : ℕ → ℕ → ℕ → StateLine
  -- REGS r pc p1 p2 m1 m2 d1 d2: the registers of s
  Regs : ℕ → Registers → StateLine
  -- ALARM s period next
  Alarm : ℕ → ℕ × ℕ → StateLine
  -- UNDER s t: t is the superior of s
  Under : ℕ → ℕ → StateLine
  -- TTY s n w: a channel on the console of s, for output if w holds
  Tty : ℕ → ℕ → Bool → StateLine
  -- DSK s n d x y at: it reads a file, from a position on
  Disk : ℕ → ℕ → Names → ℕ → StateLine
  -- DRAFT s n d x y: it writes a draft of no words
  Draft : ℕ → ℕ → Names → StateLine
  -- WROTE s n words: words after those of the draft
  Wrote : ℕ → ℕ → List ℕ → StateLine
  -- USR s n t w at: it is on inferior t, with leave to write if w holds, at a position
  Usr : ℕ → ℕ → ℕ → Bool → ℕ → StateLine
  -- LNK s n l w x y: it is on link l, which has names x and y, at the writing end if w holds
  Join : ℕ → ℕ → ℕ → Bool → ℕ → ℕ → StateLine
  -- SENT l words: words after those in link l
  Sent : ℕ → List ℕ → StateLine
  -- SHUT l w: an end of link l that was never opened is closed, the writing one if w holds
  EndShut : ℕ → Bool → StateLine
  -- IN c bytes: bytes that were typed and not taken; OUT c bytes, if w holds: bytes that were put
  -- out and not drained
  Bytes : ℕ → Bool → List ℕ → StateLine
  -- HOLD c s: s holds console c
  Hold : ℕ → ℕ → StateLine
