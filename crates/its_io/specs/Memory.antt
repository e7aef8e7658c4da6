-- A source and a sink over memory, and what a call of them leaves.
-- No promise rests on this.
use Rattle.std.specs.Prelude.{ℕ, ◌+◌, ◌-◌, ◌^◌, min, List, ◌++◌, length, take, drop}
use Rattle.its_io.specs.Bytes.{next_fault}

-- a source: the bytes that are left, the number of the next call, the count of faults, how many
-- bytes a read gives at most, and the numbers of the calls that fail
pub record SourceState : Type 0 where
  pub left : List ℕ
  pub calls : ℕ
  pub faults : ℕ
  pub piece : ℕ
  pub fails : List ℕ

-- a sink: the bytes that were written, the number of the next call, the count of faults, how many
-- bytes it has room for, and the numbers of the calls that fail
pub record SinkState : Type 0 where
  pub written : List ℕ
  pub calls : ℕ
  pub faults : ℕ
  pub room : ℕ
  pub fails : List ℕ

-- calls are numbered from 0 up to 2 ^ 64 - 1, the greatest number that can be named; later ones
-- have no number
abbrev pub next_call : ℕ → ℕ
next_call calls = min (calls + 1) (2 ^ 64)

-- how many bytes a read that does not fail gives to a buffer of this length
abbrev pub given : SourceState → ℕ → ℕ
given s space = min (length s.left) (min space s.piece)

-- the source after a read that gave n bytes, and after one that failed
abbrev pub read_from : SourceState → ℕ → SourceState
read_from s n = record s { left = drop n s.left; calls = next_call s.calls }

abbrev pub read_failed : SourceState → SourceState
read_failed s = record s { calls = next_call s.calls; faults = next_fault s.faults }

-- how many of these bytes a write that does not fail takes
abbrev pub taken : SinkState → List ℕ → ℕ
taken s bytes = min (length bytes) (s.room - length s.written)

-- the sink after a write that took n of these bytes, and after one that failed
abbrev pub written_to : SinkState → List ℕ → ℕ → SinkState
written_to s bytes n = record s { written = s.written ++ take n bytes; calls = next_call s.calls }

abbrev pub write_failed : SinkState → SinkState
write_failed s = record s { calls = next_call s.calls; faults = next_fault s.faults }
