-- The bytes that wait at a console: those that were typed and not taken, and those that were put
-- out and not drained, each in the order in which they came.
-- A promise rests on this.
use Rattle.std.specs.Prelude.{ℕ, List, []}

pub record Console : Type 0 where
  pub input : List ℕ
  pub output : List ℕ

-- nothing waits
abbrev pub quiet_console : Console
quiet_console = record { input = []; output = [] }

-- bytes that wait at most in one direction
abbrev pub most_waiting : ℕ
most_waiting = 64
