-- How much can have been read of a source that failed: no line that the answer rests on was already
-- over its limit.
-- No promise rests on this.
use Rattle.std.specs.Prelude.{◌≡◌, ◌≤◌, ℕ, Bool, true, List, [], length, nat_le}
use Rattle.std.specs.List.{list_all}
use Rattle.its_session.specs.Events.{lines_from, most_lines}

-- a line that is not too long
abbrev pub is_short : List ℕ → Bool
is_short line = nat_le (length line) 255

-- no line of these bytes is too long, and none is past the most. The last one counts, although it
-- may go on
pub record WithinLimits (bytes : List ℕ) : Type 0 where
  pub short : list_all is_short (lines_from true [] bytes) ≡ true
  pub few : length (lines_from true [] bytes) ≤ most_lines
