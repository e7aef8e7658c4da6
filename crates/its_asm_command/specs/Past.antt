-- Which assembly texts are too long (docs/ASM.md, "The command").
-- A promise rests on this.
use Rattle.std.specs.Prelude.{◌&&◌, ℕ, Bool, List, length, nat_le, nat_lt}
use Rattle.std.specs.List.{position_or_len}
use Rattle.its_session.specs.Events.{most_lines}
use Rattle.its_asm.specs.Assembly.{lines_of}

abbrev pub is_long : List ℕ → Bool
is_long line = nat_lt 255 (length line)

-- a line past the most that a text may have begins, and no line before it has more than 255 bytes
abbrev pub past_most : List (List ℕ) → Bool
past_most lines = nat_lt most_lines (length lines) && nat_le most_lines (position_or_len is_long lines)

unfoldable pub runs_past : List ℕ → Bool
runs_past text = past_most (lines_of text)
