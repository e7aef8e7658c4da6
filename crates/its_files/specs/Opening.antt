-- A store at its opening: every block is free, and no number has words.
-- No promise rests on this.
use Rattle.std.specs.Prelude.{◌+◌, ℕ, List, [], slice_set}
use Rattle.std.specs.List.{range_with_len}
use Rattle.its_links.specs.Lists.{no_lists}
use Rattle.its_files.specs.Blocks.{Stored, numbers, blocks}
use Rattle.its_word.specs.Table.{filled}

-- the numbers below n; opaque, as n may be large
unfoldable pub up_to : ℕ → List ℕ
up_to n = range_with_len 0 n

-- lists of m heads: the first has the nodes below n, the others are empty
abbrev pub first_has : ℕ → ℕ → List (List ℕ)
first_has m n = slice_set (no_lists m) 0 (up_to n)

-- no number has words, and all blocks are free, in the order of their numbers
abbrev pub nothing_stored : Stored
nothing_stored = record { texts = filled numbers []; chains = first_has (numbers + 1) blocks }
