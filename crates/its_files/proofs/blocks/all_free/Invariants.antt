use Rattle.std.proofs.Common.{◌≡◌, ℕ, ◌≤◌, length}
use Rattle.its_links.specs.Lists.{times}
use Rattle.its_files.specs.Opening.{first_has}
use Rattle.its_files.proofs.blocks.all_free.Given as goal

abbrev pub invariant-loop-block : goal.invariant-loop-block
invariant-loop-block l = (l.links ≡ record { nodes = l.n; lists = first_has l.heads l.block }) × (length l.links.lists ≡ l.heads)
    × ((x : ℕ) → l.block ≤ x → times x l.links.lists ≡ 0)
