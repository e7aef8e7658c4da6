use Rattle.std.proofs.Common.{◌≡◌, Some, slice_get}
use Rattle.its_files.specs.Blocks.{blocks_of}
use Rattle.its_files.proofs.blocks.block_at.Given as goal

abbrev pub invariant-loop-at : goal.invariant-loop-at
invariant-loop-at l = slice_get (blocks_of l.links.lists l.id) l._at ≡ Some l.block
