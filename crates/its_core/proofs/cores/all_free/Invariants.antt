use Rattle.std.proofs.Common.{◌≡◌, ◌+◌, slice_set}
use Rattle.its_word.specs.Limits.{slots}
use Rattle.its_links.specs.Lists.{no_lists}
use Rattle.its_core.specs.Frames.{all_frames, numbers}
use Rattle.its_core.proofs.cores.all_free.Given as goal

abbrev pub invariant-loop-frame : goal.invariant-loop-frame
invariant-loop-frame l = l.lists ≡ record { nodes = all_frames; lists = slice_set (no_lists (slots + 1)) 0 (numbers l.frame) }
