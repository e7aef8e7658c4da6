use Rattle.std.proofs.Common.{◌≡◌, ◌++◌, take}
use Rattle.its_commit.proofs.carrying.push_parts.Given as goal

abbrev pub invariant-loop-part : goal.invariant-loop-part
invariant-loop-part l = l.owed.items ≡ l.fn.owed.items ++ take l.part-index l.parts
