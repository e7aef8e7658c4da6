use Rattle.std.proofs.Common.{◌≡◌, false, length}
use Rattle.its_stepped.specs.Unwind.{due}
use Rattle.its_in_call.proofs.owed.drop_parts.Given as goal

abbrev pub invariant-loop-owed : goal.invariant-loop-owed
invariant-loop-owed l = due false l.owed.items ≡ due false l.fn.owed.items

abbrev pub decreases-loop-owed : goal.decreases-loop-owed
decreases-loop-owed l = length l.owed.items
