use Rattle.std.proofs.Common.{◌≡◌, take}
use Rattle.its_decode.proofs.asking.copy_places.Given as goal

abbrev pub invariant-loop-p : goal.invariant-loop-p
invariant-loop-p l = l.to.items ≡ take l.p-index l.p-items
