use Rattle.std.proofs.Common.{◌≡◌, take}
use Rattle.its_direct.proofs.step.asking.note_site.Given as goal

abbrev pub invariant-loop-p : goal.invariant-loop-p
invariant-loop-p l = l.decode.items ≡ take l.p-index l.p-items
