use Rattle.std.proofs.Common.{◌≡◌}
use Rattle.its_direct.specs.Steps.{marked_by}
use Rattle.its_direct.proofs.CallStepLaws.{Marked}
use Rattle.its_direct.proofs.plain.Plain.mark.Given as goal

abbrev pub invariant-loop-k : goal.invariant-loop-k
invariant-loop-k l = record {
  same : l.self ≡ record l.fn.self { touched = l.self.touched };
  marked : Marked (marked_by l.disturbed l.stood l.fn.self) l.k l.self.touched;
}
