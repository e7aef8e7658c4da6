-- Whether a test stops a transfer, and the decision that it then makes.
use Rattle.std.specs.Prelude.{◌≡◌, Option, Some, None}
use Rattle.std.proofs.Common.{sym}
use Rattle.its_frame.specs.declared.decision.Decision.{Decision}

pub stopped_so : (o : Option Decision) (d : Decision) → o ≡ Some d → Some d ≡ o
stopped_so o d e = sym e

pub stopped_not : (o : Option Decision) → o ≡ None → None ≡ o
stopped_not o e = sym e
