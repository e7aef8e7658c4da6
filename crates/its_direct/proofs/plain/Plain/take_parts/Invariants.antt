use Rattle.std.proofs.Common.{◌≡◌}
use Rattle.its_direct.specs.Events.{Kept}
use Rattle.its_direct.specs.Parts.{AtCall, InParts}
use Rattle.its_direct.specs.Plain.{machine_of}
use Rattle.its_direct.proofs.plain.Plain.take_parts.Given as goal

abbrev pub invariant-loop-made : goal.invariant-loop-made
invariant-loop-made l = record {
  place : l.self.place ≡ l.fn.self.place;
  touched : l.self.touched ≡ l.fn.self.touched;
  kept : Kept l.self;
  at : AtCall (machine_of l.self) l.slot l.ask;
  parts : InParts l.made (machine_of l.fn.self) l.slot (machine_of l.self);
}
