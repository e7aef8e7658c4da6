use Rattle.its_saving.specs.Keeping.{SlotsTo}
use Rattle.its_saving.proofs.keeping.keep_slots.Given as goal

abbrev pub invariant-loop-s : goal.invariant-loop-s
invariant-loop-s l = SlotsTo l.w l.s
