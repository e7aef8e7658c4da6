use Rattle.its_direct.proofs.EffectLaws.{Clearing}
use Rattle.its_direct.proofs.changes.effects.clear_quarters.Given as goal

abbrev pub invariant-loop-q : goal.invariant-loop-q
invariant-loop-q l = Clearing l.fn.core l.core l.slot l.q
