use Rattle.std.proofs.Common.{◌+◌, ap, refl}
use Rattle.its_direct.proofs.ConsoleLaws.{typing_begins, typing_ends, typing_more}
use Rattle.its_direct.proofs.lines.consoles.type_all.Goals as goal

pub loop-b-init : goal.loop-b-init
loop-b-init c = record { typing = typing_begins _ _ _ c.waiting.ensures.input c.waiting.ensures.most.0 }

pub loop-b-preserved : goal.loop-b-preserved
loop-b-preserved c = record {
  typing =
      typing_more _ _ _ 0 _ _ _ _ c.loop-b.invariant.typing refl c.loop-b-test.true _ _ c.type_in-kept.ensures.taken
      c.type_in-kept.ensures.typed c.type_in-kept.ensures.same
      (ap (λ n. c.loop-b.dropped + n) c.lost-dropped.ensures.lost);
}

pub returns-clause-dropped : goal.returns-clause-dropped
returns-clause-dropped c = (typing_ends _ _ _ _ _ c.loop-b.invariant.typing c.loop-b-test.false c.loop-b.auto.b-index-end).0

pub returns-clause-typed : goal.returns-clause-typed
returns-clause-typed c = (typing_ends _ _ _ _ _ c.loop-b.invariant.typing c.loop-b-test.false c.loop-b.auto.b-index-end).1
