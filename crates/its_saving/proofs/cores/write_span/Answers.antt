use Rattle.std.proofs.Common.{arith}
use Rattle.its_core.specs.Cores.{core_at}
use Rattle.its_saving.proofs.CellLaws.{place_all, place_cut, place_then, span_start}
use Rattle.its_saving.proofs.cores.write_span.Goals as goal

pub loop-a-init : goal.loop-a-init
loop-a-init g c = record { end = c.requires.end; taken = span_start _ _ (core_at c.args.core.now c.args.s) _ _ _ _ _ (omega arith) }

pub loop-a-preserved : goal.loop-a-preserved
loop-a-preserved g c = record {
  end = c.write_place.ensures.end;
  taken = place_then _ _ (core_at c.args.core.now c.args.s) _ _ _ _ _ _ _ _ _ _ _ c.args.from c.loop-a.a (omega (arith, c.loop-a.auto.a))
      c.loop-a.invariant.taken c.in_ok-write_place.was c.write_place.ensures.takes;
}

pub returns-clause-takes : goal.returns-clause-takes
returns-clause-takes g c = place_all _ _ (core_at c.args.core.now c.args.s) _ _ _ _ _ _ _ c.args.from c.loop-a.a c.args.end c.loop-a.invariant.taken
    (omega (arith, c.loop-a-test.false)) (c.loop-a.auto.a-end c.requires.onward)

pub returns-in_err-write_place-clause-takes : goal.returns-in_err-write_place-clause-takes
returns-in_err-write_place-clause-takes g c = place_cut _ _ (core_at c.args.core.now c.args.s) _ _ _ _ _ _ _ _ _ _ _ _ c.args.from c.loop-a.a
    c.args.end (omega (arith, c.loop-a.auto.a)) c.loop-a-test.true c.loop-a.invariant.taken c.in_err-write_place.was c.write_place.ensures.takes
    c.from_residual.ensures.0
