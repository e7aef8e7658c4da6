use Rattle.std.proofs.Common.{arith, refl}
use Rattle.its_top.proofs.ConsoleLaws.{typing_room, typing_full}
use Rattle.its_top.proofs.sessions.consoles.type_bytes.Goals.{then-not-type_in, else-not-type_in}
use Rattle.its_top.proofs.sessions.consoles.type_bytes.Goals as goal

pub loop-b-preserved : goal.loop-b-preserved
loop-b-preserved c = elim c.if-not-type_in.branch [
  | then-not-type_in w ↦ record {
    sound = c.type_in.ensures.kept;
    few = omega (arith, w.count-is, c.loop-b.invariant.few);
    so_far = typing_full _ _ _ _ _ _ _ _ _ _ c.loop-b-test.true refl c.loop-b.invariant.so_far c.type_in.ensures.done
        c.type_in.ensures.waits w.if-not-type_in.true w.count-is;
  }
  | else-not-type_in w ↦ record {
    sound = c.type_in.ensures.kept;
    few = omega (arith, w.count-is, c.loop-b.invariant.few);
    so_far = typing_room _ _ _ _ _ _ _ _ _ _ c.loop-b-test.true refl c.loop-b.invariant.so_far c.type_in.ensures.done
        c.type_in.ensures.waits w.if-not-type_in.false w.count-is;
  }
]
