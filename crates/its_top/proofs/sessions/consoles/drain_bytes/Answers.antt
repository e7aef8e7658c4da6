use Rattle.std.proofs.Common.{◌∙◌, sym, arith}
use Rattle.its_top.proofs.ConsoleLaws.{draining_some, draining_stop}
use Rattle.its_top.proofs.sessions.consoles.drain_bytes.Goals as goal

pub loop-k-preserved : goal.loop-k-preserved
loop-k-preserved c = record {
  sound = c.drain.ensures.kept;
  few = omega (arith, c.push.ensures.len, c.loop-k.invariant.few);
  so_far = draining_some _ _ _ _ _ _ _ _ _ c.loop-k-test.true c.loop-k.invariant.so_far c.drain.ensures.done
      (sym c.in-Some.is ∙ c.drain.ensures.first) c.push.ensures.items;
}

pub returns-in-None-clause-bytes : goal.returns-in-None-clause-bytes
returns-in-None-clause-bytes c = (draining_stop _ _ _ _ _ _ _ c.loop-k.invariant.so_far c.drain.ensures.done (sym c.in-None.is ∙ c.drain.ensures.first)).0

pub returns-in-None-clause-done : goal.returns-in-None-clause-done
returns-in-None-clause-done c = (draining_stop _ _ _ _ _ _ _ c.loop-k.invariant.so_far c.drain.ensures.done (sym c.in-None.is ∙ c.drain.ensures.first)).1
