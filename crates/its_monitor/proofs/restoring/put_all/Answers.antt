use Rattle.std.specs.Prelude.{true}
use Rattle.its_monitor.proofs.ByteLineLaws.{next_at, done_at}
use Rattle.its_monitor.proofs.restoring.put_all.Goals as goal

pub loop-b-preserved : goal.loop-b-preserved
loop-b-preserved c = record {
  left = next_at c.args.c true c.args.bytes.now c.args.w.now c.loop-b.w c.loop-b.b-index c.loop-b.invariant.left c.put_one.new.w
      c.loop-b-test.true c.put_one.ensures;
}

pub returns-clause-done : goal.returns-clause-done
returns-clause-done c = done_at c.args.c true c.args.bytes.now c.args.w.now c.loop-b.w c.loop-b.b-index c.loop-b.invariant.left c.loop-b-test.false
