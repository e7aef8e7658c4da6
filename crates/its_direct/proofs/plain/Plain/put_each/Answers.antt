use Rattle.std.proofs.Common.{refl}
use Rattle.its_direct.proofs.EachLaws.{putting_more, putting_room}
use Rattle.its_direct.proofs.plain.Plain.put_each.Goals as goal

pub put-requires-clause-room : goal.put-requires-clause-room
put-requires-clause-room c = putting_room c.args.self.now c.loop-k.self c.args.c c.loop-k.k _ 0 c.args.bytes.now c.loop-k.invariant.putting
    c.loop-k-test.true refl

pub loop-k-preserved : goal.loop-k-preserved
loop-k-preserved c = record {
  putting = putting_more c.args.self.now c.loop-k.self c.args.c c.loop-k.k _ 0 c.args.bytes.now c.loop-k.invariant.putting
      c.loop-k-test.true refl c.put.new.self c.put.ensures.row c.put.ensures.tidy;
}
