use Rattle.its_direct.proofs.EachLaws.{sending_more, sending_room, sending_stands}
use Rattle.its_direct.proofs.plain.Plain.send_each.Goals as goal

pub send-requires-clause-stands : goal.send-requires-clause-stands
send-requires-clause-stands c = sending_stands c.args.self.now c.loop-k.self c.args.l c.loop-k.k _ _ c.args.words.now c.loop-k.invariant.sending
    c.loop-k-test.true c.index-words-k.is

pub send-requires-clause-room : goal.send-requires-clause-room
send-requires-clause-room c = sending_room c.args.self.now c.loop-k.self c.args.l c.loop-k.k _ _ c.args.words.now c.loop-k.invariant.sending
    c.loop-k-test.true c.index-words-k.is

pub loop-k-preserved : goal.loop-k-preserved
loop-k-preserved c = record {
  sending = sending_more c.args.self.now c.loop-k.self c.args.l c.loop-k.k _ _ c.args.words.now c.loop-k.invariant.sending
      c.loop-k-test.true c.index-words-k.is c.send.new.self c.send.ensures.row c.send.ensures.tidy;
}
