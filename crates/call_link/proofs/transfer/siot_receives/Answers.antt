-- A test stops it, or a word is received.
use Rattle.std.specs.Prelude.{false}
use Rattle.its_plain.specs.Machine.View.{view}
use Rattle.its_world.specs.World.{state_of}
use Rattle.its_plain.specs.Call.Arguments.{input}
use Rattle.its_plain.specs.Call.Link.{is_ended, siot_receive}
use Rattle.call_basic.specs.Seen.{seen_by}
use Rattle.call_basic.proofs.PartLaws.{part_moves, part_stops}
use Rattle.its_plain.specs.Call.Transfer.{next_pointer}
use Rattle.call_link.proofs.transfer.siot_receives.Goals as goal

pub returns-in-Err : goal.returns-in-Err
unfolding view state_of
returns-in-Err c =
    let v = seen_by c.args.w.now c.args.slot c.args.job.now c.args.ask.now in
    let a = c.args.ask.now in
    part_stops v c.args.job.now a false c.is_ended.result c.next_byte.result (c.next_byte.ensures.stops c.args.job.now)
    (is_ended (v.links c.args.link)) c.in-Err.stop (siot_receive v (next_pointer (input a 1)) (input a 2) c.args.link) c.is_ended.ensures c.in-Err.is

pub returns-in-Ok : goal.returns-in-Ok
unfolding view state_of
returns-in-Ok c =
    let v = seen_by c.args.w.now c.args.slot c.args.job.now c.args.ask.now in
    let a = c.args.ask.now in
    part_moves v c.args.job.now a false c.is_ended.result c.next_byte.result (c.next_byte.ensures.stops c.args.job.now)
    (is_ended (v.links c.args.link)) c.in-Ok.next (λ n. siot_receive v n (input a 2) c.args.link) _ c.is_ended.ensures c.in-Ok.is
    c.next_byte.ensures.next c.siot_receive.ensures
