-- A test stops it, or a byte is moved.
use Rattle.std.specs.Prelude.{false, refl, unwrap_or}
use Rattle.its_plain.specs.Call.Arguments.{input}
use Rattle.its_plain.specs.Call.Tty.{siot_in}
use Rattle.call_basic.specs.Seen.{seen_by}
use Rattle.call_basic.proofs.PartLaws.{part_moves, part_stops}
use Rattle.its_plain.specs.Call.Transfer.{next_pointer}
use Rattle.call_tty.proofs.transfer.siot_in.Goals as goal

pub returns-in-Err : goal.returns-in-Err
returns-in-Err c =
    let v = seen_by c.args.w.now c.args.slot c.args.job.now c.args.ask.now in
    let a = c.args.ask.now in
    part_stops v c.args.job.now a false false c.next_byte.result (c.next_byte.ensures.stops c.args.job.now) false c.in-Err.stop
    (siot_in v a (next_pointer (input a 1)) (input a 2) (unwrap_or c.args.job.now.console 0)) refl c.in-Err.is

pub returns-in-Ok : goal.returns-in-Ok
returns-in-Ok c =
    let v = seen_by c.args.w.now c.args.slot c.args.job.now c.args.ask.now in
    let a = c.args.ask.now in
    part_moves v c.args.job.now a false false c.next_byte.result (c.next_byte.ensures.stops c.args.job.now) false c.in-Ok.next
    (λ n. siot_in v a n (input a 2) (unwrap_or c.args.job.now.console 0)) _ refl c.in-Ok.is c.next_byte.ensures.next c.takes_byte.ensures
