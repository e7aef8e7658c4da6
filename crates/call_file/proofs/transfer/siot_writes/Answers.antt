-- A test stops it, or a word is moved.
use Rattle.std.specs.Prelude.{true, false, refl}
use Rattle.its_files.specs.Files.{file_at}
use Rattle.its_plain.specs.Call.Arguments.{input}
use Rattle.its_plain.specs.Call.File.{siot_write}
use Rattle.call_basic.specs.Seen.{seen_by}
use Rattle.call_basic.proofs.PartLaws.{part_moves, part_stops, part_sized}
use Rattle.its_plain.specs.Call.Transfer.{next_pointer}
use Rattle.call_file.proofs.transfer.siot_writes.Goals as goal

pub siot_write-requires-clause-size : goal.siot_write-requires-clause-size
siot_write-requires-clause-size c =
    let v = seen_by c.args.w.now c.args.slot c.args.job.now c.args.ask.now in
    let a = c.args.ask.now in
    part_sized v c.args.job.now a true false c.next_byte.result (c.next_byte.ensures.stops c.args.job.now) c.in-Ok.next c.in-Ok.is c.next_byte.ensures.next

pub returns-in-Err : goal.returns-in-Err
returns-in-Err c =
    let v = seen_by c.args.w.now c.args.slot c.args.job.now c.args.ask.now in
    let a = c.args.ask.now in
    part_stops v c.args.job.now a true false c.next_byte.result (c.next_byte.ensures.stops c.args.job.now) false c.in-Err.stop
    (siot_write v a (next_pointer (input a 1)) (input a 2) (input a 0) (file_at c.args.w.now.files c.args.draft)) refl c.in-Err.is

pub returns-in-Ok : goal.returns-in-Ok
returns-in-Ok c =
    let v = seen_by c.args.w.now c.args.slot c.args.job.now c.args.ask.now in
    let a = c.args.ask.now in
    part_moves v c.args.job.now a true false c.next_byte.result (c.next_byte.ensures.stops c.args.job.now) false c.in-Ok.next
    (λ n. siot_write v a n (input a 2) (input a 0) (file_at c.args.w.now.files c.args.draft)) _ refl c.in-Ok.is c.next_byte.ensures.next
    c.siot_write.ensures
