-- A test stops it, or a word is moved.
use Rattle.std.specs.Prelude.{true, not, is_some, unwrap_or}
use Rattle.std.proofs.Common.{◌∙◌, ap}
use Rattle.its_plain.specs.Call.Arguments.{input}
use Rattle.its_plain.specs.Call.File.{siot_reads, siot_read}
use Rattle.its_plain.specs.Call.Transfer.{next_pointer}
use Rattle.its_plain.specs.Machine.View.{view}
use Rattle.its_world.specs.World.{state_of}
use Rattle.call_basic.specs.Seen.{seen_by}
use Rattle.call_basic.proofs.PartLaws.{part_few, part_moves, part_stops}
use Rattle.its_shared.proofs.StopLaws.{ended}
use Rattle.call_file.proofs.transfer.siot_reads.Goals as goal

pub siot_read-requires-clause-few : goal.siot_read-requires-clause-few
siot_read-requires-clause-few c =
    part_few (seen_by c.args.w.now c.args.slot c.args.job.now c.args.ask.now) c.args.job.now c.args.ask.now c.is_none.result
    c.next_byte.result c.args.at c.in-Ok.next c.word_at-word.result
    (c.next_byte.ensures.stops c.args.job.now) c.in-Ok.is c.is_none.ensures c.word_at-word.ensures.few

pub returns-in-Err : goal.returns-in-Err
unfolding view state_of
returns-in-Err c =
    let v = seen_by c.args.w.now c.args.slot c.args.job.now c.args.ask.now in
    let a = c.args.ask.now in
    let o = c.word_at-word.result in
    part_stops v c.args.job.now a true c.is_none.result c.next_byte.result (c.next_byte.ensures.stops c.args.job.now) (not (is_some o)) c.in-Err.stop
    (siot_read v (next_pointer (input a 1)) (input a 2) (input a 0) c.args.at (unwrap_or o 0)) (ended o c.is_none.result c.is_none.ensures) c.in-Err.is
    ∙ ap (siot_reads v a (input a 0) c.args.at) c.word_at-word.ensures.word

pub returns-in-Ok : goal.returns-in-Ok
unfolding view state_of
returns-in-Ok c =
    let v = seen_by c.args.w.now c.args.slot c.args.job.now c.args.ask.now in
    let a = c.args.ask.now in
    let o = c.word_at-word.result in
    part_moves v c.args.job.now a true c.is_none.result c.next_byte.result (c.next_byte.ensures.stops c.args.job.now) (not (is_some o)) c.in-Ok.next
    (λ n. siot_read v n (input a 2) (input a 0) c.args.at (unwrap_or o 0)) _ (ended o c.is_none.result c.is_none.ensures) c.in-Ok.is c.next_byte.ensures.next
    (c.siot_read.ensures ∙ ap (siot_read v c.in-Ok.next (input a 2) (input a 0) c.args.at) c.unwrap_or.ensures)
    ∙ ap (siot_reads v a (input a 0) c.args.at) c.word_at-word.ensures.word
