-- A test stops it, or a word is moved.
use Rattle.std.specs.Prelude.{true}
use Rattle.std.proofs.Common.{sym, ◌∙◌}
use Rattle.its_plain.specs.Call.Arguments.{input}
use Rattle.its_plain.specs.Call.Transfer.{next_pointer}
use Rattle.its_plain.specs.Call.Usr.{at_end, siot_pokes}
use Rattle.call_basic.specs.Seen.{seen_by}
use Rattle.its_shared.proofs.StopLaws.{siot_stops}
use Rattle.call_usr.proofs.transfer.siot_into.Goals as goal

pub returns-in-Some : goal.returns-in-Some
returns-in-Some c =
    let v = seen_by c.args.w.now c.args.slot c.args.job.now c.args.ask.now in
    let a = c.args.ask.now in
    siot_stops v a true (at_end c.args.at) c.at_end.result (siot_pokes v a (next_pointer (input a 1)) (input a 2) (input a 0)
    c.args.inferior c.args.at) c.at_end.ensures
    c.in-Some.decision (sym c.stopped.ensures ∙ c.in-Some.is)
