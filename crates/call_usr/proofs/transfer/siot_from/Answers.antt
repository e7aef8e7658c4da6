-- A test stops it, or a word is moved.
use Rattle.std.specs.Prelude.{true}
use Rattle.std.proofs.Common.{sym, ◌∙◌, ap}
use Rattle.its_word.specs.Core.{word_at}
use Rattle.its_plain.specs.Call.Arguments.{input}
use Rattle.its_plain.specs.Call.Transfer.{next_pointer}
use Rattle.its_plain.specs.Call.Usr.{at_end, other_core, siot_peeks}
use Rattle.call_basic.specs.Seen.{seen_by}
use Rattle.its_shared.proofs.StopLaws.{siot_goes, siot_stops}
use Rattle.call_usr.proofs.OtherLaws.{other_here}
use Rattle.call_usr.proofs.transfer.siot_from.Goals as goal

pub returns-in-Some : goal.returns-in-Some
returns-in-Some c =
    let v = seen_by c.args.w.now c.args.slot c.args.job.now c.args.ask.now in
    let a = c.args.ask.now in
    siot_stops v a true (at_end c.args.at) c.at_end.result (siot_peeks v a (next_pointer (input a 1)) (input a 2) (input a 0) c.args.at
    (word_at (other_core v) c.args.at)) c.at_end.ensures
    c.in-Some.decision (sym c.stopped.ensures ∙ c.in-Some.is)

pub returns-in-None : goal.returns-in-None
returns-in-None c =
    let v = seen_by c.args.w.now c.args.slot c.args.job.now c.args.ask.now in
    let a = c.args.ask.now in
    let peeks = siot_peeks v a (next_pointer (input a 1)) (input a 2) (input a 0) c.args.at in
    c.siot_peeks.ensures
    ∙ ap peeks ((rw c.new.ensures at c.word.ensures.word) ∙ ap (λ x. word_at x c.args.at)
    (sym (other_here c.args.w.now c.args.slot c.args.job.now a c.args.inferior c.requires.targets)))
    ∙ siot_goes v a true (at_end c.args.at) c.at_end.result (peeks (word_at (other_core v) c.args.at)) c.at_end.ensures (sym c.stopped.ensures ∙ c.in-None.is)
