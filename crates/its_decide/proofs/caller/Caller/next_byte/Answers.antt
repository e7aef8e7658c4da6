-- A test stops it, or none does.
use Rattle.std.proofs.Common.{sym, ◌∙◌, ap}
use Rattle.its_word.specs.Byte.{has_size}
use Rattle.its_plain.specs.Call.Arguments.{input}
use Rattle.its_plain.specs.Call.Transfer.{next_pointer, siot_tests}
use Rattle.its_decide.specs.Called.{looks}
use Rattle.its_decide.specs.Moving.{halted, halted_by}
use Rattle.its_shared.proofs.StopLaws.{next_left, not_ended, stopped, unstopped}
use Rattle.its_decide.proofs.caller.Caller.next_byte.Goals as goal

pub returns-in-Some-clause-stops : goal.returns-in-Some-clause-stops
returns-in-Some-clause-stops c = λ m.
    let a = c.args.self.now.ask.now in
    stopped (siot_tests (looks c.args.self.now) a (input a 1) (input a 2) c.args.words c.args.at_end)
    (halted (looks c.args.self.now) a c.in-Some.halt) m (sym c.stop.ensures ∙ ap (halted_by (looks c.args.self.now) a) c.in-Some.is)

pub returns-in-None-clause-next : goal.returns-in-None-clause-next
returns-in-None-clause-next c =
    let e = c.next_pointer.ensures ∙ ap next_pointer c.input.ensures in (
      e,
      ap has_size e ∙ next_left (looks c.args.self.now) c.args.self.now.ask.now c.args.words c.args.at_end
          (sym c.stop.ensures ∙ ap (halted_by (looks c.args.self.now) c.args.self.now.ask.now) c.in-None.is),
    )

pub returns-in-None-clause-left : goal.returns-in-None-clause-left
returns-in-None-clause-left c = not_ended (looks c.args.self.now) c.args.self.now.ask.now c.args.words c.args.at_end
    (sym c.stop.ensures ∙ ap (halted_by (looks c.args.self.now) c.args.self.now.ask.now) c.in-None.is)

pub returns-in-None-clause-goes : goal.returns-in-None-clause-goes
returns-in-None-clause-goes c = λ m.
    let a = c.args.self.now.ask.now in
    unstopped (siot_tests (looks c.args.self.now) a (input a 1) (input a 2) c.args.words c.args.at_end) m
    (sym c.stop.ensures ∙ ap (halted_by (looks c.args.self.now) a) c.in-None.is)
