use Rattle.its_decide.specs.Called.{looks}
use Rattle.its_decide.proofs.LinkLaws.{opens_past}
use Rattle.its_decide.proofs.caller.Caller.open_link.Goals as goal

pub returns : goal.returns
returns c =
    opens_past (looks c.args.self.now) c.args.self.now.ask.now c.value.result c.input-number.result c.control-control.result
    c.is_free.result c.opens_end.result
    c.value.ensures.value c.input-number.ensures c.control-control.ensures c.is_free.ensures c.if-not-is_free.false c.if-control-gt1.false c.opens_end.ensures
