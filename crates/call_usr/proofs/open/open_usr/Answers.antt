-- No test stops it.
use Rattle.std.proofs.Common.{sym, ◌∙◌, ap}
use Rattle.call_basic.specs.Channels.{is_free}
use Rattle.call_usr.proofs.NameLaws.{opens_goes}
use Rattle.call_usr.proofs.open.open_usr.Goals as goal

pub returns : goal.returns
returns c =
    c.opens_job.ensures
    ∙ opens_goes c.args.w.now c.args.slot c.args.job.now c.args.ask.now c.value.result c.control-control.result
    (c.value.ensures.value ∙ c.input-number.ensures) c.control-control.ensures
    (ap (is_free c.args.job.now) (sym c.input-number.ensures) ∙ sym c.is_free.ensures ∙ c.if-not-is_free.false) c.if-control-gt1.false
