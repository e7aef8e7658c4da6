-- An inferior, through a channel that has leave to write.
use Rattle.std.proofs.Common.{sym, ◌∙◌, ap, arith}
use Rattle.its_plain.specs.Call.Basic.{is_oneself}
use Rattle.its_shared.specs.Called.{channel_under}
use Rattle.call_core.proofs.OtherLaws.{through}
use Rattle.call_core.proofs.pages.corblk.Goals as goal

pub returns-in-Usr-default-true-default : goal.returns-in-Usr-default-true-default
returns-in-Usr-default-true-default c =
    let h = c.in-Usr-default-true-default in
    (rw c.new.ensures at c.pages_of-in-Usr-default-true-default.ensures)
    ∙ through c.args.w.now c.args.slot c.args.job.now c.args.ask.now h.inferior h.at h.write c.requires.tidy c.requires.fail c.requires.name
    (omega arith)
    (sym (c.is_oneself.ensures ∙ ap is_oneself c.input-party.ensures) ∙ c.if-is_oneself.false)
    (ap (channel_under c.args.job.now) (sym c.input-party.ensures) ∙ sym c.channel.ensures ∙ h.is)
    h.write-test
