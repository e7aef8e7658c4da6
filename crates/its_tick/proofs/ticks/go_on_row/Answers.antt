use Rattle.std.proofs.Common.{◌∙◌, sym}
use Rattle.its_tick.proofs.TickLaws.{tick_call, tick_unit}
use Rattle.its_tick.proofs.ByteLaws.{running_at}
use Rattle.its_tick.proofs.StepsLaws.{quiet_at}
use Rattle.its_tick.proofs.FramesLaws.{frames_call, frames_delivery, frames_unit}
use Rattle.its_tick.proofs.ticks.go_on_row.Goals as goal

pub returns-then-has_frame-clause-row : goal.returns-then-has_frame-clause-row
returns-then-has_frame-clause-row c =
    tick_call c.args.w.now c.in_call.new.w c.args.slot c.in-Some.job.now c.in_call.result (sym c.in-Some.ensures.job) c.if-job.false c.in_call.ensures.row

pub returns-clause-row : goal.returns-clause-row
returns-clause-row c =
    tick_unit c.args.w.now c.make_unit.new.w c.args.slot c.in-Some.job.now c.make_unit.result (sym c.in-Some.ensures.job) c.if-job.false
    (sym c.has_frame.ensures ∙ c.if-has_frame.false) (sym c.deliverable.ensures ∙ c.if-deliverable.false) c.make_unit.ensures.row

pub returns-then-has_frame-clause-pages : goal.returns-then-has_frame-clause-pages
returns-then-has_frame-clause-pages c = frames_call c.args.w.now c.args.slot c.in-Some.job.now _ (sym c.in-Some.ensures.job) c.if-job.false
    c.in_call.ensures.pages

pub returns-clause-pages : goal.returns-clause-pages
returns-clause-pages c =
    frames_unit c.args.w.now c.args.slot c.in-Some.job.now _ (sym c.in-Some.ensures.job) c.if-job.false
    (sym c.has_frame.ensures ∙ c.if-has_frame.false) (sym c.deliverable.ensures ∙ c.if-deliverable.false) c.make_unit.ensures.pages

pub returns-then-deliverable-clause-pages : goal.returns-then-deliverable-clause-pages
returns-then-deliverable-clause-pages c =
    frames_delivery c.args.w.now c.args.slot c.in-Some.job.now _ (sym c.in-Some.ensures.job) c.if-job.false
    (sym c.has_frame.ensures ∙ c.if-has_frame.false) (sym c.deliverable.ensures ∙ c.if-deliverable.true) c.deliver_to.ensures.pages

pub make_unit-requires-clause-quiet : goal.make_unit-requires-clause-quiet
make_unit-requires-clause-quiet c = quiet_at _ _ (sym c.in-Some.ensures.job) (sym c.deliverable.ensures ∙ c.if-deliverable.false)

pub in_call-requires-clause-running : goal.in_call-requires-clause-running
in_call-requires-clause-running c = running_at _ _ (sym c.in-Some.ensures.job) c.if-job.false
