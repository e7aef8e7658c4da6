use Rattle.std.proofs.Common.{sym, subst, Bool}
use Rattle.its_jobs.specs.Table.{superior_at}
use Rattle.its_plain.specs.Call.Step.{acted}
use Rattle.its_decide.specs.Reach.{slots_of}
use Rattle.its_direct.specs.Plain.{machine_of}
use Rattle.its_direct.specs.Steps.{Makes}
use Rattle.its_direct.proofs.CallStepLaws.{act_steps, act_waits}
use Rattle.its_direct.proofs.plain.Plain.act_widely.Goals as goal

pub returns-then-made-clause-row : goal.returns-then-made-clause-row
returns-then-made-clause-row c =
    let m = machine_of c.args.self.now in
    let ks = slots_of c.args.disturbed m c.args.slot (superior_at c.args.self.now.jobs c.args.slot) in
    subst (λ (b : Bool). Makes b (acted m c.args.slot c.args.ask.now ks c.args.decision) c.args.self.now c.mark.new.self) (sym c.if-made.true)
    (act_steps c.args.self.now c.carry_out-made.new.self c.mark.new.self c.args.slot c.args.ask.now ks c.args.decision _ _ _
    c.marks_of-marks.ensures c.standing-stood.ensures c.mark.ensures.same c.mark.ensures.touched c.carry_out-made.ensures.row c.if-made.true)

pub returns-else-made-clause-row : goal.returns-else-made-clause-row
returns-else-made-clause-row c =
    let m = machine_of c.args.self.now in
    let ks = slots_of c.args.disturbed m c.args.slot (superior_at c.args.self.now.jobs c.args.slot) in
    subst (λ (b : Bool). Makes b (acted m c.args.slot c.args.ask.now ks c.args.decision) c.args.self.now c.carry_out-made.new.self) (sym c.if-made.false)
    (act_waits c.args.self.now c.carry_out-made.new.self c.args.slot c.args.ask.now ks c.args.decision _ c.carry_out-made.ensures.row c.if-made.false)
