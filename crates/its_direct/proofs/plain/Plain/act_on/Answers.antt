use Rattle.std.proofs.Common.{sym, ◌∙◌, subst, Bool}
use Rattle.its_plain.specs.Call.Step.{acted}
use Rattle.its_plain.specs.Call.Decide.{listed}
use Rattle.its_direct.specs.Plain.{machine_of}
use Rattle.its_direct.specs.Steps.{Makes}
use Rattle.its_direct.proofs.CallStepLaws.{act_alone, act_waits}
use Rattle.its_direct.proofs.plain.Plain.act_on.Goals as goal

pub returns-then-made-clause-row : goal.returns-then-made-clause-row
returns-then-made-clause-row c =
    let m = machine_of c.args.self.now in
    let ks = listed c.args.target in
    subst (λ (b : Bool). Makes b (acted m c.args.slot c.args.ask.now ks c.args.decision) c.args.self.now c.touch_target.new.self) (sym c.if-made.true)
    (act_alone c.args.self.now c.carry_out-made.new.self c.touch_target.new.self c.args.slot c.args.ask.now ks c.args.decision _
    (sym c.makes_job.ensures ∙ c.if-makes_job.false)
    c.touch_target.ensures.same c.touch_target.ensures.touched c.carry_out-made.ensures.row c.if-made.true)

pub returns-else-made-clause-row : goal.returns-else-made-clause-row
returns-else-made-clause-row c =
    let m = machine_of c.args.self.now in
    let ks = listed c.args.target in
    subst (λ (b : Bool). Makes b (acted m c.args.slot c.args.ask.now ks c.args.decision) c.args.self.now c.carry_out-made.new.self) (sym c.if-made.false)
    (act_waits c.args.self.now c.carry_out-made.new.self c.args.slot c.args.ask.now ks c.args.decision _ c.carry_out-made.ensures.row c.if-made.false)
