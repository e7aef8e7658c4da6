use Rattle.std.proofs.Common.{ℕ, slice_set, subst, rules}
use Rattle.its_verify.specs.JudgeState.{Forgets}
use Rattle.its_verify.proofs.JudgeStateLaws.{step_led, step_not_led}
use Rattle.its_verify.proofs.judge.Judge.takes_step.Goals as goal

pub returns-then-not-step-clause-led : goal.returns-then-not-step-clause-led
returns-then-not-step-clause-led c = step_not_led c.step.result c.args.self.now c.step.new.self c.args.slot (search rules) c.step.ensures.row

pub returns-clause-led : goal.returns-clause-led
returns-clause-led c =
    step_led c.step.result c.args.self.now c.forget_touched.new.self c.step.new.self c.args.slot (search rules) c.step.ensures.row (search rules)
    (subst (λ (i : ℕ). Forgets c.step.new.self (slice_set c.args.self.now.dots i 0) c.forget_touched.new.self.dots) c.index.ensures.value
    c.forget_touched.ensures.dots)
    (search rules)
