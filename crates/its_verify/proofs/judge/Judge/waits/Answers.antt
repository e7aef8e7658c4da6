use Rattle.std.proofs.Common.{refl, rules}
use Rattle.its_verify.proofs.JudgeStateLaws.{waited}
use Rattle.its_verify.proofs.judge.Judge.waits.Goals as goal

pub returns-clause-led : goal.returns-clause-led
returns-clause-led c =
    waited c.step.result c.args.self.now (record { plain = c.step.new.self; dots = c.args.self.now.dots; ended = c.args.self.now.ended })
    c.args.slot (search rules) c.step.ensures.row refl
