use Rattle.std.proofs.Common.{not, refl}
use Rattle.its_verify.proofs.JudgeStateLaws.{led_beside}
use Rattle.its_verify.proofs.judge.Judge.licensed.Goals as goal

pub returns-clause-led : goal.returns-clause-led
returns-clause-led c =
    led_beside c.takes-licensed.result c.args.self.now c.takes-licensed.new.self
    (record { plain = c.takes-licensed.new.self.plain; dots = c.takes-licensed.new.self.dots; ended = not c.takes-licensed.result })
    c.args.slot c.args.pace refl refl c.takes-licensed.ensures.led
