use Rattle.its_verify.proofs.StarsLaws.{stars_all}
use Rattle.its_verify.proofs.judge.Judge.stars_licensed.Goals as goal

pub returns-then-taken-left-clause-led : goal.returns-then-taken-left-clause-led
returns-then-taken-left-clause-led c =
    stars_all c.args.self.now c.loop-slot.self c.some_stars-taken.new.self c.args.slot c.args.more c.loop-slot.left
    c.some_stars-taken.result c.if-taken-eq0.false c.if-taken-left.true c.some_stars-taken.ensures.few
    c.loop-slot.invariant.so_far c.some_stars-taken.ensures.some
