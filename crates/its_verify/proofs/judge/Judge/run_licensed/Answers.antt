use Rattle.std.proofs.Common.{◌∷◌, replicate, rules}
use Rattle.its_verify.proofs.LettersLaws.{run_stops}
use Rattle.its_verify.proofs.judge.Judge.run_licensed.Goals as goal

pub returns-then-not-licensed-2-clause-led : goal.returns-then-not-licensed-2-clause-led
returns-then-not-licensed-2-clause-led c =
    run_stops c.args.self.now c.loop-k.self c.licensed-in-loop-k.new.self c.args.slot c.args.run.more c.loop-k._k
    (c.args.run.pace ∷ replicate c.args.run.more c.args.run.pace) c.args.run.pace c.licensed-in-loop-k.result c.loop-k-test.true
    c.loop-k.invariant.so_far (search rules) c.licensed-in-loop-k.ensures.led
