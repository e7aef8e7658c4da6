use Rattle.std.proofs.Common.{◌≡◌, ◌+◌, arith, length, sym, subst}
use Rattle.its_session.specs.Generated.{for_each, echoed}
use Rattle.its_session.proofs.GeneratedLaws.{past_round}
use Rattle.its_session.proofs.generator.round.Goals as goal

pub returns : goal.returns
returns c =
    let all : c.loop-c.c ≡ 8 = omega arith in
    let passed : length (for_each 8 (echoed c.args.r)) + c.loop-c.left ≡ c.args.k =
    subst (λ j. length (for_each j (echoed c.args.r)) + c.loop-c.left ≡ c.args.k) all c.loop-c.invariant.passed in
    sym (past_round c.args.r c.loop-c.left c.args.k passed)
