use Rattle.std.proofs.Common.{rules}
use Rattle.its_commit.proofs.IdleLaws.{can_poked}
use Rattle.test_decisions.proofs.removals.poked.Goals as goal

pub apply-requires-clause-can : goal.apply-requires-clause-can
apply-requires-clause-can g c = can_poked c.args.w.now c.args.caller c.args.slot c.args.at 0 (search rules) c.requires.at (search rules)
    c.requires.tidy (search rules)
