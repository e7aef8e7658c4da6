use Rattle.its_commit.proofs.RemovalLaws.{sweeps_gone, sweeps_left}
use Rattle.its_commit.proofs.removal.sweep_slot.Goals as goal

pub returns-then-is_removed-clause-swept : goal.returns-then-is_removed-clause-swept
returns-then-is_removed-clause-swept c = sweeps_gone c.args.w.now _ c.args.root c.args.slot _ c.tree.ensures
    (rw c.number.ensures.value at c.is_removed.ensures) c.if-is_removed.true c.empty.ensures.empty

pub returns-else-is_removed-clause-swept : goal.returns-else-is_removed-clause-swept
returns-else-is_removed-clause-swept c = sweeps_left c.args.w.now _ c.args.root c.args.slot _ c.tree.ensures
    (rw c.number.ensures.value at c.is_removed.ensures) c.if-is_removed.false c.shut_channels.ensures.row c.shut_channels.ensures.pages
