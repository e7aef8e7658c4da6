use Rattle.its_direct.proofs.RemovalLaws.{removed_row, tree_closed}
use Rattle.its_direct.proofs.plain.Plain.remove.Goals as goal

pub strip-requires-clause-closed : goal.strip-requires-clause-closed
strip-requires-clause-closed c = tree_closed c.args.self.now c.close_tree.new.self c.args.root c.within.ensures c.tree.ensures
    c.close_tree.ensures.closed c.close_tree.ensures.tidy

pub returns-clause-row : goal.returns-clause-row
returns-clause-row c = removed_row c.args.self.now c.close_tree.new.self c.args.root c.within.ensures c.tree.ensures
    c.close_tree.ensures.closed c.strip.new.self c.strip.ensures.row
