use Rattle.its_commit.proofs.ChangeLaws.{can_poke, word_poked, tidy_written}
use Rattle.its_commit.proofs.changes.poke.Goals as goal

pub store-requires-clause-can : goal.store-requires-clause-can
store-requires-clause-can c = can_poke c.args.w.now c.args.slot c.args.at c.requires.tidy c.requires.can

pub returns-clause-row : goal.returns-clause-row
returns-clause-row c = word_poked c.args.w.now c.store.new.self c.args.slot c.args.at c.args.word c.requires.address c.requires.job c.store.ensures

pub returns-clause-tidy : goal.returns-clause-tidy
returns-clause-tidy c = tidy_written c.args.w.now c.store.new.self c.args.slot _ c.requires.job c.store.ensures c.requires.tidy
