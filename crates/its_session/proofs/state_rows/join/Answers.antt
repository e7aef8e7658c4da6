use Rattle.std.proofs.Common.{arith}
use Rattle.std.proofs.lemmas.Grind.{common_steps}
use Rattle.its_session.specs.StateGrammar.{join_row}
use Rattle.its_session.proofs.RowLaws.{six_words}
use Rattle.its_session.proofs.state_rows.join.Goals as goal

pub returns-in_err-s-2 : goal.returns-in_err-s-2
unfolding join_row
returns-in_err-s-2 c = rw (six_words c.args.words.now (omega arith) (omega arith)) (grind (arith, common_steps))

pub returns-in_err-l-2 : goal.returns-in_err-l-2
unfolding join_row
returns-in_err-l-2 c = rw (six_words c.args.words.now (omega arith) (omega arith)) (grind (arith, common_steps))

pub returns : goal.returns
unfolding join_row
returns c = rw (six_words c.args.words.now (omega arith) (omega arith)) (grind (arith, common_steps))
