use Rattle.std.proofs.Common.{arith}
use Rattle.std.proofs.lemmas.Grind.{common_steps}
use Rattle.its_session.specs.StateGrammar.{end_shut_row}
use Rattle.its_session.proofs.RowLaws.{two_words}
use Rattle.its_session.proofs.state_rows.end_shut.Goals as goal

pub returns : goal.returns
unfolding end_shut_row
returns c = rw (two_words c.args.words.now (omega arith) (omega arith)) (grind (arith, common_steps))
