use Rattle.std.proofs.Common.{arith}
use Rattle.std.proofs.lemmas.Grind.{common_steps}
use Rattle.its_session.specs.StateGrammar.{usr_row}
use Rattle.its_session.proofs.RowLaws.{five_words}
use Rattle.its_session.proofs.state_rows.usr.Goals as goal

pub returns-in_err-write : goal.returns-in_err-write
unfolding usr_row
returns-in_err-write c = rw (five_words c.args.words.now (omega arith) (omega arith)) (grind (arith, common_steps))

pub returns-in_err-at : goal.returns-in_err-at
unfolding usr_row
returns-in_err-at c = rw (five_words c.args.words.now (omega arith) (omega arith)) (grind (arith, common_steps))

pub returns : goal.returns
unfolding usr_row
returns c = rw (five_words c.args.words.now (omega arith) (omega arith)) (grind (arith, common_steps))
