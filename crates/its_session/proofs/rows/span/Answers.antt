use Rattle.std.proofs.Common.{arith}
use Rattle.std.proofs.lemmas.Grind.{common_steps}
use Rattle.its_session.specs.Grammar.{span_line}
use Rattle.its_session.proofs.RowLaws.{three_words}
use Rattle.its_session.proofs.rows.span.Goals as goal

pub returns-in_err-n-2 : goal.returns-in_err-n-2
unfolding span_line
returns-in_err-n-2 c = rw (three_words c.args.words.now (omega arith) (omega arith)) (grind (arith, common_steps))

pub returns : goal.returns
unfolding span_line
returns c = rw (three_words c.args.words.now (omega arith) (omega arith)) (grind (arith, common_steps))
