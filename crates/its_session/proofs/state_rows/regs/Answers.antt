use Rattle.std.proofs.Common.{arith}
use Rattle.std.proofs.lemmas.Grind.{common_steps}
use Rattle.its_session.specs.StateGrammar.{regs_row}
use Rattle.its_session.proofs.RowLaws.{eight_words}
use Rattle.its_session.proofs.state_rows.regs.Goals as goal

pub returns : goal.returns
unfolding regs_row
returns c = rw (eight_words c.args.words.now (omega arith) (omega arith)) (grind (arith, common_steps))
