use Rattle.std.proofs.Common.{sym, ◌∙◌}
use Rattle.its_asm.proofs.CellLaws.{given_at, given_past}
use Rattle.its_asm.proofs.cells.has_word.Goals as goal

pub returns-in-Some : goal.returns-in-Some
returns-in-Some c = c.is_some.ensures ∙ sym (given_at c.args.words.now c.args.a c.in-Some.word (sym c.word_at.ensures ∙ c.in-Some.is))

pub returns-in-None : goal.returns-in-None
returns-in-None c = sym (given_past c.args.words.now c.args.a (sym c.word_at.ensures ∙ c.in-None.is))
