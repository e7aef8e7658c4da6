use Rattle.std.proofs.Common.{sym, ◌∙◌}
use Rattle.its_saving.proofs.BoundLaws.{words_absent}
use Rattle.its_saving.proofs.keeping.keep_page.Goals as goal

pub returns-in-None : goal.returns-in-None
returns-in-None c = words_absent _ _ _ c.requires.later (sym c.page.ensures ∙ c.in-None.is)
