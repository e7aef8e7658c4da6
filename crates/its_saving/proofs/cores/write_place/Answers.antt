use Rattle.std.proofs.Common.{ap, sym, ◌∙◌}
use Rattle.its_saved.specs.Saving.{cell_of}
use Rattle.its_saving.proofs.CellLaws.{taken_none, takes_at, takes_ok}
use Rattle.its_saving.proofs.cores.write_place.Goals as goal

pub returns-in-None-clause-takes : goal.returns-in-None-clause-takes
returns-in-None-clause-takes g c = takes_ok _ _ _ _ _ _ _ _ _ _ (taken_none _ _ _ _ _ _ (ap (cell_of c.args.a) (sym c.word.ensures.word ∙ c.in-None.is)))

pub returns-in-Some-clause-takes : goal.returns-in-Some-clause-takes
returns-in-Some-clause-takes g c = takes_at _ _ _ _ _ _ _ _ _ _ _ (ap (cell_of c.args.a) (sym c.in-Some.is ∙ c.word.ensures.word)) c.write_cell.ensures.takes
