use Rattle.std.proofs.Common.{sym, ◌-◌, ◌∙◌}
use Rattle.its_core.specs.Cores.{core_at}
use Rattle.its_saving.specs.Rows.{cells_from}
use Rattle.its_saving.proofs.CellLaws.{page_none, taken_none, takes_at, takes_ok}
use Rattle.its_saving.proofs.cores.write_page.Goals as goal

pub returns-in-Some-clause-takes : goal.returns-in-Some-clause-takes
returns-in-Some-clause-takes g c = takes_at _ _ _ _ _ _ _ _ _ _ _
    (λ i. cells_from (core_at c.args.core.now c.args.s) (c.first_of.ensures.value i) (c.end_of.ensures.value i - c.first_of.ensures.value i))
    c.write_span.ensures.takes

pub returns-in-None-clause-takes : goal.returns-in-None-clause-takes
returns-in-None-clause-takes g c = takes_ok _ _ _ _ _ _ _ _ _ _
    (taken_none _ _ _ _ _ _ (page_none (core_at c.args.core.now c.args.s) c.args.page (sym c.page.ensures ∙ c.in-None.is)))
