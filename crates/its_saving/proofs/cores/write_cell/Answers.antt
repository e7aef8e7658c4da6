use Rattle.std.proofs.Common.{[], ap, sym, ◌∙◌, ◌∷◌}
use Rattle.std.specs.Prelude.{if◌then◌else◌}
use Rattle.its_saving.proofs.CellLaws.{taken_none, takes_at, takes_ok}
use Rattle.its_saving.proofs.cores.write_cell.Goals as goal

pub returns-then-is_left_out-clause-takes : goal.returns-then-is_left_out-clause-takes
returns-then-is_left_out-clause-takes g c = takes_ok _ _ _ _ _ _ _ _ _ _
    (taken_none _ _ _ _ _ _ (ap (λ t. if t then [] else (c.args.a, c.args.w) ∷ []) (sym c.is_left_out.ensures ∙ c.if-is_left_out.true)))

pub returns-clause-takes : goal.returns-clause-takes
returns-clause-takes g c = takes_at _ _ _ _ _ _ _ _ _ _ _
    (sym (ap (λ t. if t then [] else (c.args.a, c.args.w) ∷ []) (sym c.is_left_out.ensures ∙ c.if-is_left_out.false))) c.write_kept.ensures.takes
