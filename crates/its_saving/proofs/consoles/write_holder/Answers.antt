use Rattle.std.proofs.Common.{None, Some, [], refl, sym, ◌∷◌}
use Rattle.its_saved.specs.Saving.{holder_line}
use Rattle.its_saved.specs.StateLine as state
use Rattle.its_saving.proofs.WritingLaws.{none_at, writes_at}
use Rattle.its_saving.proofs.consoles.write_holder.Goals as goal

pub returns-in-Some : goal.returns-in-Some
returns-in-Some g c = writes_at _ _ (holder_line c.args.c) _ _ _ (Some c.in-Some.s) _ (sym c.in-Some.is)
    (writes_at _ _ (λ t. state.Hold c.args.c t ∷ []) _ _ _ _ _ c.new.ensures c.write_hold.ensures)

pub returns-in-None : goal.returns-in-None
returns-in-None g c = none_at _ _ (holder_line c.args.c) _ _ None _ (sym c.in-None.is) refl
