use Rattle.std.proofs.Common.{[], refl, ◌∷◌}
use Rattle.its_saved.specs.StateLine as state
use Rattle.its_saving.proofs.WritingLaws.{first_broken, first_then, writes_line}
use Rattle.its_saving.proofs.saving.write_head.Goals as goal

pub returns : goal.returns
returns g c = first_then _ _ _ _ _ _ _ _ (state.System c.args.w.now.version ∷ []) (state.Clock c.args.w.now.clock ∷ []) c.in_ok-write_line.was
    (writes_line _ _ _ _ _ (state.System c.args.w.now.version) _ refl c.write_line.ensures)
    (writes_line _ _ _ _ _ (state.Clock c.args.w.now.clock) _ refl c.write_line-2.ensures)

pub returns-in_err-write_line : goal.returns-in_err-write_line
returns-in_err-write_line g c = first_broken _ _ _ _ _ _ _ (state.System c.args.w.now.version ∷ []) (state.Clock c.args.w.now.clock ∷ [])
    c.in_err-write_line.was (writes_line _ _ _ _ _ (state.System c.args.w.now.version) _ refl c.write_line.ensures) c.from_residual.ensures.0
