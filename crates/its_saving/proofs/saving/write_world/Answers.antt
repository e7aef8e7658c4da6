use Rattle.std.proofs.Common.{[], sym, ◌∷◌}
use Rattle.its_saved.specs.StateLine as state
use Rattle.its_saving.specs.Parts.{files_part}
use Rattle.its_saving.proofs.PartLaws.{saved_is}
use Rattle.its_saving.proofs.WritingLaws.{first_broken, first_then, writes_at}
use Rattle.its_saving.proofs.saving.write_world.Goals as goal

pub returns : goal.returns
returns g c = writes_at _ _ (λ ls. ls) _ _ _ _ _ (sym (saved_is c.args.w.now c.tree.ensures.owned c.requires.writable.quiet))
    (first_then _ _ _ _ _ _ _ _ (state.System c.args.w.now.version ∷ state.Clock c.args.w.now.clock ∷ []) (files_part c.args.w.now)
    c.in_ok-write_head.was c.write_head.ensures c.write_files_on.ensures)

pub returns-in_err-write_head : goal.returns-in_err-write_head
returns-in_err-write_head g c = writes_at _ _ (λ ls. ls) _ _ _ _ _ (sym (saved_is c.args.w.now c.tree.ensures.owned c.requires.writable.quiet))
    (first_broken _ _ _ _ _ _ _ (state.System c.args.w.now.version ∷ state.Clock c.args.w.now.clock ∷ []) (files_part c.args.w.now)
    c.in_err-write_head.was c.write_head.ensures c.from_residual.ensures.0)
