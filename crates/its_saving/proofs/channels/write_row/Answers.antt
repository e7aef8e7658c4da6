use Rattle.std.proofs.Common.{List, [], refl, ℕ, ◌∷◌}
use Rattle.its_saved.specs.StateLine as state
use Rattle.its_saving.proofs.WritingLaws.{writes_at, writes_line}
use Rattle.its_saving.proofs.channels.write_row.Goals as goal

pub returns : goal.returns
returns g c = writes_at _ _ (λ (ws : List ℕ). state.Wrote c.args.s c.args.n ws ∷ []) _ _ _ _ _ c.words_from-words.ensures
    (writes_line _ _ _ _ _ (state.Wrote c.args.s c.args.n c.words_from-words.result.items) _ refl c.write_line.ensures)
