use Rattle.std.proofs.Common.{List, [], refl, ℕ, ◌∷◌}
use Rattle.its_files.specs.Files.{names_at}
use Rattle.its_saved.specs.StateLine as state
use Rattle.its_saving.proofs.WritingLaws.{writes_at, writes_line}
use Rattle.its_saving.proofs.files.write_row.Goals as goal

pub returns : goal.returns
returns g c = writes_at _ _ (λ (ws : List ℕ). state.FileWords (names_at c.args.files.now c.args.id) ws ∷ []) _ _ _ _ _ c.words_from-words.ensures
    (writes_line _ _ _ _ _ (state.FileWords (names_at c.args.files.now c.args.id) c.words_from-words.result.items) _ refl c.write_line.ensures)
