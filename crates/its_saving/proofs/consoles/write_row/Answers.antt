use Rattle.std.proofs.Common.{List, [], ℕ, ◌∷◌}
use Rattle.its_saved.specs.StateLine as state
use Rattle.its_saving.proofs.WritingLaws.{writes_at, writes_line}
use Rattle.its_saving.proofs.consoles.write_row.Goals as goal

pub returns : goal.returns
returns g c = writes_at _ _ (λ (bs : List ℕ). state.Bytes c.args.c c.args.output bs ∷ []) _ _ _ _ _ c.bytes_from.ensures
    (writes_line _ _ _ _ _ (state.Bytes c.args.c c.args.output c.bytes_from.result.items) _ c.line_of.ensures c.write_line.ensures)
