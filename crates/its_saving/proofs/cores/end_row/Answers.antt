use Rattle.std.proofs.Common.{List, [], length, refl, sym, ℕ, ◌∙◌, ◌∷◌}
use Rattle.its_saved.specs.StateLine as state
use Rattle.its_saving.proofs.CellLaws.{none_long, open_none, open_words, some_long}
use Rattle.its_saving.proofs.WritingLaws.{none_at, writes_at, writes_line}
use Rattle.its_saving.proofs.cores.end_row.Goals as goal

pub returns-then-is_empty-clause-writes : goal.returns-then-is_empty-clause-writes
returns-then-is_empty-clause-writes g c = none_at _ _ (λ ls. ls) _ _ [] _
    (sym (open_none c.args.row.now.a c.args.row.now.words.items
    (none_long (length c.args.row.now.words.items) (sym c.is_empty.ensures ∙ c.if-is_empty.true)))) refl

pub returns-clause-writes : goal.returns-clause-writes
returns-clause-writes g c = writes_at _ _ (λ ls. ls) _ _ _ _ _
    (sym (open_words c.args.row.now.a c.args.row.now.words.items
    (some_long (length c.args.row.now.words.items) (sym c.is_empty.ensures ∙ c.if-is_empty.false))))
    (writes_at _ _ (λ (ws : List ℕ). state.CoreWords 0 c.args.row.now.a ws ∷ []) _ _ _ _ _ c.copied-words.ensures
    (writes_line _ _ _ _ _ (state.CoreWords 0 c.args.row.now.a c.copied-words.result.items) _ refl c.write_line.ensures))
