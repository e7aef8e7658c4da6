use Rattle.std.proofs.Common.{[], length, ◌∷◌}
use Rattle.its_files.specs.Files.{names_at, words_at}
use Rattle.its_saved.specs.Saving.{in_rows}
use Rattle.its_saved.specs.StateLine as state
use Rattle.its_saving.proofs.WritingLaws.{first_broken, first_then, writes_line}
use Rattle.its_saving.proofs.channels.write_draft.Goals as goal

pub returns : goal.returns
returns g c = first_then _ _ _ _ _ _ _ _ (state.Draft c.args.s c.args.n (names_at c.args.files.now c.args.draft) ∷ [])
    (in_rows (state.Wrote c.args.s c.args.n) 16 (length (words_at c.args.files.now c.args.draft)) (words_at c.args.files.now c.args.draft))
    c.in_ok-write_line.was (writes_line _ _ _ _ _ (state.Draft c.args.s c.args.n (names_at c.args.files.now c.args.draft)) _ c.draft_of.ensures
    c.write_line.ensures) c.write_words.ensures

pub returns-in_err-write_line : goal.returns-in_err-write_line
returns-in_err-write_line g c = first_broken _ _ _ _ _ _ _ (state.Draft c.args.s c.args.n (names_at c.args.files.now c.args.draft) ∷ [])
    (in_rows (state.Wrote c.args.s c.args.n) 16 (length (words_at c.args.files.now c.args.draft)) (words_at c.args.files.now c.args.draft))
    c.in_err-write_line.was (writes_line _ _ _ _ _ (state.Draft c.args.s c.args.n (names_at c.args.files.now c.args.draft)) _ c.draft_of.ensures
    c.write_line.ensures) c.from_residual.ensures.0
