use Rattle.std.proofs.Common.{[], false, sym, true, ◌++◌, ◌∷◌}
use Rattle.std.specs.Prelude.{if◌then◌else◌}
use Rattle.its_records.specs.Links.{is_closed}
use Rattle.its_pipes.specs.Pipes.{piped}
use Rattle.its_plain.specs.Call.Link.{words_in}
use Rattle.its_saved.specs.Saving.{in_rows}
use Rattle.its_saved.specs.StateLine as state
use Rattle.its_saving.proofs.PartLaws.{link_is}
use Rattle.its_saving.proofs.WritingLaws.{first_broken, first_then, writes_at}
use Rattle.its_saving.proofs.links.write_there.Goals as goal

pub returns : goal.returns
returns g c = writes_at _ _ (λ ls. ls) _ _ _ _ _ (sym (link_is c.args.pipes.now c.args.l c.args.link.now c.requires.there))
    (first_then _ _ _ _ _ _ _ _ (in_rows (state.Sent c.args.l) 16 4 (words_in (piped c.args.pipes.now c.args.l)))
    ((if is_closed c.args.link.now.reader then state.EndShut c.args.l false ∷ [] else []) ++
    (if is_closed c.args.link.now.writer then state.EndShut c.args.l true ∷ [] else [])) c.in_ok-write_words.was c.write_words.ensures
    (first_then _ _ _ _ _ _ _ _ (if is_closed c.args.link.now.reader then state.EndShut c.args.l false ∷ [] else [])
    (if is_closed c.args.link.now.writer then state.EndShut c.args.l true ∷ [] else []) c.in_ok-write_end.was c.write_end.ensures c.write_end-2.ensures))

pub returns-in_err-write_words : goal.returns-in_err-write_words
returns-in_err-write_words g c = writes_at _ _ (λ ls. ls) _ _ _ _ _ (sym (link_is c.args.pipes.now c.args.l c.args.link.now c.requires.there))
    (first_broken _ _ _ _ _ _ _ (in_rows (state.Sent c.args.l) 16 4 (words_in (piped c.args.pipes.now c.args.l)))
    ((if is_closed c.args.link.now.reader then state.EndShut c.args.l false ∷ [] else []) ++
    (if is_closed c.args.link.now.writer then state.EndShut c.args.l true ∷ [] else [])) c.in_err-write_words.was c.write_words.ensures
    c.from_residual.ensures.0)

pub returns-in_err-write_end : goal.returns-in_err-write_end
returns-in_err-write_end g c = writes_at _ _ (λ ls. ls) _ _ _ _ _ (sym (link_is c.args.pipes.now c.args.l c.args.link.now c.requires.there))
    (first_then _ _ _ _ _ _ _ _ (in_rows (state.Sent c.args.l) 16 4 (words_in (piped c.args.pipes.now c.args.l)))
    ((if is_closed c.args.link.now.reader then state.EndShut c.args.l false ∷ [] else []) ++
    (if is_closed c.args.link.now.writer then state.EndShut c.args.l true ∷ [] else [])) c.in_ok-write_words.was c.write_words.ensures
    (first_broken _ _ _ _ _ _ _ (if is_closed c.args.link.now.reader then state.EndShut c.args.l false ∷ [] else [])
    (if is_closed c.args.link.now.writer then state.EndShut c.args.l true ∷ [] else []) c.in_err-write_end.was c.write_end.ensures
    c.from_residual-in_err-write_end.ensures.0))
