use Rattle.std.proofs.Common.{ap, ◌∙◌}
use Rattle.std.proofs.lemmas.Result.{err_from_is_err_and}
use Rattle.its_plain.specs.Call.Decode.{words_of}
use Rattle.its_decode.proofs.AskLaws.{fetched_err, fetched_ok}
use Rattle.its_decode.proofs.asking.fetch_ask.Goals as goal

pub returns-in_err-found-clause-fault : goal.returns-in_err-found-clause-fault
returns-in_err-found-clause-fault c =
    let p = err_from_is_err_and c.from_residual.result c.from_residual.ensures.1 in
    rw (p.1, p.2) (fetched_err _ _ _ _ _ c.in_err-found.ensures.fault (c.words_of-words.ensures ∙ ap words_of c.deref.ensures.0))

pub returns-clause-fetched : goal.returns-clause-fetched
returns-clause-fetched c =
    fetched_ok _ _ _ _ _ _ _ _ _ c.in_ok-found.ensures.gathered (c.words_of-words.ensures ∙ ap words_of c.deref.ensures.0)
    (let n = c.note_block.ensures.noted in let d = c.begin.ensures.decode in let l = c.len.ensures.value in cc)
    (let n = c.name_of-name.ensures in let b = c.deref-2.ensures.0 in cc)
    (let f = c.error_by-ask.ensures in let r = c.row_named.ensures in let i = c.len-2.ensures.value in let o = c.len-3.ensures.value
    in let x = c.exceeds-excess.ensures in cc)
