use Rattle.std.proofs.Common.{◌∙◌}
use Rattle.std.proofs.lemmas.Result.{err_from_is_err_and}
use Rattle.its_monitor.proofs.DraftLineLaws.{wrote_absent, wrote_by, wrote_can, wrote_restores}
use Rattle.its_monitor.proofs.RestoresLaws.{aided_whole, mid_whole, whole_can, whole_done, whole_kept, whole_plain, whole_refused}
use Rattle.its_monitor.proofs.monitor.Monitor.write_draft.Goals as goal

pub returns-in_err-present-clause-refused : goal.returns-in_err-present-clause-refused
returns-in_err-present-clause-refused c =
    let a = c.args in
    let p = err_from_is_err_and c.from_residual.result c.from_residual.ensures.1 in
    rw (p.1, p.2)
    (whole_refused a.s _ (wrote_restores a.s a.n a.words.now) _ c.help.new.w _ c.help.ensures
    (wrote_absent c.help.new.w a.s a.n a.words.now c.requires.channel _ c.in_err-present.ensures.refused))

pub fitting-requires-clause-unmarked : goal.fitting-requires-clause-unmarked
fitting-requires-clause-unmarked c = aided_whole _ c.help.new.w c.help.ensures

pub returns-in_err-fitting-clause-refused : goal.returns-in_err-fitting-clause-refused
returns-in_err-fitting-clause-refused c =
    let a = c.args in
    let p = err_from_is_err_and c.from_residual-in_err-fitting.result c.from_residual-in_err-fitting.ensures.1 in
    rw (p.1, p.2)
    (whole_refused a.s _ (wrote_restores a.s a.n a.words.now) _ c.help.new.w _ c.help.ensures
    (wrote_by c.help.new.w a.s a.n a.words.now c.requires.channel c.in_ok-present.ensures.some ∙ c.in_err-fitting.ensures.refused))

pub put_words-requires-clause-can : goal.put_words-requires-clause-can
put_words-requires-clause-can c =
    let a = c.args in
    whole_can a.s _ (wrote_restores a.s a.n a.words.now) _ c.help.new.w c.calm.new.w c.requires.kept c.help.ensures c.calm.ensures
    (wrote_can c.help.new.w a.s a.n a.words.now c.requires.channel c.in_ok-present.ensures.some c.in_ok-fitting.ensures.can)

pub put_words-requires-clause-unmarked : goal.put_words-requires-clause-unmarked
put_words-requires-clause-unmarked c =
    let a = c.args in
    mid_whole a.s _ (wrote_restores a.s a.n a.words.now) _ c.help.new.w c.calm.new.w c.requires.kept c.help.ensures c.calm.ensures

pub returns-clause-done : goal.returns-clause-done
returns-clause-done c =
    let a = c.args in
    whole_done a.s _ (wrote_restores a.s a.n a.words.now) _ c.help.new.w c.calm.new.w c.requires.kept c.help.ensures c.calm.ensures
    c.put_words.new.w c.put_words.ensures.done

pub returns-clause-plain : goal.returns-clause-plain
returns-clause-plain c =
    let a = c.args in
    whole_plain a.s _ (wrote_restores a.s a.n a.words.now) _ c.help.new.w c.calm.new.w c.requires.kept c.help.ensures c.calm.ensures
    c.put_words.new.w c.put_words.ensures.done

pub returns-clause-kept : goal.returns-clause-kept
returns-clause-kept c =
    let a = c.args in
    whole_kept a.s _ (wrote_restores a.s a.n a.words.now) _ c.help.new.w c.calm.new.w c.requires.kept c.help.ensures c.calm.ensures
    c.put_words.new.w c.put_words.ensures.done c.put_words.ensures.tidy
