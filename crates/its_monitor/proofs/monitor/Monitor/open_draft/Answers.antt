use Rattle.std.proofs.lemmas.Result.{err_from_is_err_and}
use Rattle.its_plain.specs.Machine.Own.{names_of}
use Rattle.its_monitor.proofs.ChannelLineLaws.{draft_can, draft_restores, draft_stops}
use Rattle.its_monitor.proofs.RestoresLaws.{mid_whole, whole_can, whole_done, whole_kept, whole_plain, whole_refused}
use Rattle.its_monitor.proofs.monitor.Monitor.open_draft.Goals as goal

pub returns-in_err-closed-clause-refused : goal.returns-in_err-closed-clause-refused
returns-in_err-closed-clause-refused c =
    let a = c.args in
    let p = err_from_is_err_and c.from_residual.result c.from_residual.ensures.1 in
    rw (p.1, p.2)
    (whole_refused a.s _ (draft_restores a.s a.n a.d a.x a.y) _ c.help.new.w _ c.help.ensures
    (draft_stops _ a.s a.n _ c.in_err-closed.ensures.refused (names_of a.d a.x a.y)))

pub put_draft-requires-clause-can : goal.put_draft-requires-clause-can
put_draft-requires-clause-can c =
    let a = c.args in
    let o = c.in_ok-closed.ensures in
    whole_can a.s _ (draft_restores a.s a.n a.d a.x a.y) _ c.help.new.w c.calm.new.w c.requires.kept c.help.ensures c.calm.ensures
    (draft_can c.help.new.w a.s a.n c.requires.channel o.some o.closed (names_of a.d a.x a.y))

pub put_draft-requires-clause-unmarked : goal.put_draft-requires-clause-unmarked
put_draft-requires-clause-unmarked c =
    let a = c.args in
    mid_whole a.s _ (draft_restores a.s a.n a.d a.x a.y) _ c.help.new.w c.calm.new.w c.requires.kept c.help.ensures c.calm.ensures

pub returns-clause-done : goal.returns-clause-done
returns-clause-done c =
    let a = c.args in
    whole_done a.s _ (draft_restores a.s a.n a.d a.x a.y) _ c.help.new.w c.calm.new.w c.requires.kept c.help.ensures c.calm.ensures
    c.put_draft.new.w c.put_draft.ensures.done

pub returns-clause-plain : goal.returns-clause-plain
returns-clause-plain c =
    let a = c.args in
    whole_plain a.s _ (draft_restores a.s a.n a.d a.x a.y) _ c.help.new.w c.calm.new.w c.requires.kept c.help.ensures c.calm.ensures
    c.put_draft.new.w c.put_draft.ensures.done

pub returns-clause-kept : goal.returns-clause-kept
returns-clause-kept c =
    let a = c.args in
    whole_kept a.s _ (draft_restores a.s a.n a.d a.x a.y) _ c.help.new.w c.calm.new.w c.requires.kept c.help.ensures c.calm.ensures
    c.put_draft.new.w c.put_draft.ensures.done c.put_draft.ensures.tidy
