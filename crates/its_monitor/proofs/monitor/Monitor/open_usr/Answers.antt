use Rattle.std.proofs.Common.{sym, ◌∙◌}
use Rattle.std.proofs.lemmas.Result.{err_from_is_err_and}
use Rattle.its_records.specs.declared.session.Refusal.TheVariants as refusals
use Rattle.its_monitor.proofs.ChannelLineLaws.{usr_can, usr_restores, usr_stops, usr_unfit}
use Rattle.its_monitor.proofs.RestoresLaws.{calm_can, calm_kept, calm_plain, calm_refused}
use Rattle.its_monitor.proofs.monitor.Monitor.open_usr.Goals as goal

pub returns-in_err-closed-clause-refused : goal.returns-in_err-closed-clause-refused
returns-in_err-closed-clause-refused c =
    let a = c.args in
    let p = err_from_is_err_and c.from_residual.result c.from_residual.ensures.1 in
    rw (p.1, p.2)
    (calm_refused a.s _ (usr_restores a.s a.n a.t a.write a.at) _ _ c.requires.kept
    (usr_stops _ a.s a.n _ c.in_err-closed.ensures.refused a.t a.write a.at))

pub returns-then-not-is_under-clause-refused : goal.returns-then-not-is_under-clause-refused
returns-then-not-is_under-clause-refused c =
    let a = c.args in
    let o = c.in_ok-closed.ensures in
    calm_refused a.s _ (usr_restores a.s a.n a.t a.write a.at) _ refusals.Unfit c.requires.kept
    (usr_unfit _ a.s a.n c.requires.channel o.some o.closed a.t a.write a.at (sym c.is_under.ensures ∙ c.if-not-is_under.true))

pub put_usr-requires-clause-can : goal.put_usr-requires-clause-can
put_usr-requires-clause-can c =
    let a = c.args in
    let o = c.in_ok-closed.ensures in
    calm_can a.s _ (usr_restores a.s a.n a.t a.write a.at) _ c.calm.new.w c.requires.kept c.calm.ensures
    (usr_can _ a.s a.n c.requires.channel o.some o.closed a.t a.write a.at (sym c.is_under.ensures ∙ c.if-not-is_under.false))

pub returns-clause-plain : goal.returns-clause-plain
returns-clause-plain c =
    let a = c.args in
    calm_plain a.s _ (usr_restores a.s a.n a.t a.write a.at) _ c.calm.new.w c.requires.kept c.calm.ensures c.put_usr.new.w c.put_usr.ensures.done

pub returns-clause-kept : goal.returns-clause-kept
returns-clause-kept c =
    let a = c.args in
    calm_kept a.s _ (usr_restores a.s a.n a.t a.write a.at) _ c.calm.new.w c.requires.kept c.calm.ensures c.put_usr.new.w c.put_usr.ensures.done
    c.put_usr.ensures.tidy
