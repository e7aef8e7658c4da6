use Rattle.std.proofs.lemmas.Result.{err_from_is_err_and}
use Rattle.its_records.specs.declared.session.Refusal.TheVariants as refusals
use Rattle.its_monitor.proofs.ChannelLineLaws.{link_can, link_exists, link_restores, link_stops}
use Rattle.its_monitor.proofs.RestoresLaws.{calm_can, calm_kept, calm_plain, calm_refused}
use Rattle.its_monitor.proofs.monitor.Monitor.open_link.Goals as goal

pub returns-in_err-closed-clause-refused : goal.returns-in_err-closed-clause-refused
returns-in_err-closed-clause-refused c =
    let a = c.args in
    let p = err_from_is_err_and c.from_residual.result c.from_residual.ensures.1 in
    rw (p.1, p.2)
    (calm_refused a.s _ (link_restores a.s a.n a.l a.write a.x a.y) _ _ c.requires.kept
    (link_stops _ a.s a.n _ c.in_err-closed.ensures.refused a.l a.write a.x a.y c.requires.link))

pub returns-then-not-can_join-clause-refused : goal.returns-then-not-can_join-clause-refused
returns-then-not-can_join-clause-refused c =
    let a = c.args in
    let o = c.in_ok-closed.ensures in
    calm_refused a.s _ (link_restores a.s a.n a.l a.write a.x a.y) _ refusals.Exists c.requires.kept
    (link_exists _ a.s a.n c.requires.channel o.some o.closed a.l a.write a.x a.y _ c.requires.link c.can_join.ensures c.if-not-can_join.true)

pub put_link-requires-clause-can : goal.put_link-requires-clause-can
put_link-requires-clause-can c =
    let a = c.args in
    let o = c.in_ok-closed.ensures in
    calm_can a.s _ (link_restores a.s a.n a.l a.write a.x a.y) _ c.calm.new.w c.requires.kept c.calm.ensures
    (link_can _ a.s a.n c.requires.channel o.some o.closed a.l a.write a.x a.y _ c.requires.link c.can_join.ensures c.if-not-can_join.false)

pub returns-clause-plain : goal.returns-clause-plain
returns-clause-plain c =
    let a = c.args in
    calm_plain a.s _ (link_restores a.s a.n a.l a.write a.x a.y) _ c.calm.new.w c.requires.kept c.calm.ensures c.put_link.new.w c.put_link.ensures.done

pub returns-clause-kept : goal.returns-clause-kept
returns-clause-kept c =
    let a = c.args in
    calm_kept a.s _ (link_restores a.s a.n a.l a.write a.x a.y) _ c.calm.new.w c.requires.kept c.calm.ensures c.put_link.new.w c.put_link.ensures.done
    c.put_link.ensures.tidy
