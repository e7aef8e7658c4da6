use Rattle.std.specs.Prelude.{is_some, not}
use Rattle.std.proofs.Common.{sym, ◌∙◌, ap}
use Rattle.std.proofs.lemmas.Result.{err_from_is_err_and}
use Rattle.its_records.specs.declared.session.Refusal.TheVariants as refusals
use Rattle.its_plain.specs.Machine.Own.{names_of}
use Rattle.its_monitor.proofs.ChannelLineLaws.{disk_can, disk_gone, disk_restores, disk_stops}
use Rattle.its_monitor.proofs.RestoresLaws.{mid_whole, whole_can, whole_done, whole_kept, whole_plain, whole_refused}
use Rattle.its_monitor.proofs.monitor.Monitor.open_disk.Goals as goal

pub returns-in_err-closed-clause-refused : goal.returns-in_err-closed-clause-refused
returns-in_err-closed-clause-refused c =
    let a = c.args in
    let p = err_from_is_err_and c.from_residual.result c.from_residual.ensures.1 in
    rw (p.1, p.2)
    (whole_refused a.s _ (disk_restores a.s a.n a.d a.x a.y a.at) _ c.help.new.w _ c.help.ensures
    (disk_stops _ a.s a.n _ c.in_err-closed.ensures.refused (names_of a.d a.x a.y) a.at))

pub returns-then-is_none-clause-refused : goal.returns-then-is_none-clause-refused
returns-then-is_none-clause-refused c =
    let a = c.args in
    let o = c.in_ok-closed.ensures in
    whole_refused a.s _ (disk_restores a.s a.n a.d a.x a.y a.at) _ c.help.new.w refusals.NoFile c.help.ensures
    (disk_gone c.help.new.w a.s a.n c.requires.channel o.some o.closed a.d a.x a.y a.at
    (ap is_some (sym c.find.ensures.found) ∙ c.is_none.ensures ∙ ap not c.if-is_none.true))

pub put_disk-requires-clause-can : goal.put_disk-requires-clause-can
put_disk-requires-clause-can c =
    let a = c.args in
    let o = c.in_ok-closed.ensures in
    whole_can a.s _ (disk_restores a.s a.n a.d a.x a.y a.at) _ c.help.new.w c.calm.new.w c.requires.kept c.help.ensures c.calm.ensures
    (disk_can c.help.new.w a.s a.n c.requires.channel o.some o.closed a.d a.x a.y a.at
    (ap is_some (sym c.find.ensures.found) ∙ c.is_none.ensures ∙ ap not c.if-is_none.false))

pub put_disk-requires-clause-unmarked : goal.put_disk-requires-clause-unmarked
put_disk-requires-clause-unmarked c =
    let a = c.args in
    mid_whole a.s _ (disk_restores a.s a.n a.d a.x a.y a.at) _ c.help.new.w c.calm.new.w c.requires.kept c.help.ensures c.calm.ensures

pub returns-clause-done : goal.returns-clause-done
returns-clause-done c =
    let a = c.args in
    whole_done a.s _ (disk_restores a.s a.n a.d a.x a.y a.at) _ c.help.new.w c.calm.new.w c.requires.kept c.help.ensures c.calm.ensures
    c.put_disk.new.w c.put_disk.ensures.done

pub returns-clause-plain : goal.returns-clause-plain
returns-clause-plain c =
    let a = c.args in
    whole_plain a.s _ (disk_restores a.s a.n a.d a.x a.y a.at) _ c.help.new.w c.calm.new.w c.requires.kept c.help.ensures c.calm.ensures
    c.put_disk.new.w c.put_disk.ensures.done

pub returns-clause-kept : goal.returns-clause-kept
returns-clause-kept c =
    let a = c.args in
    whole_kept a.s _ (disk_restores a.s a.n a.d a.x a.y a.at) _ c.help.new.w c.calm.new.w c.requires.kept c.help.ensures c.calm.ensures
    c.put_disk.new.w c.put_disk.ensures.done c.put_disk.ensures.tidy
