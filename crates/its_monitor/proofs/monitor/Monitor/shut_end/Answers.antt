use Rattle.its_records.specs.declared.session.Refusal.TheVariants as refusals
use Rattle.its_world.specs.World.{state_of}
use Rattle.its_world.proofs.LinkLaws.{link_tidy}
use Rattle.its_monitor.proofs.LinkLineLaws.{shut_exists, shut_lands, shut_rejoins, shut_unfit}
use Rattle.its_monitor.proofs.RestoresLaws.{link_kept, link_plain, link_refused}
use Rattle.its_monitor.proofs.monitor.Monitor.shut_end.Goals as goal

pub returns-then-not-has_link-clause-refused : goal.returns-then-not-has_link-clause-refused
returns-then-not-has_link-clause-refused c =
    let a = c.args in
    link_refused _ (shut_rejoins a.l a.write) (state_of a.self.now.world) refusals.Unfit
    (shut_unfit a.self.now.world a.l a.write _ c.has_link.ensures c.if-not-has_link.true)

pub returns-then-not-has_unopened-clause-refused : goal.returns-then-not-has_unopened-clause-refused
returns-then-not-has_unopened-clause-refused c =
    let a = c.args in
    link_refused _ (shut_rejoins a.l a.write) (state_of a.self.now.world) refusals.Exists
    (shut_exists a.self.now.world a.l a.write _ _ c.has_link.ensures c.if-not-has_link.false c.has_unopened.ensures c.if-not-has_unopened.true)

pub returns-clause-done : goal.returns-clause-done
returns-clause-done c =
    let a = c.args in
    shut_lands a.self.now.world a.l a.write c.shut_end.new.self _ _ c.has_link.ensures c.if-not-has_link.false c.has_unopened.ensures
    c.if-not-has_unopened.false c.shut_end.ensures

pub returns-clause-plain : goal.returns-clause-plain
returns-clause-plain c =
    let a = c.args in
    link_plain _ (shut_rejoins a.l a.write) a.self.now.world c.shut_end.new.self (returns-clause-done c)

pub returns-clause-kept : goal.returns-clause-kept
returns-clause-kept c =
    let a = c.args in
    link_kept _ (shut_rejoins a.l a.write) a.self.now.world c.shut_end.new.self (returns-clause-done c) c.requires.kept
    (link_tidy a.self.now.world c.shut_end.new.self a.l _ c.shut_end.ensures c.requires.kept.tidy)
