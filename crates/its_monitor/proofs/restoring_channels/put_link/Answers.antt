use Rattle.its_world.specs.World.{state_of}
use Rattle.its_monitor.proofs.ChannelLineLaws.{link_lands, link_shut}
use Rattle.its_monitor.proofs.restoring_channels.put_link.Goals as goal

pub join-requires-clause-job : goal.join-requires-clause-job
join-requires-clause-job c = let a = c.args in (link_shut (state_of a.w.now) a.s a.n a.l a.write a.x a.y c.requires.can).job

pub join-requires-clause-closed : goal.join-requires-clause-closed
join-requires-clause-closed c = let a = c.args in (link_shut (state_of a.w.now) a.s a.n a.l a.write a.x a.y c.requires.can).closed

pub returns-clause-done : goal.returns-clause-done
returns-clause-done c =
    let a = c.args in
    link_lands (state_of a.w.now) (state_of c.join.new.self) a.s a.n a.l a.write a.x a.y c.requires.can c.join.ensures.row
