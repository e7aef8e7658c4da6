use Rattle.std.proofs.Common.{◌∙◌, ap}
use Rattle.its_plain.specs.Machine.{On}
use Rattle.its_plain.specs.Machine.Own.{on_channel}
use Rattle.its_world.specs.World.{in_raw, state_of}
use Rattle.its_commit.proofs.ChangeLaws.{closed_elsewhere}
use Rattle.its_monitor.proofs.ChannelLineLaws.{usr_lands, usr_shut}
use Rattle.its_monitor.proofs.restoring_channels.put_usr.Goals as goal

pub put_channel-requires-clause-old : goal.put_channel-requires-clause-old
put_channel-requires-clause-old c =
    let a = c.args in
    closed_elsewhere a.w.now a.s a.n (usr_shut (state_of a.w.now) a.s a.n a.t a.write a.at c.requires.can).closed

pub returns-clause-done : goal.returns-clause-done
returns-clause-done c =
    let a = c.args in
    usr_lands (state_of a.w.now) (state_of c.put_channel.new.self) a.s a.n a.t a.write a.at c.requires.can
    (c.put_channel.ensures.row ∙ ap (λ k. in_raw (state_of a.w.now) a.s (on_channel a.n (λ x. On k a.write a.at))) c.number-slot.ensures.value)
