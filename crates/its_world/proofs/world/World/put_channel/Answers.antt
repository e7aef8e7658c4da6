use Rattle.its_world.proofs.ChannelLaws.{put_comes}
use Rattle.its_world.proofs.world.World.put_channel.Goals as goal

pub returns : goal.returns
returns c =
    let r = c.requires in
    let k = put_comes c.args.self.now c.set_channel.new.self c.args.slot c.args.n c.within.ensures r.channel r.tidy c.args.channel
    c.set_channel.ensures r.old r.new in
    record { row = k.row; tidy = k.tidy; pages = c.set_channel.ensures.pages }
