use Rattle.its_direct.proofs.ChannelLaws.{put_comes}
use Rattle.its_direct.proofs.plain.Plain.put_channel.Goals as goal

pub returns : goal.returns
returns c =
    let k = put_comes c.args.self.now c.set_channel.new.self c.args.slot c.args.n c.within.ensures c.requires.channel c.requires.tidy
    c.args.channel c.set_channel.ensures c.requires.old c.requires.new in
    record { row = k.row; tidy = k.tidy }
