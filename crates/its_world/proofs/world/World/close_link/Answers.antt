use Rattle.its_world.proofs.LinkLaws.{link_tidy, link_elsewhere, parted_row}
use Rattle.its_world.proofs.world.World.close_link.Goals as goal

pub put_channel-requires-clause-old : goal.put_channel-requires-clause-old
put_channel-requires-clause-old c = link_elsewhere c.args.self.now c.close_end.new.self c.args.link _ c.close_end.ensures c.args.slot
    c.args.n c.args.link c.args.write c.requires.on

pub put_channel-requires-clause-tidy : goal.put_channel-requires-clause-tidy
put_channel-requires-clause-tidy c = link_tidy c.args.self.now c.close_end.new.self c.args.link _ c.close_end.ensures c.requires.tidy

pub returns-clause-row : goal.returns-clause-row
returns-clause-row c = parted_row c.args.self.now c.close_end.new.self c.put_channel.new.self c.args.slot c.args.n c.args.link c.args.write
    c.close_end.ensures c.put_channel.ensures.row
