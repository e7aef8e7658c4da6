use Rattle.its_world.proofs.LinkLaws.{link_tidy, shut_elsewhere, joined_row}
use Rattle.its_world.proofs.world.World.join.Goals as goal

pub put_channel-requires-clause-old : goal.put_channel-requires-clause-old
put_channel-requires-clause-old c = shut_elsewhere c.args.self.now c.open_end.new.self c.args.link _ c.open_end.ensures c.args.slot c.args.n c.requires.closed

pub put_channel-requires-clause-tidy : goal.put_channel-requires-clause-tidy
put_channel-requires-clause-tidy c = link_tidy c.args.self.now c.open_end.new.self c.args.link _ c.open_end.ensures c.requires.tidy

pub returns-clause-row : goal.returns-clause-row
returns-clause-row c = joined_row c.args.self.now c.open_end.new.self c.put_channel.new.self c.args.slot c.args.n c.args.link c.args.x
    c.args.y c.args.write c.open_end.ensures c.put_channel.ensures.row
