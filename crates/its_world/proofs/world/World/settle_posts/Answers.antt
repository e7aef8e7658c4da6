use Rattle.its_records.specs.Links.{most_links}
use Rattle.its_world.specs.WaitLists.{lists_to, link_lists_to}
use Rattle.its_world.proofs.FilingLaws.{settled_then}
use Rattle.its_world.proofs.world.World.settle_posts.Goals as goal

pub returns : goal.returns
returns c = settled_then c.args.self.now c.settle_consoles.new.self c.settle_links.new.self (lists_to 8) (link_lists_to most_links)
    c.settle_consoles.ensures c.settle_links.ensures
