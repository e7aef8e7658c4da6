use Rattle.its_links.proofs.CallLaws.{open_links, node_below, short_lists}
use Rattle.its_links.proofs.links.Links.seen.Goals as goal

pub returns-clause-once : goal.returns-clause-once
returns-clause-once c = (open_links _ _ _ c.self.view_is c.self.invariant).agrees.once

pub returns-clause-below : goal.returns-clause-below
returns-clause-below c = node_below _ _ _ (open_links _ _ _ c.self.view_is c.self.invariant)

pub returns-clause-short : goal.returns-clause-short
returns-clause-short c = short_lists _ _ _ (open_links _ _ _ c.self.view_is c.self.invariant)
