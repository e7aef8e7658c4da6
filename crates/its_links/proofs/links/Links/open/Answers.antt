use Rattle.its_links.proofs.CallLaws.{opened_alone}
use Rattle.its_links.proofs.links.Links.open.Goals as goal

pub invariant_of-result : goal.invariant_of-result
invariant_of-result c = rw c.in_ok-open.ensures (opened_alone c.args.nodes c.args.heads c.requires).invariant

pub returns : goal.returns
returns c = rw c.in_ok-open.ensures (opened_alone c.args.nodes c.args.heads c.requires).view
