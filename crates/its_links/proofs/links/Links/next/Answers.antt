use Rattle.std.proofs.Common.{arith}
use Rattle.its_links.proofs.CallLaws.{open_links, next_is, node_below}
use Rattle.its_links.proofs.links.Links.next.Goals as goal

pub node_after-requires : goal.node_after-requires
node_after-requires c =
    let o = open_links _ _ _ c.self.view_is c.self.invariant in
    let t = o.total in
    let k = o.nodes in
    let b = node_below _ _ _ o c.args.node c.requires in
    omega arith

pub returns : goal.returns
returns c = λ h before after is. next_is _ _ _ (open_links _ _ _ c.self.view_is c.self.invariant) h c.args.node before after
    c.node_after.result is c.node_after.ensures.some c.node_after.ensures.none
