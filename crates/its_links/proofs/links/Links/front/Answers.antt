use Rattle.std.proofs.Common.{◌≡◌, ◌<◌, arith}
use Rattle.its_links.proofs.CallLaws.{open_links, front_is, if_first, first_times, node_below}
use Rattle.its_links.specs.Lists.{times, list_at}
use Rattle.its_links.proofs.links.Links.front.Goals as goal

pub overflow_add-self-inside : goal.overflow_add-self-inside
overflow_add-self-inside c = let o = open_links _ _ _ c.self.view_is c.self.invariant in let t = o.total in let f = o.fits in omega arith

pub node_after-requires : goal.node_after-requires
node_after-requires c = let o = open_links _ _ _ c.self.view_is c.self.invariant in let t = o.total in omega arith

pub returns-clause-front : goal.returns-clause-front
returns-clause-front c = front_is _ _ _ (open_links _ _ _ c.self.view_is c.self.invariant) c.args.head c.node_after.result c.requires
    c.node_after.ensures.some c.node_after.ensures.none

pub returns-clause-within : goal.returns-clause-within
returns-clause-within c =
    let o = open_links _ _ _ c.self.view_is c.self.invariant in
    if_first (λ x. x < c.args.self.now.nodes) (list_at c.args.self.now.lists c.args.head) c.node_after.result (returns-clause-front c)
    (λ x e. node_below _ _ _ o x (first_times _ c.args.head x e))

pub returns-clause-once : goal.returns-clause-once
returns-clause-once c =
    let o = open_links _ _ _ c.self.view_is c.self.invariant in
    if_first (λ x. times x c.args.self.now.lists ≡ 1) (list_at c.args.self.now.lists c.args.head) c.node_after.result (returns-clause-front c)
    (λ x e. let some = first_times c.args.self.now.lists c.args.head x e in let once = o.agrees.once x in omega arith)
