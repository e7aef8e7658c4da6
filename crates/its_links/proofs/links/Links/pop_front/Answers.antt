use Rattle.std.proofs.Common.{sym, ◌∙◌, ap, arith}
use Rattle.its_links.proofs.CallLaws.{first_out}
use Rattle.its_links.proofs.links.Links.pop_front.Goals as goal

pub unlink-requires : goal.unlink-requires
unlink-requires c = let o = c.in_ok-node.ensures.once in omega arith

pub returns-clause-lists : goal.returns-clause-lists
returns-clause-lists c =
    c.unlink.ensures.lists
    ∙ ap (λ ls. record { nodes = c.args.self.now.nodes; lists = ls })
    (first_out _ c.args.head c.in_ok-node.node c.requires (sym c.in_ok-node.ensures.front) c.in_ok-node.ensures.once)
