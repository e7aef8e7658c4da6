use Rattle.std.proofs.Common.{length, ap, ◌∙◌, arith}
use Rattle.std.proofs.lemmas.List.{length-map}
use Rattle.its_links.specs.Lists.{times}
use Rattle.its_links.proofs.CountLaws.{times-without_same, times-without_other}
use Rattle.its_links.proofs.CallLaws.{open_links, unlink_closed, node_below}
use Rattle.its_links.proofs.links.Links.unlink.Goals as goal

pub before-before-requires : goal.before-before-requires
before-before-requires c =
    let o = open_links _ _ _ c.self.view_is c.self.invariant in
    let t = o.total in
    let k = o.nodes in
    let b = node_below _ _ _ o c.args.node c.requires in
    omega arith

pub invariant_of-self : goal.invariant_of-self
invariant_of-self c =
    let o = open_links _ _ _ c.self.view_is c.self.invariant in
    (unlink_closed _ _ _ o c.exchange.new.self c.args.node c.before-before.result c.requires c.before-before.ensures.only
    c.exchange.ensures.count c.exchange.ensures.exchanged).invariant

pub returns-clause-lists : goal.returns-clause-lists
returns-clause-lists c =
    let o = open_links _ _ _ c.self.view_is c.self.invariant in
    (unlink_closed _ _ _ o c.exchange.new.self c.args.node c.before-before.result c.requires c.before-before.ensures.only
    c.exchange.ensures.count c.exchange.ensures.exchanged).view

pub returns-clause-within : goal.returns-clause-within
returns-clause-within c = node_below _ _ _ (open_links _ _ _ c.self.view_is c.self.invariant) c.args.node c.requires

pub returns-clause-freed : goal.returns-clause-freed
returns-clause-freed c = ap (λ v. times c.args.node v.lists) (returns-clause-lists c) ∙ times-without_same c.args.node _

pub returns-clause-heads : goal.returns-clause-heads
returns-clause-heads c = ap (λ v. length v.lists) (returns-clause-lists c) ∙ length-map _ _

pub returns-clause-counts : goal.returns-clause-counts
returns-clause-counts c = λ x ne. ap (λ v. times x v.lists) (returns-clause-lists c) ∙ times-without_other c.args.node x _ ne
