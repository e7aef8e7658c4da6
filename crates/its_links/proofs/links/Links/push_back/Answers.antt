use Rattle.std.proofs.Common.{length, ap, ◌∙◌, arith, length-set}
use Rattle.its_links.specs.Lists.{times}
use Rattle.its_links.proofs.AgreeLaws.{pushed_counts}
use Rattle.its_links.proofs.CallLaws.{open_links, push_closed}
use Rattle.its_links.proofs.links.Links.push_back.Goals as goal

pub overflow_add-self-inside : goal.overflow_add-self-inside
overflow_add-self-inside c = let o = open_links _ _ _ c.self.view_is c.self.invariant in let t = o.total in let f = o.fits in omega arith

pub before-last-requires : goal.before-last-requires
before-last-requires c = let o = open_links _ _ _ c.self.view_is c.self.invariant in let t = o.total in omega arith

pub exchange-requires-clause-q : goal.exchange-requires-clause-q
exchange-requires-clause-q c = let o = open_links _ _ _ c.self.view_is c.self.invariant in let t = o.total in let k = o.nodes in omega arith

pub invariant_of-self : goal.invariant_of-self
invariant_of-self c =
    let o = open_links _ _ _ c.self.view_is c.self.invariant in
    (push_closed _ _ _ o c.exchange.new.self c.args.head c.args.node c.before-last.result c.requires.head c.requires.node c.requires.apart
    c.before-last.ensures.only c.exchange.ensures.count c.exchange.ensures.exchanged).invariant

pub returns-clause-lists : goal.returns-clause-lists
returns-clause-lists c =
    let o = open_links _ _ _ c.self.view_is c.self.invariant in
    (push_closed _ _ _ o c.exchange.new.self c.args.head c.args.node c.before-last.result c.requires.head c.requires.node c.requires.apart
    c.before-last.ensures.only c.exchange.ensures.count c.exchange.ensures.exchanged).view

pub returns-clause-heads : goal.returns-clause-heads
returns-clause-heads c = ap (λ v. length v.lists) (returns-clause-lists c) ∙ length-set _ _ _

pub returns-clause-counts : goal.returns-clause-counts
returns-clause-counts c = λ x.
    let o = open_links _ _ _ c.self.view_is c.self.invariant in
    ap (λ v. times x v.lists) (returns-clause-lists c) ∙ pushed_counts _ _ _ o.agrees c.args.head c.args.node x c.requires.head
