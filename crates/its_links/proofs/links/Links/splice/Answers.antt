use Rattle.std.proofs.Common.{length, ap, ◌∙◌, arith, length-set}
use Rattle.its_links.specs.Lists.{times}
use Rattle.its_links.proofs.AgreeLaws.{spliced_counts}
use Rattle.its_links.proofs.CallLaws.{open_links, splice_closed}
use Rattle.its_links.proofs.links.Links.splice.Goals as goal

pub overflow_add-self-inside : goal.overflow_add-self-inside
overflow_add-self-inside c = let o = open_links _ _ _ c.self.view_is c.self.invariant in let t = o.total in let f = o.fits in omega arith

pub before-seam-requires : goal.before-seam-requires
before-seam-requires c = let o = open_links _ _ _ c.self.view_is c.self.invariant in let t = o.total in omega arith

pub overflow_add-self-inside-2 : goal.overflow_add-self-inside-2
overflow_add-self-inside-2 c = let o = open_links _ _ _ c.self.view_is c.self.invariant in let t = o.total in let f = o.fits in omega arith

pub before-last-requires : goal.before-last-requires
before-last-requires c = let o = open_links _ _ _ c.self.view_is c.self.invariant in let t = o.total in omega arith

pub overflow_add-self-inside-3 : goal.overflow_add-self-inside-3
overflow_add-self-inside-3 c = let o = open_links _ _ _ c.self.view_is c.self.invariant in let t = o.total in let f = o.fits in omega arith

pub exchange-requires-2-clause-q : goal.exchange-requires-2-clause-q
exchange-requires-2-clause-q c = let o = open_links _ _ _ c.self.view_is c.self.invariant in let t = o.total in omega arith

pub invariant_of-self : goal.invariant_of-self
invariant_of-self c =
    let o = open_links _ _ _ c.self.view_is c.self.invariant in
    (splice_closed _ _ _ o c.exchange.new.self c.exchange-2.new.self c.args.from c.args.to c.before-seam.result c.before-last.result
    c.requires.from c.requires.to c.requires.two c.before-seam.ensures.only c.before-last.ensures.only c.exchange.ensures.count
    c.exchange.ensures.exchanged c.exchange-2.ensures.count c.exchange-2.ensures.exchanged).invariant

pub returns-clause-lists : goal.returns-clause-lists
returns-clause-lists c =
    let o = open_links _ _ _ c.self.view_is c.self.invariant in
    (splice_closed _ _ _ o c.exchange.new.self c.exchange-2.new.self c.args.from c.args.to c.before-seam.result c.before-last.result
    c.requires.from c.requires.to c.requires.two c.before-seam.ensures.only c.before-last.ensures.only c.exchange.ensures.count
    c.exchange.ensures.exchanged c.exchange-2.ensures.count c.exchange-2.ensures.exchanged).view

pub returns-clause-heads : goal.returns-clause-heads
returns-clause-heads c = ap (λ v. length v.lists) (returns-clause-lists c) ∙ length-set _ _ _ ∙ length-set _ _ _

pub returns-clause-counts : goal.returns-clause-counts
returns-clause-counts c = λ x.
    let o = open_links _ _ _ c.self.view_is c.self.invariant in
    ap (λ v. times x v.lists) (returns-clause-lists c) ∙ spliced_counts _ _ _ o.agrees c.args.from c.args.to x c.requires.from c.requires.to c.requires.two
