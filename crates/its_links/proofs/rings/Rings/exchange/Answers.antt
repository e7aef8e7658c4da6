use Rattle.std.proofs.lemmas.List.{get_or_read}
use Rattle.its_links.proofs.RingLaws.{exchanged_with}
use Rattle.its_links.proofs.rings.Rings.exchange.Goals as goal

pub invariant_of-self : goal.invariant_of-self
invariant_of-self c =
    let hp = rw (← c.self.view_is) at c.requires.p in
    let hq = rw (← c.self.view_is) at c.requires.q in
    exchanged_with _ _ c.self.invariant c.args.p c.args.q hp hq c.index-after_p.result.now c.index-after_q.result.now
    (get_or_read _ c.args.p _ hp c.index-after_p.ensures 0) (get_or_read _ c.args.q _ hq c.index-after_q.ensures 0)
