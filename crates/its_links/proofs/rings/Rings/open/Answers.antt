use Rattle.its_links.proofs.RingLaws.{alone_rings}
use Rattle.its_links.proofs.rings.Rings.open.Goals as goal

pub invariant_of-result : goal.invariant_of-result
invariant_of-result c = rw (c.in_ok-each_alone.ensures, c.in_ok-each_alone-2.ensures) (alone_rings c.args.n)
