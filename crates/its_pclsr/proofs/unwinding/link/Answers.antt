use Rattle.std.proofs.Common.{refl}
use Rattle.its_stepped.specs.State.{LinkNew}
use Rattle.its_shared.proofs.KeptLaws.{linked_stays}
use Rattle.its_world.proofs.StorageLaws.{store_tidy}
use Rattle.its_pclsr.proofs.PartLaws.{next_made}
use Rattle.its_pclsr.proofs.unwinding.link.Goals as goal

pub returns-clause-part : goal.returns-clause-part
returns-clause-part c =
    next_made c.args.w.now _ LinkNew c.seen.ensures.whole c.requires.next c.link_new.ensures.made
    (linked_stays _ _ c.seen.ensures.whole c.requires.tidy.across _ c.link_new.ensures.made) (record { is = refl })

pub returns-clause-tidy : goal.returns-clause-tidy
returns-clause-tidy c = store_tidy c.args.w.now _ _ (record { is = refl })
    (linked_stays _ _ c.seen.ensures.whole c.requires.tidy.across _ c.link_new.ensures.made) c.requires.tidy
