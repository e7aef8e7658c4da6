use Rattle.std.proofs.Common.{refl}
use Rattle.its_stepped.specs.State.{UnlinkOld}
use Rattle.its_shared.proofs.KeptLaws.{unlinked_stays}
use Rattle.its_world.proofs.StorageLaws.{store_tidy}
use Rattle.its_pclsr.proofs.PartLaws.{next_made}
use Rattle.its_pclsr.proofs.unwinding.unlink.Goals as goal

pub returns-clause-part : goal.returns-clause-part
returns-clause-part c =
    next_made c.args.w.now _ UnlinkOld c.seen.ensures.whole c.requires.next c.unlink_old.ensures.made
    (unlinked_stays _ _ c.seen.ensures.whole c.requires.tidy.across _ c.unlink_old.ensures.made) (record { is = refl })

pub returns-clause-tidy : goal.returns-clause-tidy
returns-clause-tidy c = store_tidy c.args.w.now _ _ (record { is = refl })
    (unlinked_stays _ _ c.seen.ensures.whole c.requires.tidy.across _ c.unlink_old.ensures.made) c.requires.tidy
