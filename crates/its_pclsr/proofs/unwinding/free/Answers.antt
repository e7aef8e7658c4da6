use Rattle.std.proofs.Common.{refl}
use Rattle.its_stepped.specs.State.{FreeOld}
use Rattle.its_shared.proofs.KeptLaws.{freed_stays}
use Rattle.its_world.proofs.StorageLaws.{store_tidy}
use Rattle.its_pclsr.proofs.PartLaws.{next_made}
use Rattle.its_pclsr.proofs.unwinding.free.Goals as goal

pub returns-clause-part : goal.returns-clause-part
returns-clause-part c =
    next_made c.args.w.now _ FreeOld c.seen.ensures.whole c.requires.next c.free_old.ensures.made
    (freed_stays _ _ c.seen.ensures.whole c.requires.tidy.across _ c.free_old.ensures.made) (record { is = refl })

pub returns-clause-tidy : goal.returns-clause-tidy
returns-clause-tidy c = store_tidy c.args.w.now _ _ (record { is = refl })
    (freed_stays _ _ c.seen.ensures.whole c.requires.tidy.across _ c.free_old.ensures.made) c.requires.tidy
