use Rattle.std.proofs.Common.{refl}
use Rattle.its_direct.proofs.SlotLaws.{core_becomes}
use Rattle.its_direct.proofs.plain.Plain.make_stores.Goals as goal

pub returns : goal.returns
returns c = core_becomes c.args.self.now _ _ _ c.make_all.ensures.stored c.make_all.ensures.reserved refl
    (record { is = refl })
