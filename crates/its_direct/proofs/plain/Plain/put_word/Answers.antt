use Rattle.std.proofs.Common.{refl}
use Rattle.its_direct.proofs.SlotLaws.{core_becomes}
use Rattle.its_direct.proofs.plain.Plain.put_word.Goals as goal

pub returns-in-Ok-clause-stored : goal.returns-in-Ok-clause-stored
returns-in-Ok-clause-stored c =
    core_becomes c.args.self.now _ _ _ c.in-Ok.ensures.stored c.in-Ok.ensures.reserved refl (record { is = refl })
