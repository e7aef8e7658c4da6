use Rattle.std.proofs.Common.{refl}
use Rattle.its_direct.proofs.EffectLaws.{page_protected, page_tidied}
use Rattle.its_direct.proofs.SlotLaws.{core_becomes}
use Rattle.its_direct.proofs.plain.Plain.protect.Goals as goal

pub returns-clause-row : goal.returns-clause-row
returns-clause-row c =
    let b = core_becomes c.args.self.now _ _ _ c.protect.ensures.marked c.protect.ensures.reserved refl (record { is = refl }) in
    page_protected _ _ _ _ _ c.requires.can b

pub returns-clause-tidy : goal.returns-clause-tidy
returns-clause-tidy c =
    let b = core_becomes c.args.self.now _ _ _ c.protect.ensures.marked c.protect.ensures.reserved refl (record { is = refl }) in
    page_tidied _ _ _ c.args.page _ c.requires.can b c.requires.tidy
