use Rattle.std.proofs.Common.{◌∙◌, refl}
use Rattle.its_direct.proofs.LoadLaws.{least_is, made_machine, made_tidy}
use Rattle.its_direct.proofs.plain.Plain.make.Goals as goal

pub returns-in-Ok-clause-made : goal.returns-in-Ok-clause-made
returns-in-Ok-clause-made c =
    made_machine c.args.self.now _ _ _ _ _ _ c.requires.tidy c.in-Ok.ensures.slot c.in-Ok.ensures.job c.in-Ok.ensures.superior refl
    (record { is = refl })

pub returns-in-Ok-clause-tidy : goal.returns-in-Ok-clause-tidy
returns-in-Ok-clause-tidy c =
    made_tidy c.args.self.now _ _ _ _ _ _ c.requires.tidy c.in-Ok.ensures.slot c.in-Ok.ensures.job c.in-Ok.ensures.superior refl
    (record { is = refl })

pub returns-in-Ok-clause-slot : goal.returns-in-Ok-clause-slot
returns-in-Ok-clause-slot c = least_is c.args.self.now ∙ c.in-Ok.ensures.slot

pub returns-in-Err-clause-full : goal.returns-in-Err-clause-full
returns-in-Err-clause-full c = least_is c.args.self.now ∙ c.in-Err.ensures.full
