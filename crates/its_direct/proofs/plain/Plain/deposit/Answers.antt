use Rattle.std.proofs.Common.{sym, ◌∙◌, refl}
use Rattle.its_direct.proofs.SlotLaws.{core_becomes}
use Rattle.its_direct.proofs.LineLaws.{deposit_done, deposit_barred, deposit_tidy}
use Rattle.its_direct.proofs.plain.Plain.deposit.Goals as goal

pub returns-in-Ok-clause-done : goal.returns-in-Ok-clause-done
returns-in-Ok-clause-done c =
    let b = core_becomes c.args.self.now _ _ _ c.in-Ok.ensures.stored c.in-Ok.ensures.reserved refl (record { is = refl }) in
    deposit_done c.args.self.now _ c.touch_only.new.self c.args.slot c.args.a c.args.w _ c.within.ensures (sym c.job.ensures ∙ c.in-Some.is)
    (c.in-Ok.ensures.allowed.0 refl) b c.touch_only.ensures

pub returns-in-Ok-clause-tidy : goal.returns-in-Ok-clause-tidy
returns-in-Ok-clause-tidy c =
    let b = core_becomes c.args.self.now _ _ _ c.in-Ok.ensures.stored c.in-Ok.ensures.reserved refl (record { is = refl }) in
    deposit_tidy c.args.self.now _ c.touch_only.new.self c.args.slot _ _ (sym c.job.ensures ∙ c.in-Some.is) b c.touch_only.ensures c.requires.tidy

pub returns-in-Err-clause-refused : goal.returns-in-Err-clause-refused
returns-in-Err-clause-refused c = deposit_barred _ _ _ _ _ _ _ _ c.job.ensures c.in-Some.is c.in-Err.ensures.refused c.refusal.ensures
