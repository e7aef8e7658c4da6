use Rattle.std.proofs.Common.{sym, ◌∙◌, refl}
use Rattle.its_direct.proofs.SlotLaws.{core_becomes}
use Rattle.its_direct.proofs.LineLaws.{deposit_tidy}
use Rattle.its_direct.proofs.SettingLaws.{read_only_done}
use Rattle.its_direct.proofs.plain.Plain.read_only.Goals as goal

pub returns-then-has_page-clause-done : goal.returns-then-has_page-clause-done
returns-then-has_page-clause-done c =
    let b = core_becomes c.args.self.now _ _ _ c.protect.ensures.marked c.protect.ensures.reserved refl (record { is = refl }) in
    read_only_done c.args.self.now _ c.touch_only.new.self c.args.slot c.args.page _ _ c.within.ensures (sym c.job.ensures ∙ c.in-Some.is)
    c.has_page.ensures c.if-has_page.true b c.touch_only.ensures

pub returns-then-has_page-clause-tidy : goal.returns-then-has_page-clause-tidy
returns-then-has_page-clause-tidy c =
    let b = core_becomes c.args.self.now _ _ _ c.protect.ensures.marked c.protect.ensures.reserved refl (record { is = refl }) in
    deposit_tidy c.args.self.now _ c.touch_only.new.self c.args.slot _ _ (sym c.job.ensures ∙ c.in-Some.is) b c.touch_only.ensures c.requires.tidy
