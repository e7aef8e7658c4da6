use Rattle.std.proofs.Common.{◌∙◌, ap}
use Rattle.its_direct.specs.Plain.{no_slots}
use Rattle.its_direct.specs.declared.plain.Plain.{Plain}
use Rattle.its_direct.proofs.SettingLaws.{version_put, version_stays}
use Rattle.its_direct.proofs.plain.Plain.version.Goals.{then-is_empty, else-is_empty}
use Rattle.its_direct.proofs.plain.Plain.version.Goals as goal

pub returns-clause-done : goal.returns-clause-done
returns-clause-done c = elim c.if-is_empty.branch [
  | then-is_empty w ↦
      version_put _ _ _ _ _ c.is_empty.ensures.empty w.if-is_empty.true w.set_version.ensures
      (c.touch_none.ensures ∙ ap (λ (p : Plain). record p { touched = no_slots }) w.self-is)
  | else-is_empty w ↦ version_stays _ _ _ _ c.is_empty.ensures.empty w.if-is_empty.false
      (c.touch_none.ensures ∙ ap (λ (p : Plain). record p { touched = no_slots }) w.self-is)
]
