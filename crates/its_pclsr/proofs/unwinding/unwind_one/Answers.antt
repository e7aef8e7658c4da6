use Rattle.its_pclsr.proofs.UnwindingLaws.{one_changes, unwind_keeps}
use Rattle.its_pclsr.proofs.unwinding.unwind_one.Goals as goal

pub returns-clause-change : goal.returns-clause-change
returns-clause-change c = one_changes _ _ _ c.requires.sound c.step.ensures.row

pub returns-clause-sound : goal.returns-clause-sound
returns-clause-sound c = unwind_keeps _ _ _ c.requires.sound c.step.ensures.row
