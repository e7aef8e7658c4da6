use Rattle.its_pclsr.proofs.UnwindingLaws.{all_others, all_keeps}
use Rattle.its_pclsr.proofs.unwinding.unwind.Goals as goal

pub returns-clause-others : goal.returns-clause-others
returns-clause-others c = all_others _ _ _ c.run.ensures.row

pub returns-clause-sound : goal.returns-clause-sound
returns-clause-sound c = all_keeps _ _ _ c.requires.sound c.run.ensures.row
