use Rattle.its_commit.proofs.TidyLaws.{tidy_kept}
use Rattle.its_pclsr.proofs.EndingLaws.{steps_some, step_taken}
use Rattle.its_pclsr.proofs.unwinding.take_step.Goals as goal

pub next_step-requires-clause-some : goal.next_step-requires-clause-some
next_step-requires-clause-some c = steps_some _ _ _ c.requires.ending c.requires.sound

pub returns-clause-taken : goal.returns-clause-taken
returns-clause-taken c = step_taken _ _ _ _ _ c.requires.ending c.requires.sound c.owns_mark-mine.ensures c.next_step.ensures.written c.next_step.ensures.step

pub returns-clause-tidy : goal.returns-clause-tidy
returns-clause-tidy c = tidy_kept _ _ _ _ _ (returns-clause-taken c).frame c.requires.tidy
