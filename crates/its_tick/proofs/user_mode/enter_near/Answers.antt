use Rattle.its_commit.proofs.TidyLaws.{tidy_kept}
use Rattle.its_tick.proofs.UserLaws.{near_row}
use Rattle.its_tick.proofs.user_mode.enter_near.Goals as goal

pub returns-clause-row : goal.returns-clause-row
returns-clause-row c = near_row _ _ _ _ _ c.requires.job c.requires.called c.pc_of-pc.ensures c.enter_near.ensures

pub returns-clause-tidy : goal.returns-clause-tidy
returns-clause-tidy c = tidy_kept _ _ _ _ _ c.enter_near.ensures c.requires.tidy
