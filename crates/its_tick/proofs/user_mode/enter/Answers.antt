use Rattle.its_commit.proofs.TidyLaws.{tidy_kept}
use Rattle.its_tick.proofs.UserLaws.{call_row}
use Rattle.its_tick.proofs.user_mode.enter.Goals as goal

pub returns-clause-row : goal.returns-clause-row
returns-clause-row c = call_row _ _ _ _ c.requires.job c.site_of-site.ensures c.enter.ensures

pub returns-clause-tidy : goal.returns-clause-tidy
returns-clause-tidy c = tidy_kept _ _ _ _ _ c.enter.ensures c.requires.tidy
