use Rattle.its_commit.proofs.TidyLaws.{tidy_kept}
use Rattle.its_pclsr.proofs.ApartLaws.{off_back}
use Rattle.its_pclsr.proofs.RowLaws.{backed_row, still}
use Rattle.its_commit.proofs.StandingLaws.{of_some}
use Rattle.its_pclsr.proofs.unwinding.back.Goals as goal

pub go_to-requires : goal.go_to-requires
go_to-requires c = record { request = still _ _ c.give_back.ensures.frame.here c.requires.request }

pub returns-clause-row : goal.returns-clause-row
returns-clause-row c = backed_row _ _ _ _ c.give_back.ensures c.go_to.ensures

pub returns-clause-cores : goal.returns-clause-cores
returns-clause-cores c = of_some _ c.requires.request (returns-clause-row c) (λ r b. off_back _ _ _ _ _ _ b)

pub returns-clause-tidy : goal.returns-clause-tidy
returns-clause-tidy c = of_some _ c.requires.request (returns-clause-row c) (λ r b. tidy_kept _ _ _ _ _ b c.requires.tidy)
