use Rattle.its_commit.proofs.TidyLaws.{tidy_core}
use Rattle.its_pclsr.proofs.ApartLaws.{off_one}
use Rattle.its_pclsr.proofs.RowLaws.{paid_row, still}
use Rattle.its_commit.proofs.StandingLaws.{of_some}
use Rattle.its_pclsr.proofs.unwinding.pay.Goals as goal

pub go_to-requires : goal.go_to-requires
go_to-requires c = record { request = still _ _ c.make.ensures.frame.here c.requires.request }

pub returns-clause-row : goal.returns-clause-row
returns-clause-row c = paid_row _ _ _ _ _ _ c.make.ensures c.go_to.ensures

pub returns-clause-cores : goal.returns-clause-cores
returns-clause-cores c = of_some _ c.requires.request (returns-clause-row c) (λ r b. off_one _ _ _ _ _ _ b)

pub returns-clause-tidy : goal.returns-clause-tidy
returns-clause-tidy c = of_some _ c.requires.request (returns-clause-row c) (λ r b. tidy_core _ _ _ _ _ _ c.requires.job b c.requires.tidy)
