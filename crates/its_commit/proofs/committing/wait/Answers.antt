use Rattle.its_commit.proofs.TidyLaws.{becomes_pages, tidy_kept}
use Rattle.its_commit.proofs.StandingLaws.{of_some, stands_request, waits_row}
use Rattle.its_commit.proofs.committing.wait.Goals as goal

pub go_to-requires : goal.go_to-requires
go_to-requires c = record { request = stands_request _ c.requires.stands }

pub returns-clause-row : goal.returns-clause-row
returns-clause-row c = waits_row _ _ _ _ _ _ c.standing-owes.ensures c.go_to.ensures

pub returns-clause-pages : goal.returns-clause-pages
returns-clause-pages c = of_some _ c.requires.stands (returns-clause-row c) (λ f b. becomes_pages _ _ _ _ _ _ b)

pub returns-clause-tidy : goal.returns-clause-tidy
returns-clause-tidy c = of_some _ c.requires.stands (returns-clause-row c) (λ f b. tidy_kept _ _ _ _ _ b c.requires.tidy)
