use Rattle.std.specs.Prelude.{[], ◌∷◌}
use Rattle.its_commit.proofs.TidyLaws.{becomes_pages, tidy_kept}
use Rattle.its_commit.proofs.StandingLaws.{awake_row, of_some, stands_request}
use Rattle.its_commit.proofs.committing.go_on_awake.Goals as goal

pub go_on-requires : goal.go_on-requires
go_on-requires c = record { request = stands_request _ c.requires.stands }

pub returns-clause-row : goal.returns-clause-row
returns-clause-row c = awake_row _ _ _ (c.args.next ∷ c.args.left ∷ []) _ _ _ c.requires.awake c.awake_next-stage.ensures c.go_on.ensures

pub returns-clause-pages : goal.returns-clause-pages
returns-clause-pages c = of_some _ c.requires.stands (returns-clause-row c) (λ f b. becomes_pages _ _ _ _ _ _ b)

pub returns-clause-tidy : goal.returns-clause-tidy
returns-clause-tidy c = of_some _ c.requires.stands (returns-clause-row c) (λ f b. tidy_kept _ _ _ _ _ b c.requires.tidy)
