use Rattle.its_commit.proofs.TidyLaws.{becomes_pages, tidy_kept}
use Rattle.its_commit.proofs.CommittingLaws.{end_few, end_read, page_reserved}
use Rattle.its_commit.proofs.StandingLaws.{of_some, stands_request, ends_row}
use Rattle.its_commit.proofs.committing.end.Goals as goal

pub owed_steps-owed-requires-clause-read : goal.owed_steps-owed-requires-clause-read
owed_steps-owed-requires-clause-read c = end_read _ _ c.args.slot _ _ _ c.requires.stands c.standing-owes.ensures c.requires.room

pub owed_steps-owed-requires-clause-few : goal.owed_steps-owed-requires-clause-few
owed_steps-owed-requires-clause-few c =
    end_few _ _ c.args.slot _ _ _ _ _ _ c.requires.stands c.standing-owes.ensures c.requires.room c.deref.ensures.0 c.owed_parts-parts.ensures
    (page_reserved c.args.w.now c.args.slot _ c.has_reserved-reserved.ensures)

pub end-requires : goal.end-requires
end-requires c = record { request = stands_request _ c.requires.stands }

pub returns-clause-row : goal.returns-clause-row
returns-clause-row c =
    ends_row _ _ _ _ _ _ _ _ _ _ _ _ c.standing-owes.ensures c.owed_steps-owed.ensures c.deref.ensures.0 c.owed_parts-parts.ensures
    (page_reserved c.args.w.now c.args.slot _ c.has_reserved-reserved.ensures) c.end.ensures

pub returns-clause-pages : goal.returns-clause-pages
returns-clause-pages c = of_some _ c.requires.stands (returns-clause-row c) (λ f b. becomes_pages _ _ _ _ _ _ b)

pub returns-clause-tidy : goal.returns-clause-tidy
returns-clause-tidy c = of_some _ c.requires.stands (returns-clause-row c) (λ f b. tidy_kept _ _ _ _ _ b c.requires.tidy)
