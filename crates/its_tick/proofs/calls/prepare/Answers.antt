use Rattle.its_commit.proofs.TidyLaws.{tidy_backed, tidy_kept}
use Rattle.its_tick.proofs.FramesLaws.{asked_pages, page_prepared_frames, none_prepared_frames}
use Rattle.its_tick.proofs.CallLaws.{asking, asked_unreserved, bare_held, bare_row, paged_goes, paged_held, paged_row}
use Rattle.its_tick.proofs.calls.prepare.Goals as goal

pub reserve-requires : goal.reserve-requires
reserve-requires c = record { none = asked_unreserved _ _ _ (asking c.args.w.now c.args.slot c.args.page c.requires.frame c.requires.page) c.requires.kept }

pub go_to-requires : goal.go_to-requires
go_to-requires c = record {
  request = paged_goes _ _ _ (asking c.args.w.now c.args.slot c.args.page c.requires.frame c.requires.page)
      c.requires.kept _ c.reserve.ensures;
}

pub returns-then-page-clause-row : goal.returns-then-page-clause-row
returns-then-page-clause-row c = paged_row _ _ _ (asking c.args.w.now c.args.slot c.args.page c.requires.frame c.requires.page)
    c.requires.kept _ _ c.if-page.true c.reserve.ensures c.go_to.ensures

pub returns-else-page-clause-row : goal.returns-else-page-clause-row
returns-else-page-clause-row c = bare_row _ _ _ (asking c.args.w.now c.args.slot c.args.page c.requires.frame c.requires.page)
    c.requires.kept _ c.if-page.false c.go_to-else-page.ensures

pub returns-then-page-clause-tidy : goal.returns-then-page-clause-tidy
returns-then-page-clause-tidy c = tidy_backed _ _ _ _ _ _ c.reserve.ensures
    (paged_held _ _ _ (asking c.args.w.now c.args.slot c.args.page c.requires.frame c.requires.page) c.requires.kept _ _ c.reserve.ensures
    c.go_to.ensures) c.requires.kept.tidy

pub returns-else-page-clause-tidy : goal.returns-else-page-clause-tidy
returns-else-page-clause-tidy c = tidy_kept _ _ _ _ _ (bare_held _ _ _
    (asking c.args.w.now c.args.slot c.args.page c.requires.frame c.requires.page) c.requires.kept _ c.go_to-else-page.ensures) c.requires.kept.tidy

pub returns-then-page-clause-pages : goal.returns-then-page-clause-pages
returns-then-page-clause-pages c =
    let x = (asking c.args.w.now c.args.slot c.args.page c.requires.frame c.requires.page) in
    asked_pages _ _ _ _ x.frame _ _ x.is
    (page_prepared_frames _ _ _ _ _ _ _ x.page c.if-page.true (asked_unreserved _ _ _ x c.requires.kept) c.reserve.ensures
    (paged_held _ _ _ x c.requires.kept _ _ c.reserve.ensures c.go_to.ensures))

pub returns-else-page-clause-pages : goal.returns-else-page-clause-pages
returns-else-page-clause-pages c =
    let x = (asking c.args.w.now c.args.slot c.args.page c.requires.frame c.requires.page) in
    asked_pages _ _ _ _ x.frame _ _ x.is (none_prepared_frames _ _ _ _ _ _ x.page c.if-page.false
    (bare_held _ _ _ x c.requires.kept _ c.go_to-else-page.ensures))
