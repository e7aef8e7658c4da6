use Rattle.std.proofs.lemmas.Bool.{lt-ltb}
use Rattle.its_commit.proofs.TidyLaws.{tidy_backed}
use Rattle.its_tick.proofs.CallLaws.{clearing, clear_page, cleared_goes, cleared_held, cleared_row}
use Rattle.its_tick.proofs.FramesLaws.{quarter_frames, quarter_pages}
use Rattle.its_tick.proofs.calls.clear_next.Goals as goal

pub clear_quarter-requires-clause-page : goal.clear_quarter-requires-clause-page
clear_quarter-requires-clause-page c = clear_page _ _ _ _ (clearing c.args.w.now c.args.slot c.args.clear c.args.owes c.requires.holds) c.requires.kept

pub go_to-requires : goal.go_to-requires
go_to-requires c = record {
  request = cleared_goes _ _ _ _ (clearing c.args.w.now c.args.slot c.args.clear c.args.owes c.requires.holds)
      c.requires.kept _ c.clear_quarter.ensures;
}

pub returns-clause-row : goal.returns-clause-row
returns-clause-row c =
    cleared_row _ _ _ _ (clearing c.args.w.now c.args.slot c.args.clear c.args.owes c.requires.holds) c.requires.kept _ _ c.requires.quarter
    c.clear_quarter.ensures
    (cleared_held _ _ _ _ (clearing c.args.w.now c.args.slot c.args.clear c.args.owes c.requires.holds) c.requires.kept _ _
    c.clear_quarter.ensures c.go_to.ensures)

pub returns-clause-tidy : goal.returns-clause-tidy
returns-clause-tidy c =
    tidy_backed _ _ _ _ _ _ c.clear_quarter.ensures (cleared_held _ _ _ _
    (clearing c.args.w.now c.args.slot c.args.clear c.args.owes c.requires.holds) c.requires.kept _ _ c.clear_quarter.ensures
    c.go_to.ensures) c.requires.kept.tidy

pub returns-clause-pages : goal.returns-clause-pages
returns-clause-pages c =
    let x = (clearing c.args.w.now c.args.slot c.args.clear c.args.owes c.requires.holds) in
    quarter_pages _ _ _ _ x.frame c.args.clear _ _ x.is x.page (lt-ltb c.args.clear 4 c.requires.quarter)
    (quarter_frames _ _ _ _ c.args.clear _ _ (clear_page _ _ _ _ x c.requires.kept) c.clear_quarter.ensures
    (cleared_held _ _ _ _ x c.requires.kept _ _ c.clear_quarter.ensures c.go_to.ensures))
