use Rattle.std.proofs.Common.{sym, ◌∙◌}
use Rattle.its_saving.proofs.CellLaws.{begun_ends, taken_ends, taken_goes, takes_begun, takes_ok}
use Rattle.its_saving.proofs.WritingLaws.{broken_of, written_of}
use Rattle.its_saving.proofs.cores.write_kept.Goals as goal

pub returns-then-goes_on-clause-takes : goal.returns-then-goes_on-clause-takes
returns-then-goes_on-clause-takes g c = takes_ok _ _ _ _ _ _ _ _ _ _
    (taken_goes _ _ _ _ _ _ _ _ c.push.ensures.items (sym c.goes_on.ensures ∙ c.if-goes_on.true))

pub returns-in_err-end_row-clause-takes : goal.returns-in_err-end_row-clause-takes
returns-in_err-end_row-clause-takes g c = takes_begun _ _ _ _ _ _ _ _ _ _ c.from_residual.ensures.0
    (begun_ends _ _ _ _ c.args.row.now.a c.args.row.now.words.items c.args.a c.args.w (sym c.goes_on.ensures ∙ c.if-goes_on.false)
    (broken_of _ _ _ _ _ _ _ c.in_err-end_row.was c.end_row.ensures.writes))

pub returns-clause-takes : goal.returns-clause-takes
returns-clause-takes g c = takes_ok _ _ _ _ _ _ _ _ _ _
    (taken_ends _ _ _ _ c.args.row.now.a c.args.row.now.words.items _ _ c.args.a c.args.w c.end_row.ensures.empty c.push-2.ensures.items
    (sym c.goes_on.ensures ∙ c.if-goes_on.false) (written_of _ _ _ _ _ _ _ c.in_ok-end_row.was c.end_row.ensures.writes))
