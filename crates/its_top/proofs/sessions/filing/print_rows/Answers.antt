use Rattle.std.proofs.Common.{◌*◌, ◌∙◌, sym, ap, arith, take, drop}
use Rattle.its_files.specs.Files.{words_at}
use Rattle.its_print.specs.Printing.{Row, text_of_line}
use Rattle.its_top.proofs.FilingLaws.{standing_then, rows_count, rows_next, rows_end, writes_next, writes_cut}
use Rattle.its_top.proofs.ConclusionLaws.{not_fault}
use Rattle.its_top.proofs.WritingLaws.{told_as}
use Rattle.its_top.proofs.sessions.filing.print_rows.Goals as goal

pub returns-then-not-goes_on-clause-told : goal.returns-then-not-goes_on-clause-told
returns-then-not-goes_on-clause-told g c =
    let n = rows_count c.args.count c.div_ceil-row-end.result c.div_ceil-row-end.ensures in
    writes_cut _ _ _ _ _ _ _ (sym c.goes_on.ensures ∙ c.if-not-goes_on.true)
    (rows_next _ _ _ _ _ (omega (arith, n, c.loop-row-test.true)) c.loop-row.invariant.so_far)
    (told_as _ _ _ _ _ _ (ap (λ s. text_of_line (Row (take 8 (drop (c.loop-row.row * 8) (words_at s c.args.id)))))
    c.loop-row.invariant.stood.files) c.print_row_of-flow.ensures.told)

pub loop-row-preserved : goal.loop-row-preserved
loop-row-preserved g c =
    let n = rows_count c.args.count c.div_ceil-row-end.result c.div_ceil-row-end.ensures in
    let on = sym c.goes_on.ensures ∙ c.if-not-goes_on.false in
    record {
      sound = c.print_row_of-flow.ensures.sound;
      stood = standing_then _ _ _ c.loop-row.invariant.stood c.print_row_of-flow.ensures.stood;
      so_far = writes_next _ _ _ _ _ _ _ on (rows_next _ _ _ _ _ (omega (arith, n, c.loop-row-test.true)) c.loop-row.invariant.so_far)
          (told_as _ _ _ _ _ _ (ap (λ s. text_of_line (Row (take 8 (drop (c.loop-row.row * 8) (words_at s c.args.id)))))
          c.loop-row.invariant.stood.files) c.print_row_of-flow.ensures.told);
      unfailed = c.print_row_of-flow.ensures.cause.unfailed (not_fault _ on) ∙ c.loop-row.invariant.unfailed;
    }

pub returns-clause-told : goal.returns-clause-told
returns-clause-told g c =
    let n = rows_count c.args.count c.div_ceil-row-end.result c.div_ceil-row-end.ensures in
    rows_end _ _ _ _ _ (omega (arith, n, c.loop-row-test.false, c.loop-row.auto.row-end)) c.loop-row.invariant.so_far
