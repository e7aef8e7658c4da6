use Rattle.std.proofs.Common.{◌≡◌, ◌+◌, ◌/◌, None, Ok, ap, rules, ◌∙◌}
use Rattle.its_files.specs.Files.{words_at}
use Rattle.its_plain.specs.Operator.Files.{rows}
use Rattle.its_verify.proofs.ShowingLaws.{at_line_by, lines_end, lines_fail, lines_next, lines_stop, rows_end, rows_more}
use Rattle.its_verify.proofs.VerifierLaws.{unfailed_by}
use Rattle.its_verify.proofs.ErrLaws.{err_says}
use Rattle.its_verify.proofs.showing.show_rows.Goals as goal

pub returns-in-Some-clause-says : goal.returns-in-Some-clause-says
returns-in-Some-clause-says g c =
    lines_stop _ _ c.args.reader.now _ _ (g.S.Source.left c.args.src.now) _ _
    (rows ((c.args.count + 7) / 8) (words_at c.args.plain.now.files c.args.id)) _ _ _
    (c.in_ok-outcome.was ∙ ap Ok c.in-Some.is) (rows_more ((c.args.count + 7) / 8) c.loop-k.k (words_at c.args.plain.now.files c.args.id)
    (search rules)) c.loop-k.invariant.so_far c.show_row.ensures.says

pub loop-k-preserved : goal.loop-k-preserved
loop-k-preserved g c =
    let is : c.show_row.result ≡ Ok None = c.in_ok-outcome.was ∙ ap Ok c.in_default.is in
    record {
      at_line = at_line_by _ _ _ is c.show_row.ensures.stays;
      onward = c.show_row.ensures.onward is;
      unfailed = unfailed_by _ _ _ _ is c.show_row.ensures.cause c.loop-k.invariant.unfailed;
      so_far = lines_next _ _ _ _ _ _ _ _ _ _ _ is (rows_more ((c.args.count + 7) / 8) c.loop-k.k
          (words_at c.args.plain.now.files c.args.id) (search rules)) c.loop-k.invariant.so_far c.show_row.ensures.says;
    }

pub returns-clause-says : goal.returns-clause-says
returns-clause-says g c = lines_end c.args.reader.now _ (g.S.Source.left c.args.src.now) _
    (rows ((c.args.count + 7) / 8) (words_at c.args.plain.now.files c.args.id)) _
    (rows_end ((c.args.count + 7) / 8) c.loop-k.k (words_at c.args.plain.now.files c.args.id) (search rules)) c.loop-k.invariant.so_far

pub returns-in_err-outcome-clause-says : goal.returns-in_err-outcome-clause-says
returns-in_err-outcome-clause-says g c = λ next.
    err_says _ c.in_err-outcome.field-0.0 _ _ _ _ _ _ c.from_residual.ensures.0
    (lines_fail _ _ c.args.reader.now _ _ (g.S.Source.left c.args.src.now) _ _
    (rows ((c.args.count + 7) / 8) (words_at c.args.plain.now.files c.args.id)) _ _ _
    c.in_err-outcome.was (rows_more ((c.args.count + 7) / 8) c.loop-k.k (words_at c.args.plain.now.files c.args.id) (search rules))
    c.loop-k.invariant.so_far c.show_row.ensures.says next)
