use Rattle.std.proofs.Common.{◌≡◌, None, Ok, ap, map, ◌∙◌}
use Rattle.its_files.specs.Files.{file_at as file_of}
use Rattle.its_plain.specs.Operator.Files.{filed_line}
use Rattle.its_verify.proofs.ShowingLaws.{at_line_by, lines_end, lines_fail, lines_next, lines_stop, filed_end, filed_more}
use Rattle.its_verify.proofs.VerifierLaws.{unfailed_by}
use Rattle.its_verify.proofs.ErrLaws.{err_says}
use Rattle.its_verify.proofs.showing.show_each.Goals as goal

pub returns-in-Some-clause-says : goal.returns-in-Some-clause-says
returns-in-Some-clause-says g c =
    lines_stop _ _ c.args.reader.now _ _ (g.S.Source.left c.args.src.now) _ _ (map filed_line (map (file_of c.args.plain.now.files) c.args.ids.now)) _ _ _
    (c.in_ok-outcome.was ∙ ap Ok c.in-Some.is) (filed_more c.args.plain.now.files c.args.ids.now c.loop-id.id-index 0 c.loop-id-test.true)
    c.loop-id.invariant.so_far c.show_entry.ensures.says

pub loop-id-preserved : goal.loop-id-preserved
loop-id-preserved g c =
    let is : c.show_entry.result ≡ Ok None = c.in_ok-outcome.was ∙ ap Ok c.in_default.is in
    record {
      at_line = at_line_by _ _ _ is c.show_entry.ensures.stays;
      onward = c.show_entry.ensures.onward is;
      unfailed = unfailed_by _ _ _ _ is c.show_entry.ensures.cause c.loop-id.invariant.unfailed;
      so_far = lines_next _ _ _ _ _ _ _ _ _ _ _ is (filed_more c.args.plain.now.files c.args.ids.now c.loop-id.id-index 0
          c.loop-id-test.true) c.loop-id.invariant.so_far c.show_entry.ensures.says;
    }

pub returns-clause-says : goal.returns-clause-says
returns-clause-says g c = lines_end c.args.reader.now _ (g.S.Source.left c.args.src.now) _
    (map filed_line (map (file_of c.args.plain.now.files) c.args.ids.now)) _
    (filed_end c.args.plain.now.files c.args.ids.now c.loop-id.id-index c.loop-id-test.false) c.loop-id.invariant.so_far

pub returns-in_err-outcome-clause-says : goal.returns-in_err-outcome-clause-says
returns-in_err-outcome-clause-says g c = λ next.
    err_says _ c.in_err-outcome.field-0.0 _ _ _ _ _ _ c.from_residual.ensures.0
    (lines_fail _ _ c.args.reader.now _ _ (g.S.Source.left c.args.src.now) _ _ (map filed_line (map (file_of c.args.plain.now.files) c.args.ids.now)) _ _ _
    c.in_err-outcome.was (filed_more c.args.plain.now.files c.args.ids.now c.loop-id.id-index 0 c.loop-id-test.true)
    c.loop-id.invariant.so_far c.show_entry.ensures.says next)
