use Rattle.std.proofs.Common.{◌≡◌, None, Ok, ap, arith, ◌∙◌}
use Rattle.its_print.specs.Printing.{listed}
use Rattle.its_verify.proofs.ShowingLaws.{at_line_by, lines_end, lines_fail, lines_next, lines_stop, listed_end, listed_more}
use Rattle.its_verify.proofs.VerifierLaws.{unfailed_by}
use Rattle.its_verify.proofs.ErrLaws.{err_says}
use Rattle.its_verify.proofs.showing.list_each.Goals as goal

pub returns-in-Some-clause-says : goal.returns-in-Some-clause-says
returns-in-Some-clause-says g c =
    lines_stop _ _ c.args.reader.now _ _ (g.S.Source.left c.args.src.now) _ _ (listed c.args.s c.args.a c.args.words.now) _ _ _
    (c.in_ok-outcome.was ∙ ap Ok c.in-Some.is) (listed_more _ _ _ _ _ c.loop-w-test.true c.w-item.is) c.loop-w.invariant.so_far c.expect.ensures.says

pub loop-w-preserved : goal.loop-w-preserved
loop-w-preserved g c =
    let is : c.expect.result ≡ Ok None = c.in_ok-outcome.was ∙ ap Ok c.in_default.is in
    record {
      at_line = at_line_by _ _ _ is c.expect.ensures.stays;
      onward = c.expect.ensures.onward is;
      at = omega (arith, c.loop-w.invariant.at);
      unfailed = unfailed_by _ _ _ _ is c.expect.ensures.cause c.loop-w.invariant.unfailed;
      so_far = lines_next _ _ _ _ _ _ _ _ _ _ _ is (listed_more _ _ _ _ _ c.loop-w-test.true c.w-item.is) c.loop-w.invariant.so_far c.expect.ensures.says;
    }

pub returns-clause-says : goal.returns-clause-says
returns-clause-says g c = lines_end c.args.reader.now _ (g.S.Source.left c.args.src.now) _ (listed c.args.s c.args.a c.args.words.now) _
    (listed_end _ _ _ _ c.loop-w-test.false) c.loop-w.invariant.so_far

pub returns-in_err-outcome-clause-says : goal.returns-in_err-outcome-clause-says
returns-in_err-outcome-clause-says g c = λ next.
    err_says _ c.in_err-outcome.field-0.0 _ _ _ _ _ _ c.from_residual.ensures.0
    (lines_fail _ _ c.args.reader.now _ _ (g.S.Source.left c.args.src.now) _ _ (listed c.args.s c.args.a c.args.words.now) _ _ _
    c.in_err-outcome.was (listed_more _ _ _ _ _ c.loop-w-test.true c.w-item.is) c.loop-w.invariant.so_far c.expect.ensures.says next)
