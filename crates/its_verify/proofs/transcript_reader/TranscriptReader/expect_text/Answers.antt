use Rattle.std.proofs.Common.{Option, None, Ok, ap, subst, rules, ◌≡◌, ◌∙◌}
use Rattle.its_verify.specs.TranscriptReader.{ReadsOn}
use Rattle.its_verify.specs.declared.outcome.Outcome.{Outcome}
use Rattle.its_verify.proofs.TranscriptReaderLaws.{passed_onward, same_fails, same_passed}
use Rattle.its_verify.proofs.ErrLaws.{err_says}
use Rattle.its_verify.proofs.transcript_reader.TranscriptReader.expect_text.Goals as goal

pub returns-clause-says : goal.returns-clause-says
returns-clause-says g c =
    same_passed c.args.line.now c.pass_if.result c.eq-same.result c.args.self.now c.read.new.self c.pass_if.new.self _ _
    (subst (λ (o : Option Outcome). ReadsOn (Ok o) c.args.self.now c.read.new.self (g.S.Source.left c.args.src.now)
    (g.S.Source.left c.read.new.src)) c.in_default.is c.in_ok-outcome.ensures.reads)
    c.in_ok-outcome.ensures.beside (search rules) c.pass_if.ensures

pub returns-in_err-outcome-clause-says : goal.returns-in_err-outcome-clause-says
returns-in_err-outcome-clause-says g c = λ next.
    err_says _ c.in_err-outcome.field-0.0 c.args.self.now c.read.new.self _ _ _ _ c.from_residual.ensures.0
    (same_fails c.args.line.now c.in_err-outcome.field-0.0 c.args.self.now c.read.new.self (g.S.Source.left c.args.src.now)
    (g.S.Source.left c.read.new.src) c.in_err-outcome.ensures.reads next)

pub returns-clause-onward : goal.returns-clause-onward
returns-clause-onward g c = λ on.
    passed_onward c.pass_if.result _ _ c.read.new.self c.pass_if.new.self c.pass_if.ensures
    (c.read.ensures.onward (c.in_ok-outcome.was ∙ ap Ok c.in_default.is)) (let same : Ok c.pass_if.result ≡ Ok None = on in cc)
