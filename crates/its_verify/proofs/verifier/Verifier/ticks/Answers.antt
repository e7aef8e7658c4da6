use Rattle.std.proofs.Common.{None, Ok, ap, ◌≡◌, ◌∙◌}
use Rattle.its_verify.proofs.TranscriptReaderLaws.{passed_onward}
use Rattle.its_verify.proofs.ErrLaws.{err_ticks}
use Rattle.its_verify.proofs.VerifierLaws.{ticks_fail_by}
use Rattle.its_verify.proofs.verifier.Verifier.ticks.Goals as goal

pub returns-in_err-outcome-clause-says : goal.returns-in_err-outcome-clause-says
returns-in_err-outcome-clause-says g c =
    err_ticks _ c.in_err-outcome.field-0.0 _ _ _ _ _ _ c.from_residual.ensures.0
    (ticks_fail_by c.read.result c.args.slot c.args.count c.in_err-outcome.field-0.0 c.args.self.now
    (record (c.args.self.now) { reader = c.read.new.self }) (g.S.Source.left c.args.src.now) (g.S.Source.left c.read.new.src)
    c.read.new.self c.in_err-outcome.was c.read.ensures.reads)

pub returns-clause-onward : goal.returns-clause-onward
returns-clause-onward g c = λ on.
    passed_onward c.pass_if.result _ _ c.read.new.self c.pass_if.new.self c.pass_if.ensures
    (c.read.ensures.onward (c.in_ok-outcome.was ∙ ap Ok c.in_default.is)) (let same : Ok c.pass_if.result ≡ Ok None = on in cc)
