use Rattle.std.proofs.Common.{◌∷◌, [], Option, Some, Ok, subst}
use Rattle.its_print.specs.Printing.{Refused, text_of_line}
use Rattle.its_verify.specs.TranscriptReader.{Says}
use Rattle.its_verify.specs.Rulings.{at_end, expects}
use Rattle.its_verify.specs.declared.outcome.Outcome.{Outcome}
use Rattle.its_verify.proofs.ErrLaws.{err_concludes}
use Rattle.its_verify.proofs.TranscriptReaderLaws.{refused_ends, refused_fails, refused_lacks}
use Rattle.its_verify.proofs.OutLaws.{line_out, out_ok_behind}
use Rattle.its_verify.proofs.transcript_reader.TranscriptReader.refused.Goals as goal

pub returns-clause-ends : goal.returns-clause-ends
returns-clause-ends g c =
    refused_ends c.args.number c.args.reason c.finish.result c.args.self.now c.expect.new.self
    (g.S.Source.left c.args.src.now) (g.S.Source.left c.expect.new.src) (g.S.Source.left c.finish.new.src)
    (λ next.
    subst (λ (o : Option Outcome). Says (Ok o) c.args.self.now c.expect.new.self (g.S.Source.left c.args.src.now)
    (g.S.Source.left c.expect.new.src) (expects (Refused c.args.number c.args.reason ∷ []) next) next)
    c.in_default.is (c.in_ok-outcome.ensures.says next))
    c.finish.ensures.ends

pub returns-in-Some-clause-ends : goal.returns-in-Some-clause-ends
returns-in-Some-clause-ends g c =
    refused_lacks c.args.number c.args.reason c.in-Some.outcome c.args.self.now c.expect.new.self _ (g.S.Source.left c.expect.new.src)
    (λ next.
    subst (λ (o : Option Outcome). Says (Ok o) c.args.self.now c.expect.new.self (g.S.Source.left c.args.src.now)
    (g.S.Source.left c.expect.new.src) (expects (Refused c.args.number c.args.reason ∷ []) next) next)
    c.in-Some.is (c.in_ok-outcome.ensures.says next))

pub returns-clause-out : goal.returns-clause-out
returns-clause-out g c =
    out_ok_behind c.finish.result (g.S.Source.left c.args.src.now) (g.S.Source.left c.expect.new.src) (g.S.Source.left c.finish.new.src)
    (λ t.
    (subst (λ (o : Option Outcome). Says (Ok o) c.args.self.now c.expect.new.self (g.S.Source.left c.args.src.now)
    (g.S.Source.left c.expect.new.src) (expects (Refused c.args.number c.args.reason ∷ []) at_end) at_end)
    c.in_default.is (c.in_ok-outcome.ensures.says at_end) t).0)
    c.finish.ensures.out

pub returns-in-Some-clause-out : goal.returns-in-Some-clause-out
returns-in-Some-clause-out g c =
    line_out (text_of_line (Refused c.args.number c.args.reason)) (Ok (Some c.in-Some.outcome)) c.args.self.now c.expect.new.self
    (g.S.Source.left c.args.src.now) (g.S.Source.left c.expect.new.src)
    (λ next.
    subst (λ (o : Option Outcome). Says (Ok o) c.args.self.now c.expect.new.self (g.S.Source.left c.args.src.now)
    (g.S.Source.left c.expect.new.src) (expects (Refused c.args.number c.args.reason ∷ []) next) next)
    c.in-Some.is (c.in_ok-outcome.ensures.says next))

pub returns-in_err-outcome-clause-ends : goal.returns-in_err-outcome-clause-ends
returns-in_err-outcome-clause-ends g c =
    err_concludes _ c.in_err-outcome.field-0.0 c.args.self.now _ _ _ c.from_residual.ensures.0
    (refused_fails c.args.number c.args.reason c.in_err-outcome.field-0.0 c.args.self.now c.expect.new.self (g.S.Source.left c.args.src.now)
    (g.S.Source.left c.expect.new.src)
    c.in_err-outcome.ensures.says)
