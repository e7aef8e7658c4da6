use Rattle.std.proofs.Common.{sym, ◌∙◌, arith}
use Rattle.its_verify.proofs.PeekLaws.{past_end}
use Rattle.its_verify.proofs.peeks.is_peek.Goals as goal

pub returns-then-end-gt-MOST_BYTES : goal.returns-then-end-gt-MOST_BYTES
returns-then-end-gt-MOST_BYTES c = sym (past_end c.args.line.now c.in-Some.end (sym c.line_end.ensures ∙ c.in-Some.is)
    (omega (arith, c.if-end-gt-MOST_BYTES.true)))
