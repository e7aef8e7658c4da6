use Rattle.std.proofs.Common.{List, subst, ℕ, ◌∙◌}
use Rattle.its_saving.specs.Written.{Puts}
use Rattle.its_saving.proofs.WritingLaws.{puts_all}
use Rattle.its_saving.proofs.line.write_line.Goals as goal

pub returns : goal.returns
returns g c = subst (λ (t : List ℕ). Puts g.K.Sink.written g.K.Sink.faults c.args.out.now c.write_all.new.out c.write_all.result t)
    (c.deref.ensures.0 ∙ c.text_of.ensures)
    (puts_all _ _ _ _ _ _ c.write_all.ensures.all c.write_all.ensures.begun c.write_all.ensures.cause)
