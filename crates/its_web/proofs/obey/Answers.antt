use Rattle.std.proofs.Common.{Some, ap, sym, refl}
use Rattle.its_web.proofs.AnswerLaws.{obeyed}
use Rattle.its_web.proofs.obey.Goals as goal

-- the program's source had the input, and its sink was empty before and has what is given
pub returns-clause-answers : goal.returns-clause-answers
returns-clause-answers c =
    obeyed _ _ _ _ _ _ _ _ _ _ _ c.give.ensures.given
    (ap Some c.in-Ok.ensures) (ap Some (ap (λ s. s.written) c.in-Ok-open.ensures)) (ap Some (sym c.written.ensures))
    c.its-status.ensures.run c.its-status.ensures.check c.its-status.ensures.generate c.its-status.ensures.verify c.its-status.ensures.asm c.its-status.ensures.save
    c.its-status.ensures.usage c.its-status.ensures.command c.its-status.ensures.memory (c.its-status.ensures.safe_source (λ a b. refl))
