use Rattle.std.proofs.Common.{ap, length, ◌∙◌}
use Rattle.its_direct.proofs.RestoringLaws.{console_read}
use Rattle.its_direct.proofs.plain.Plain.waiting_at.Goals as goal

pub returns-clause-input : goal.returns-clause-input
returns-clause-input c = c.waiting.ensures.input ∙ ap (λ x. length x.input)
    (console_read c.args.self.now c.args.c _ _ c.index.ensures.value c.index.ensures.below c.index-2.ensures)

pub returns-clause-output : goal.returns-clause-output
returns-clause-output c = c.waiting.ensures.output ∙ ap (λ x. length x.output)
    (console_read c.args.self.now c.args.c _ _ c.index.ensures.value c.index.ensures.below c.index-2.ensures)
