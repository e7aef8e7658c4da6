use Rattle.its_top.proofs.AnswerLaws.{answered_by}
use Rattle.its_top.proofs.commands.answer.answer.Goals as goal

pub print-requires-clause-ready : goal.print-requires-clause-ready
print-requires-clause-ready g c = c.perform-performed.ensures.performed.ready

pub returns-clause-answered : goal.returns-clause-answered
returns-clause-answered g c = answered_by _ _ _ _ _ _ _ _ _ _ _ c.perform-performed.ensures.performed c.print.ensures.state c.print.ensures.told
