use Rattle.std.proofs.Common.{Err, ap, ◌∙◌}
use Rattle.its_top.proofs.CircleLaws.{asks_none}
use Rattle.its_top.proofs.SilentLaws.{run_leads, event_on, event_over, event_refused}
use Rattle.its_top.proofs.sessions.silent.obey_line.Goals as goal

pub returns-in-Run-clause-leads : goal.returns-in-Run-clause-leads
returns-in-Run-clause-leads c = run_leads _ _ _ _ _ _ _ _ _ c.in-Run.is c.make_turns.ensures.turns

pub returns-in-Ok-clause-leads : goal.returns-in-Ok-clause-leads
returns-in-Ok-clause-leads c = event_on _ _ _ _ _ _ _ _ _ c.turn_kept.ensures (asks_none _ c.in_default.not-Run) c.in-Ok.ensures.performed

pub returns-in-Err-Ended-clause-leads : goal.returns-in-Err-Ended-clause-leads
returns-in-Err-Ended-clause-leads c =
    event_over _ _ _ _ _ _ _ _ _ c.turn_kept.ensures (c.in-Err-Ended.is ∙ ap Err c.in-Err-Ended.field-0-is) c.perform.ensures.performed

pub returns-in-Err-Refused-clause-leads : goal.returns-in-Err-Refused-clause-leads
returns-in-Err-Refused-clause-leads c =
    event_refused _ _ _ _ _ _ _ _ _ _ _ (c.in-Err-Refused.is ∙ ap Err c.in-Err-Refused.field-0-is) c.reason.ensures c.perform.ensures.performed
