use Rattle.its_top.proofs.CircleLaws.{asks_none, line_follows, run_follows}
use Rattle.its_top.proofs.sessions.circle.follow.Goals as goal

pub returns-in-Run-clause-follows : goal.returns-in-Run-clause-follows
returns-in-Run-clause-follows g c = run_follows _ _ _ _ _ _ _ _ _ _ _ _ c.in-Run.is c.circle.ensures.circled

pub returns-in_default : goal.returns-in_default
returns-in_default g c = record {
  follows = line_follows _ _ _ _ _ _ _ _ _ _ _ c.turn_kept.ensures (asks_none _ c.in_default.not-Run) c.answer.ensures.answered;
  sound = c.answer.ensures.sound;
  number = c.answer.ensures.kept;
  cause = c.answer.ensures.cause;
}
