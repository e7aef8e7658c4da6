use Rattle.std.proofs.Common.{sym, ◌∙◌}
use Rattle.its_top.proofs.CircleLaws.{circle_fault, circle_none, circle_turn}
use Rattle.its_top.proofs.ConclusionLaws.{not_fault}
use Rattle.its_top.proofs.sessions.circle.circle.Goals as goal

pub returns-in_default-clause-circled : goal.returns-in_default-clause-circled
returns-in_default-clause-circled g c = circle_none _ _ _ _ _ _ _ _ _ c.loop-k-test.true c.loop-k.invariant.so_far (sym c.in_default.ensures.turn)

pub returns-then-not-goes_on-clause-circled : goal.returns-then-not-goes_on-clause-circled
returns-then-not-goes_on-clause-circled g c =
    circle_fault _ _ _ _ _ _ _ _ _ _ _ _ _ c.loop-k-test.true c.loop-k.invariant.so_far (sym c.in-Some.ensures.turn)
    (sym c.goes_on.ensures ∙ c.if-not-goes_on.true)
    c.tick_line-flow.ensures.told

pub loop-k-preserved : goal.loop-k-preserved
loop-k-preserved g c = record {
  sound = c.tick_line-flow.ensures.sound;
  unfailed = c.tick_line-flow.ensures.cause.unfailed (not_fault _ (sym c.goes_on.ensures ∙ c.if-not-goes_on.false)) ∙ c.loop-k.invariant.unfailed;
  so_far = circle_turn _ _ _ _ _ _ _ _ _ _ _ _ _ c.loop-k-test.true c.loop-k.invariant.so_far (sym c.in-Some.ensures.turn) c.tick_line-flow.ensures.state
      (sym c.goes_on.ensures ∙ c.if-not-goes_on.false) c.tick_line-flow.ensures.told;
}
