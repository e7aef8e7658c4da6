use Rattle.std.proofs.Common.{sym, ◌∙◌}
use Rattle.its_top.proofs.ConclusionLaws.{not_fault, not_last_by, so_next, session_over, session_fault}
use Rattle.its_top.proofs.StartLaws.{found_start, start_over}
use Rattle.its_top.proofs.sessions.run.run_items.Goals as goal

pub returns-in_default-clause-ended : goal.returns-in_default-clause-ended
returns-in_default-clause-ended g c = session_fault _ _ _ _ _ _ c.next.new.self _ _ _ _ _ c.loop-found.invariant.so_far c.in_default.ensures.finds

pub returns-then-not-goes_on-clause-ended : goal.returns-then-not-goes_on-clause-ended
returns-then-not-goes_on-clause-ended g c =
    session_over _ _ c.in-Ok.found _ _ _ _ _ _ _ _ c.loop-found.items c.next.new.self _ _ _ _ _ _ c.status.ensures
    (sym c.goes_on.ensures ∙ c.if-not-goes_on.true) (sym c.in-Ok.ensures.number)
    c.in-Ok.ensures.ready c.loop-found.invariant.so_far c.in-Ok.ensures.finds c.take-flow.ensures.takes

pub take-flow-requires-clause-start : goal.take-flow-requires-clause-start
take-flow-requires-clause-start g c = found_start c.loop-found.items.place c.in-Ok.found _ c.in-Ok.ensures.stands c.loop-found.invariant.begun

pub loop-found-preserved : goal.loop-found-preserved
loop-found-preserved g c = record {
  sound = c.take-flow.ensures.sound;
  few = c.in-Ok.ensures.few (not_last_by _ _ _ _ _ _ _ _ _ _ _ (sym c.goes_on.ensures ∙ c.if-not-goes_on.false) c.take-flow.ensures.takes);
  ready = c.in-Ok.ensures.ready;
  onward = c.in-Ok.ensures.onward;
  begun = start_over _ _ c.in-Ok.found _ c.in-Ok.ensures.place
      (not_last_by _ _ _ _ _ _ _ _ _ _ _ (sym c.goes_on.ensures ∙ c.if-not-goes_on.false) c.take-flow.ensures.takes);
  so_far = so_next _ c.in-Ok.found _ _ _ _ _ _ _ _ c.loop-found.items c.next.new.self _ _ _ _ _ _
      (sym c.goes_on.ensures ∙ c.if-not-goes_on.false) (sym c.in-Ok.ensures.number)
      c.loop-found.invariant.so_far c.in-Ok.ensures.finds c.take-flow.ensures.takes;
  read_unfailed = c.in-Ok.ensures.cause.kept ∙ c.loop-found.invariant.read_unfailed;
  write_unfailed = c.take-flow.ensures.cause.unfailed (not_fault _ (sym c.goes_on.ensures ∙ c.if-not-goes_on.false)) ∙ c.loop-found.invariant.write_unfailed;
}
