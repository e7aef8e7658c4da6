use Rattle.std.proofs.Common.{sym}
use Rattle.its_top.proofs.SilentLaws.{turns_next, turns_none}
use Rattle.its_top.proofs.sessions.silent.make_turns.Goals as goal

pub returns-in_default-clause-turns : goal.returns-in_default-clause-turns
returns-in_default-clause-turns c = turns_none _ _ _ _ _ _ _ c.loop-k-test.true c.loop-k.invariant.so_far (sym c.in_default.ensures.turn)

pub loop-k-preserved : goal.loop-k-preserved
loop-k-preserved c = record {
  sound = c.paces_of.ensures.sound;
  so_far = turns_next _ _ _ _ _ _ _ _ _ c.loop-k-test.true c.loop-k.invariant.so_far (sym c.in-Some.ensures.turn) c.paces_of.ensures.state;
}
