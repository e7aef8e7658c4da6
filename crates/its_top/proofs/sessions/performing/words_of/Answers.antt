use Rattle.std.proofs.Common.{ap, arith}
use Rattle.its_top.proofs.ExamLaws.{exam_next, exam_fails, calm_next}
use Rattle.its_top.proofs.sessions.performing.words_of.Goals as goal

pub loop-k-preserved : goal.loop-k-preserved
loop-k-preserved c = record {
  sound = c.exam.ensures.kept;
  calm = calm_next _ _ _ _ _ c.loop-k.invariant.sound.sound c.loop-k.invariant.calm c.in-Ok.ensures.unwinds;
  count = omega (arith, c.push.ensures.len, c.loop-k.invariant.count);
  so_far = exam_next _ _ _ _ _ _ _ _ _ c.loop-k-test.true c.requires.end (ap (λ v. v.raw) c.loop-k.invariant.calm.found)
      c.push.ensures.items c.loop-k.invariant.so_far c.in-Ok.ensures.word;
}

pub returns-in-Err-clause-refused : goal.returns-in-Err-clause-refused
returns-in-Err-clause-refused c =
    exam_fails _ _ _ _ _ _ _ _ c.loop-k-test.true c.requires.end (ap (λ v. v.raw) c.loop-k.invariant.calm.found) c.loop-k.invariant.so_far
    c.in-Err.ensures.refused.calmed
