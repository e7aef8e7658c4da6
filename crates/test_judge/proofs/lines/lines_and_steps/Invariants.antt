use Rattle.its_direct.specs.Plain.{Tidy}
use Rattle.test_judge.proofs.lines.lines_and_steps.Given as goal

abbrev pub invariant-loop-line : goal.invariant-loop-line
invariant-loop-line g l = Tidy l.p
