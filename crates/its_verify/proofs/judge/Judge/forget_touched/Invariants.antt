use Rattle.std.proofs.Common.{◌≡◌}
use Rattle.its_verify.specs.JudgeState.{ForgetsBelow}
use Rattle.its_verify.proofs.judge.Judge.forget_touched.Given as goal

abbrev pub invariant-loop-slot : goal.invariant-loop-slot
invariant-loop-slot l = record {
  plain : l.self.plain ≡ l.fn.self.plain;
  ended : l.self.ended ≡ l.fn.self.ended;
  so_far : ForgetsBelow l.slot l.self.plain l.fn.self.dots l.self.dots;
}
