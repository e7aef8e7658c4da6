use Rattle.std.proofs.Common.{◌≡◌, ◌∷◌, ◌-◌, false, replicate}
use Rattle.its_verify.specs.JudgeState.{Sure, RunOn}
use Rattle.its_verify.proofs.judge.Judge.run_licensed.Given as goal

abbrev pub invariant-loop-k : goal.invariant-loop-k
invariant-loop-k l = record {
  sure : Sure l.self;
  place : l.self.plain.place ≡ l.fn.self.plain.place;
  going : l.self.ended ≡ false;
  so_far : RunOn l.fn.self l.self l.slot (l.run.pace ∷ replicate l.run.more l.run.pace) (replicate (l.run.more - l._k) l.run.pace);
}
