use Rattle.std.proofs.Common.{◌≡◌, ◌∷◌, false, replicate}
use Rattle.its_records.specs.declared.calls.Pace.TheVariants.{Step}
use Rattle.its_verify.specs.JudgeState.{Sure, RunOn}
use Rattle.its_verify.proofs.judge.Judge.stars_licensed.Given as goal

abbrev pub invariant-loop-slot : goal.invariant-loop-slot
invariant-loop-slot l = record {
  sure : Sure l.self;
  place : l.self.plain.place ≡ l.fn.self.plain.place;
  going : l.self.ended ≡ false;
  so_far : RunOn l.fn.self l.self l.slot (Step ∷ replicate l.more Step) (Step ∷ replicate l.left Step);
}

abbrev pub decreases-loop-slot : goal.decreases-loop-slot
decreases-loop-slot l = l.left
