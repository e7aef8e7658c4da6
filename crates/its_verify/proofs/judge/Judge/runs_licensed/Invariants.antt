use Rattle.std.proofs.Common.{◌≡◌, false, length}
use Rattle.its_print.specs.Runs.{paces_in}
use Rattle.its_verify.specs.JudgeState.{Sure, LeadsOn}
use Rattle.its_verify.proofs.judge.Judge.runs_licensed.Given as goal

abbrev pub invariant-loop-first : goal.invariant-loop-first
invariant-loop-first l = record {
  sure : Sure l.self;
  place : l.self.plain.place ≡ l.fn.self.plain.place;
  going : l.self.ended ≡ false;
  so_far : LeadsOn l.fn.self l.self l.slot (paces_in l.runs) (paces_in l.rest);
}

abbrev pub decreases-loop-first : goal.decreases-loop-first
decreases-loop-first l = length l.rest
