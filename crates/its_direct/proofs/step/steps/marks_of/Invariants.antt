use Rattle.its_jobs.specs.Table.{superior_at}
use Rattle.its_plain.specs.Call.Footprint.{among}
use Rattle.its_decide.specs.Reach.{slots_of}
use Rattle.its_decide.specs.Seen.{machine_seen}
use Rattle.its_direct.proofs.CallStepLaws.{Marked}
use Rattle.its_direct.proofs.step.steps.marks_of.Given as goal

abbrev pub invariant-loop-k : goal.invariant-loop-k
invariant-loop-k l = record {
  marked : Marked (λ i. among i (slots_of l.disturbed (machine_seen l.seen) l.slot
      (superior_at l.seen.jobs.now l.slot))) l.k l.marks;
}
