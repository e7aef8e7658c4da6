use Rattle.std.proofs.Common.{is_some}
use Rattle.its_jobs.specs.Table.{job_at}
use Rattle.its_direct.proofs.CallStepLaws.{Marked}
use Rattle.its_direct.proofs.plain.Plain.standing.Given as goal

abbrev pub invariant-loop-k : goal.invariant-loop-k
invariant-loop-k l = record { marked : Marked (λ i. is_some (job_at l.self.jobs i)) l.k l.marks }
