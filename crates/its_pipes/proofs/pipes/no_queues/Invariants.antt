use Rattle.std.proofs.Common.{◌≡◌, ℕ, vec_len}
use Rattle.its_pipes.specs.Pipes.{no_queue, queue_at}
use Rattle.its_pipes.proofs.pipes.no_queues.Given as goal

abbrev pub invariant-loop-l : goal.invariant-loop-l
invariant-loop-l l = (vec_len l.v ≡ l._l) × ((k : ℕ) → queue_at l.v.items k ≡ no_queue)
