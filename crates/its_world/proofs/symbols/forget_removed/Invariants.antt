use Rattle.std.proofs.Common.{◌≡◌, vec_len, is_none}
use Rattle.its_word.specs.Limits.{slots}
use Rattle.its_jobs.specs.Table.{job_at}
use Rattle.its_world.proofs.SymbolLaws.{Forgotten}
use Rattle.its_world.proofs.symbols.forget_removed.Given as goal

abbrev pub invariant-loop-slot : goal.invariant-loop-slot
invariant-loop-slot l = record {
  forgotten : Forgotten (λ k. is_none (job_at l.jobs k)) l.fn.lists.items l.lists.items l.slot;
  long : vec_len l.lists ≡ slots;
}
