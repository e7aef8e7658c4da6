use Rattle.std.proofs.Common.{◌≤◌, ◌-◌, ◌+◌, ◌*◌, length}
use Rattle.its_core.specs.Cores.{core_at}
use Rattle.its_word.specs.Limits.{budget}
use Rattle.pdp_exec.proofs.ChainLaws.{Along}
use Rattle.pdp_exec.proofs.chain.find.Given as goal

-- what is left of the chain from here is the whole chain
abbrev pub invariant-loop-step : goal.invariant-loop-step
invariant-loop-step l = record {
  used : l.used ≤ budget;
  few : length l.reads.items ≤ 2 * l.used + 1;
  along : Along (core_at l.core l.slot) l.job (65 - l._step) l.w l.used l.reads.items;
}
