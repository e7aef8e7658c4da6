use Rattle.std.proofs.Common.{◌≡◌, ◌≢◌, ◌<◌, ◌^◌, ℕ, Some}
use Rattle.its_core.specs.Cores.{core_at}
use Rattle.pdp_exec.specs.Units.{after_units, left}
use Rattle.pdp_exec.proofs.series.run_units.Given as goal

abbrev pub invariant-loop-made : goal.invariant-loop-made
invariant-loop-made l = record {
  pc : l.job.pc < 2 ^ 18;
  left : after_units l.made (Some (left (core_at l.fn.core l.slot) l.fn.job)) ≡ Some (left (core_at l.core l.slot) l.job);
  same : l.made ≡ 0 → (l.core ≡ l.fn.core) × (l.job ≡ l.fn.job);
  others : (k : ℕ) → k ≢ l.slot → core_at l.core k ≡ core_at l.fn.core k;
  reserved : l.core.reserved ≡ l.fn.core.reserved;
  frames : l.core.frames ≡ l.fn.core.frames;
}
