use Rattle.std.proofs.Common.{◌≡◌, ◌-◌}
use Rattle.its_robin.specs.Robin.{first_running}
use Rattle.its_robin.proofs.first_running.Given as goal

abbrev pub invariant-loop-slot : goal.invariant-loop-slot
invariant-loop-slot g l =
    first_running (g.C.Circle.who_runs l.circle) (l.to - l.slot) l.slot ≡ first_running (g.C.Circle.who_runs l.circle) (l.to - l.from) l.from
