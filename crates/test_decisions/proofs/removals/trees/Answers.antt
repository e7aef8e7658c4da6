use Rattle.std.proofs.Common.{refl}
use Rattle.its_world.proofs.PlaceLaws.{idle_on_lists}
use Rattle.its_commit.proofs.IdleLaws.{idle_tidy}
use Rattle.test_decisions.proofs.removals.trees.Goals as goal

pub removed-requires-clause-tidy : goal.removed-requires-clause-tidy
removed-requires-clause-tidy g c = idle_tidy _ c.in_ok-w.ensures.cores c.in_ok-w.ensures.files c.in_ok-w.ensures.alarms
    c.in_ok-w.ensures.clock c.in_ok-w.ensures.symbols c.in_ok-w-2.ensures.jobs
    (idle_on_lists _ _ c.in_ok-w.ensures.on_lists c.in_ok-w.ensures.frames refl refl)
