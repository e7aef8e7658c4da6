use Rattle.std.proofs.Common.{refl}
use Rattle.its_world.proofs.WorldLaws.{core_becomes}
use Rattle.its_commit.proofs.TidyLaws.{tidy_core}
use Rattle.its_tick.proofs.user_mode.run_delivery.Goals as goal

pub returns-clause-core : goal.returns-clause-core
returns-clause-core c = core_becomes _ _ _ _ c.deliver.ensures.core c.deliver.ensures.reserved c.deliver.ensures.frames refl

pub returns-clause-tidy : goal.returns-clause-tidy
returns-clause-tidy c = tidy_core _ _ _ _ _ _ c.requires.some
    (core_becomes _ _ _ _ c.deliver.ensures.core c.deliver.ensures.reserved c.deliver.ensures.frames refl) c.requires.tidy
