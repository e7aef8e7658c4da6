use Rattle.std.proofs.Common.{refl}
use Rattle.its_direct.proofs.StartLaws.{open_tidy}
use Rattle.its_direct.proofs.plain.Plain.open.Goals as goal

pub returns-clause-tidy : goal.returns-clause-tidy
returns-clause-tidy c = open_tidy _ c.in_ok-core.ensures c.in_ok-jobs.ensures.jobs c.in_ok-files.ensures refl c.in_ok-alarms.ensures.none
    c.in_ok-symbols.ensures.none
