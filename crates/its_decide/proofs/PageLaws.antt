-- The pages of all jobs are those of the cores.
use Rattle.std.specs.Prelude.{◌≡◌}
use Rattle.its_word.specs.Core.{pages_mapped}
use Rattle.its_core.specs.Cores.{core_at}
use Rattle.its_plain.specs.Machine.{mapped}
use Rattle.its_shared.proofs.SeenLaws.{pages_seen}
use Rattle.its_decide.specs.Fits.{SeenFits}
use Rattle.its_decide.specs.Seen.{machine_seen}
use Rattle.its_decide.specs.declared.caller.Seen.{Seen}

pub seen_pages : (s : Seen) → SeenFits s → mapped (machine_seen s) ≡ pages_mapped (core_at s.core.now)
seen_pages s fits = pages_seen s.files.now s.core.now s.jobs.now s.alarms.now.items fits.blank
