-- Groups of laws, each for the function whose name it has.
use Rattle.its_files.proofs.EntryLaws.{draft_stands}
use Rattle.its_shared.proofs.SeenLaws.{seen_count}
use Rattle.its_shared.proofs.StopLaws.{loaded_fits}
use Rattle.call_file.proofs.HeldLaws.{reading, writing}
use Rattle.call_file.proofs.SeenLaws.{seen_full}

pub ruleset close_draft_laws = (draft_stands, seen_count)

pub ruleset fillen_laws = (reading, writing, draft_stands)

pub ruleset siot_write_laws = (loaded_fits, seen_full, draft_stands)
