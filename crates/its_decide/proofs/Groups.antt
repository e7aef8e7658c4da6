-- Groups of laws, each for the function whose name it has.
use Rattle.its_files.proofs.EntryLaws.{draft_stands}
use Rattle.its_shared.proofs.NumberLaws.{under, usr_number}
use Rattle.its_shared.proofs.SeenLaws.{seen_count}
use Rattle.its_shared.proofs.StopLaws.{loaded_fits}
use Rattle.its_decide.proofs.FileLaws.{reading, seen_full, writing}
use Rattle.its_decide.proofs.SiotLaws.{moved_failed, moved_next, moved_other, moved_reaching, siot_target}

pub ruleset close_draft_laws = (draft_stands, writing, seen_count)

pub ruleset access_laws = (under, reading, usr_number)

pub ruleset fillen_laws = (under, reading, writing, draft_stands)

pub ruleset siot_write_laws = (loaded_fits, writing, seen_full, draft_stands)

pub ruleset next_move_laws = (siot_target, moved_failed, moved_other, moved_reaching, moved_next)
