-- Groups of laws, each for the function whose name it has.
use Rattle.its_commit.proofs.IdleLaws.{idle_frames, idle_page, idle_sound, idle_tidy}
use Rattle.its_records.proofs.FreeLaws.{limit_first}

pub ruleset trees_laws = (idle_sound, idle_frames, idle_page, idle_tidy, limit_first)

pub ruleset nothing_to_unwind_laws = (idle_sound, idle_frames, idle_page, idle_tidy, limit_first)
