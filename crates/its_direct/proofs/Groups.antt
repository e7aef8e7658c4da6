-- Groups of laws, each for the function whose name it has.
use Rattle.its_direct.proofs.InPlaceLaws.{runs_there}
use Rattle.its_direct.proofs.LineLaws.{deposit_barred, deposit_done, deposit_refused, deposit_tidy}
use Rattle.its_direct.proofs.PartLaws.{no_parts, parts_all, parts_at, parts_end, parts_more}
use Rattle.its_direct.proofs.RestoringLaws.{alarm_done, alarm_late, alarm_nobody, bytes_done, bytes_full, bytes_room, closed_nobody, closed_open, closed_shut, disk_done, disk_nofile, disk_refused, draft_done, draft_refused, end_done, end_free, end_unfit, end_used, holder_done, holder_held, holder_nobody, job_below, job_made, job_past, job_there, link_done, link_refused, link_used, sent_done, sent_full, sent_room, sent_unfit, tty_done, tty_refused, tty_unfit, under_circle, under_done, under_nobody, under_none, under_owned, usr_done, usr_refused, usr_unfit, written_done, written_nobody, written_refused, written_unfit}
use Rattle.its_direct.proofs.SeriesLaws.{due_absent, due_stopped, series_kept}
use Rattle.its_direct.proofs.SlotLaws.{core_becomes, placed_at, touched_tidy}

pub ruleset deposit_laws = (deposit_done, deposit_barred, deposit_refused, deposit_tidy, core_becomes)

pub ruleset take_parts_laws = (no_parts, parts_more, parts_at, parts_end, parts_all)

pub ruleset steps_laws = (placed_at, series_kept, due_absent, due_stopped, runs_there)

pub ruleset job_laws = (job_past, job_there, job_below, job_made)

pub ruleset alarm_laws = (alarm_late, alarm_nobody, alarm_done, touched_tidy)

pub ruleset under_laws = (under_nobody, under_none, under_owned)

pub ruleset circle_laws = (under_circle, under_done, touched_tidy)

pub ruleset closed_laws = (closed_nobody, closed_open, closed_shut)

pub ruleset tty_laws = (tty_refused, tty_unfit, tty_done, touched_tidy)

pub ruleset disk_laws = (disk_refused, disk_nofile, disk_done, touched_tidy)

pub ruleset draft_laws = (draft_refused, draft_done, touched_tidy)

pub ruleset written_laws = (written_nobody, written_refused, written_unfit, written_done)

pub ruleset usr_laws = (usr_refused, usr_unfit, usr_done, touched_tidy)

pub ruleset link_laws = (link_refused, link_used, link_done, touched_tidy)

pub ruleset sent_laws = (sent_unfit, sent_full, sent_room, sent_done, touched_tidy)

pub ruleset end_laws = (end_unfit, end_used, end_free, end_done, touched_tidy)

pub ruleset bytes_laws = (bytes_full, bytes_room, bytes_done, touched_tidy)

pub ruleset holder_laws = (holder_nobody, holder_held, holder_done, touched_tidy)
