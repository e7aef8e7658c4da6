-- Groups of laws, each for the function whose name it has.
use Rattle.its_verify.proofs.GoingLaws.{end_says, end_stays, never_on, run_says, tick_says, told_can, told_refused, told_says}
use Rattle.its_verify.proofs.GoneLaws.{bad_says, beyond_says, last_says, not_last}
use Rattle.its_verify.proofs.JudgeStateLaws.{again}
use Rattle.its_verify.proofs.KeepLaws.{keeps_beyond, keeps_cut, keeps_failed, keeps_long, keeps_session, kept_on, kept_start}
use Rattle.its_verify.proofs.LettersLaws.{run_end, run_first_stops, run_on, run_start, run_stops}
use Rattle.its_verify.proofs.OutLaws.{end_out}
use Rattle.its_verify.proofs.TranscriptReaderLaws.{finish_beyond, finish_end, finish_fails, finish_line, finish_long, number_few, passed_stays, peek_fails, peek_lacks, peek_passed, read_beyond, read_end, read_fails, read_line, read_long, same_fails, same_lacks, same_passed}

pub ruleset run_licensed_laws = (again, run_start, run_first_stops, run_on, run_stops, run_end)

pub ruleset keep_laws = (kept_start, kept_on, keeps_session, keeps_long, keeps_cut, keeps_beyond, keeps_failed)

pub ruleset read_laws = (number_few, read_line, read_long, read_end, read_beyond, read_fails)

pub ruleset expect_text_laws = (same_lacks, same_fails, same_passed, passed_stays)

pub ruleset peek_laws = (peek_lacks, peek_fails, peek_passed, passed_stays)

pub ruleset finish_laws = (number_few, finish_end, finish_line, finish_long, finish_beyond, finish_fails, end_out)

pub ruleset line_laws = (tick_says, run_says, end_says, end_stays, never_on)

pub ruleset told_laws = (told_says, told_refused, told_can, end_stays, never_on)

pub ruleset take_laws = (bad_says, beyond_says, last_says, not_last, end_stays, never_on)
