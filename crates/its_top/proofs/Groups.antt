-- Groups of laws, each for the function whose name it has.
use Rattle.its_top.proofs.AssemblingLaws.{asm_beyond, asm_failed, asm_refusal, asm_session, asm_unmade}
use Rattle.its_top.proofs.CircleLaws.{circle_end, circle_fault, circle_none, circle_start, circle_turn}
use Rattle.its_top.proofs.ConclusionLaws.{session_fault, session_over, so_next, so_start}
use Rattle.its_top.proofs.ExamLaws.{calm_next, calm_start, exam_end, exam_fails, exam_next, exam_start}
use Rattle.its_top.proofs.FilingLaws.{counting_end, counting_none, counting_some, looking_next, looking_start}
use Rattle.its_top.proofs.ObeyLaws.{obeyed_asm, obeyed_check, obeyed_gen, obeyed_none, obeyed_run, obeyed_save, obeyed_verify}
use Rattle.its_top.proofs.PerformLaws.{append_performed, clock_performed, cont_performed, deposit_performed, end_file_performed, end_performed, go_performed, int_performed, nothing_performed, read_only_performed, run_performed, stop_performed, symbol_performed, typed_performed, version_performed, words_performed}
use Rattle.its_top.proofs.SilentLaws.{silent_broken, silent_next, silent_over, silent_start, turns_done, turns_next, turns_none, turns_start}
use Rattle.its_top.proofs.StartLaws.{found_later, found_start}
use Rattle.its_top.proofs.TallyLaws.{few_lines, none_past, play_end, play_next, play_start, some_within}
use Rattle.its_top.proofs.VerifyingLaws.{tells_cut, tells_long, tells_no, tells_nothing, tells_yes}

pub ruleset assemble_laws = (asm_session, asm_refusal, asm_failed, asm_beyond, asm_unmade)

pub ruleset play_all_laws = (play_start, play_next, play_end, some_within, none_past, few_lines)

pub ruleset tell_laws = (tells_yes, tells_no, tells_long, tells_cut, tells_nothing)

pub ruleset circle_laws = (circle_start, circle_turn, circle_fault, circle_none, circle_end)

pub ruleset count_files_laws = (looking_start, looking_next, counting_some, counting_none, counting_end)

pub ruleset make_turns_laws = (turns_start, turns_next, turns_none, turns_done)

pub ruleset obey_all_laws = (silent_start, silent_next, silent_over, silent_broken, found_start, found_later)

pub ruleset perform_laws = (nothing_performed, run_performed, end_performed, end_file_performed, append_performed, version_performed, go_performed, words_performed, read_only_performed, symbol_performed, typed_performed, int_performed, deposit_performed, stop_performed, cont_performed, clock_performed)

pub ruleset words_of_laws = (exam_start, exam_next, exam_fails, exam_end, calm_start, calm_next)

pub ruleset run_items_laws = (so_start, so_next, session_over, session_fault, found_start, found_later)

pub ruleset obey_laws = (obeyed_run, obeyed_check, obeyed_gen, obeyed_none, obeyed_verify, obeyed_asm, obeyed_save)
