-- Groups of laws, each for the function whose name it has.
use Rattle.its_monitor.proofs.FileLaws.{helped_unmarked, new_done, new_exists, new_full, new_kept, new_plain}
use Rattle.its_monitor.proofs.KeptLaws.{calm_off, calm_same, calmed_off, calmed_same, registers_off, stored_off}
use Rattle.its_monitor.proofs.LoadLaws.{load_clear, load_kept, load_made, load_none, load_plain, load_refused, load_room, load_stored, load_unreserved, load_writable}
use Rattle.its_monitor.proofs.ProtectLaws.{page_there, read_only_absent, read_only_done, read_only_kept, read_only_none, read_only_plain}
use Rattle.its_monitor.proofs.RegisterLaws.{cont_done, cont_kept, cont_plain, go_done, go_kept, go_plain, interrupt_done, interrupt_kept, interrupt_plain, registers_refused, state_found, state_plain, state_refused, stop_done, stop_kept, stop_plain}
use Rattle.its_monitor.proofs.SymbolLaws.{symbol_done, symbol_full, symbol_keeps, symbol_none, symbol_plain}
use Rattle.its_monitor.proofs.WordLaws.{deposit_can, deposit_done, deposit_kept, deposit_none, deposit_plain, deposit_refused, exam_found, exam_none, exam_plain, exam_refused, exam_there}

pub ruleset file_new_laws = (new_done, new_plain, new_kept, new_exists, new_full, helped_unmarked)

pub ruleset read_only_laws = (read_only_done, read_only_plain, read_only_kept, read_only_absent, read_only_none, page_there, stored_off)

pub ruleset go_laws = (go_done, go_plain, go_kept, registers_refused, registers_off)

pub ruleset stop_laws = (stop_done, stop_plain, stop_kept, registers_refused, registers_off)

pub ruleset cont_laws = (cont_done, cont_plain, cont_kept, registers_refused, registers_off)

pub ruleset interrupt_laws = (interrupt_done, interrupt_plain, interrupt_kept, registers_refused, registers_off)

pub ruleset state_laws = (state_found, state_plain, state_refused, calm_same, calm_off)

pub ruleset symbol_laws = (symbol_done, symbol_plain, symbol_keeps, symbol_full, symbol_none)

pub ruleset exam_laws = (exam_none, exam_refused, exam_there, exam_found, exam_plain, calmed_same, calmed_off)

pub ruleset deposit_laws = (deposit_none, deposit_refused, deposit_can, deposit_done, deposit_plain, deposit_kept, stored_off)

pub ruleset load_word_laws = (load_none, load_refused, load_clear, load_writable, load_room, load_unreserved, load_stored, load_made, load_plain, load_kept)
