-- Groups of laws, each for the function whose name it has.
use Rattle.its_asm_command.proofs.AddsLaws.{none_added}
use Rattle.its_asm_command.proofs.GatherLaws.{few_blanks, few_read, gather_beyond, gather_blanks, gather_end, gather_failed, gather_next, gather_start}
use Rattle.its_asm_command.proofs.RowLaws.{symbol_fits, symbols_end, symbols_next, symbols_over}

pub ruleset add_symbols_laws = (none_added, symbols_next, symbols_end, symbols_over, symbol_fits)

pub ruleset read_text_laws = (gather_start, gather_next, gather_end, gather_blanks, gather_beyond, gather_failed, few_read, few_blanks)
