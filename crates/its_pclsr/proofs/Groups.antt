-- Groups of laws, each for the function whose name it has.
use Rattle.its_pclsr.proofs.UnwindingLaws.{all_few, all_keeps, all_left, all_none, all_others, all_pages, all_same, one_changes, one_fewer, one_pages, one_same, unwind_keeps}

pub ruleset unwind_one_laws = (one_fewer, one_changes, one_same, unwind_keeps, one_pages)

pub ruleset unwind_laws = (all_same, all_keeps, all_none, all_others, all_few, all_left, all_pages)
