-- Groups of laws, each for the function whose name it has.
use Rattle.its_records.proofs.TreeLaws.{nth_end, nth_here, nth_next, nth_skip, rest_start}

pub ruleset nth_below_laws = (rest_start, nth_skip, nth_here, nth_next, nth_end)
