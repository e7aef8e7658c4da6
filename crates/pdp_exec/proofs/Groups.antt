-- Groups of laws, each for the function whose name it has.
use Rattle.its_plain.proofs.TracedLaws.{ended, joined}
use Rattle.pdp_exec.proofs.MakingLaws.{not_refused, refused_absent, refused_read_only}

pub ruleset chain_step_laws = (joined, ended)

pub ruleset make_one_laws = (refused_absent, refused_read_only, not_refused)
