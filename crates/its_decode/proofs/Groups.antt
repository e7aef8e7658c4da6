-- Groups of laws, each for the function whose name it has.
use Rattle.its_plain.proofs.ReadLaws.{unread}
use Rattle.its_plain.proofs.TracedLaws.{ended, joined}

pub ruleset fetch_argument_laws = (joined, ended, unread)
