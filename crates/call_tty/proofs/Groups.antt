-- Groups of laws, each for the function whose name it has.
use Rattle.its_shared.proofs.NumberLaws.{under}
use Rattle.call_tty.proofs.HoldLaws.{holds_it, takes}

pub ruleset ttylnd_laws = (takes, holds_it, under)
