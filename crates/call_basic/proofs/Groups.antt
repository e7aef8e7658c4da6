-- Groups of laws, each for the function whose name it has.
use Rattle.its_shared.proofs.NumberLaws.{under}
use Rattle.call_basic.proofs.RawLaws.{usrvar_target}

pub ruleset usrvar_laws = (under, usrvar_target)
