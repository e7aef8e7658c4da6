-- Groups of laws, each for the function whose name it has.
use Rattle.call_file.proofs.HeldLaws.{reading, writing}
use Rattle.call_file.proofs.RawLaws.{iot_helps, siot_helps}
use Rattle.its_shared.proofs.NumberLaws.{numbers, under}
use Rattle.call_core.proofs.OtherLaws.{other_few}

pub ruleset close_laws = (reading, writing, numbers)

pub ruleset iot_laws = (reading, writing, iot_helps)

pub ruleset siot_laws = (reading, writing, siot_helps)

pub ruleset siot_part_laws = (reading, writing)

pub ruleset corblk_laws = (under, other_few)
