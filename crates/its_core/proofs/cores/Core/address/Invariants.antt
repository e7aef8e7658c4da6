use Rattle.std.proofs.Common.{◌-◌}
use Rattle.its_core.specs.Cores.{core_at}
use Rattle.its_word.proofs.AddressLaws.{Along}
use Rattle.its_core.proofs.cores.Core.address.Given as goal

abbrev pub invariant-loop-slot : goal.invariant-loop-slot
invariant-loop-slot l = Along (core_at l.self l.slot) l.fn.w l.fn.used l.fn.reads.items l.used l.word l.last l.reads.items

abbrev pub decreases-loop-slot : goal.decreases-loop-slot
decreases-loop-slot l = 64 - l.used
