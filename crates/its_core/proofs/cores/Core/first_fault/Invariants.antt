use Rattle.std.proofs.Common.{◌≡◌, drop}
use Rattle.its_core.specs.Cores.{core_at}
use Rattle.its_word.specs.Stores.{first_fault}
use Rattle.its_core.proofs.cores.Core.first_fault.Given as goal

-- the stores so far can be made
abbrev pub invariant-loop-s : goal.invariant-loop-s
invariant-loop-s l = first_fault (core_at l.self l.slot) (drop l.s-index l.stores) ≡ first_fault (core_at l.self l.slot) l.stores
