use Rattle.std.proofs.Common.{◌≡◌, drop}
use Rattle.its_core.specs.Cores.{core_at}
use Rattle.its_core.proofs.cores.Core.make_all.Given as goal
use Rattle.its_word.proofs.StoreLaws.{Making}

-- what is left makes of the core what all make of it
abbrev pub invariant-loop-s : goal.invariant-loop-s
invariant-loop-s l = record {
  making : Making (core_at l.fn.self) (core_at l.self) l.slot l.stores (drop l.s-index l.stores);
  reserved : l.self.reserved ≡ l.fn.self.reserved;
  frames : l.self.frames ≡ l.fn.self.frames;
}
