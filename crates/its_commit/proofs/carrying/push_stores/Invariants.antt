use Rattle.std.proofs.Common.{◌≡◌, ◌++◌, map, take}
use Rattle.its_stepped.specs.Commit.{owed_store}
use Rattle.its_commit.proofs.carrying.push_stores.Given as goal

abbrev pub invariant-loop-store : goal.invariant-loop-store
invariant-loop-store l = l.owed.items ≡ l.fn.owed.items ++ map owed_store (take l.store-index l.stores)
