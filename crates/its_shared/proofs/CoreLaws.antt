-- Cores that are the same, if their lists are.
use Rattle.std.specs.Prelude.{◌≡◌, ℕ, Option, option_map, slice_index_or}
use Rattle.std.proofs.Common.{ap}
use Rattle.its_word.specs.Core.{no_core}
use Rattle.its_word.specs.Only.{Same}
use Rattle.its_core.specs.Cores.{Cores, Reserved, core_at, clear_at}
use Rattle.its_core.proofs.CoresLaws.{same_reserved_at}

pub same_core : (a b : Cores) (k : ℕ) → b.cores ≡ a.cores → core_at b k ≡ core_at a k
unfolding core_at
same_core a b k h = ap (λ cs. slice_index_or cs k no_core) h

pub same_clear : (a b : Cores) → b.reserved ≡ a.reserved → Same (clear_at a) (clear_at b)
same_clear a b h = record { each = λ k. ap (λ (r : Option Reserved). option_map (λ x. x.clear) r) (same_reserved_at b a k h) }
