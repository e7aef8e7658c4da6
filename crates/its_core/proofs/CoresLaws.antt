-- Cores that are alike in a part.
use Rattle.std.specs.Prelude.{◌≡◌, ℕ, None, slice_index_or}
use Rattle.std.proofs.Common.{ap}
use Rattle.its_word.specs.Core.{pages_mapped, no_core}
use Rattle.its_core.specs.Cores.{Cores, core_at, reserved_at}

pub same_core_at : (m n : Cores) (k : ℕ) → m.cores ≡ n.cores → core_at m k ≡ core_at n k
unfolding core_at
same_core_at m n k e = ap (λ cs. slice_index_or cs k no_core) e

pub same_reserved_at : (m n : Cores) (k : ℕ) → m.reserved ≡ n.reserved → reserved_at m k ≡ reserved_at n k
unfolding reserved_at
same_reserved_at m n k e = ap (λ rs. slice_index_or rs k None) e

pub same_pages_mapped : (m n : Cores) → m.cores ≡ n.cores → pages_mapped (core_at m) ≡ pages_mapped (core_at n)
unfolding core_at
same_pages_mapped m n e = ap (λ cs. pages_mapped (λ k. slice_index_or cs k no_core)) e
