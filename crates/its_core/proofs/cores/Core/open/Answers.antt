use Rattle.std.proofs.Common.{refl}
use Rattle.its_core.proofs.EmptyLaws.{empty, empty_pool}
use Rattle.its_core.specs.Pool.{all_accs, all_places}
use Rattle.its_word.specs.Limits.{slots}
use Rattle.its_core.proofs.cores.Core.open.Goals as goal

pub invariant_of-result : goal.invariant_of-result
invariant_of-result c =
    rw (c.in_ok-filled.ensures, c.in_ok-filled-2.ensures, c.in_ok-filled-3.ensures, c.in_ok-open.ensures, c.in_ok-all_free.ensures)
    (empty_pool all_accs all_places slots refl refl refl, refl)

pub returns : goal.returns
returns c =
    rw (c.in_ok-filled.ensures, c.in_ok-filled-2.ensures, c.in_ok-filled-3.ensures, c.in_ok-open.ensures, c.in_ok-all_free.ensures)
    (empty all_accs all_places slots refl)
