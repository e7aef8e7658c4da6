use Rattle.std.proofs.Common.{◌≡◌, ◌*◌, take, is_some, count_by}
use Rattle.its_core.specs.Frames.{row, emptied}
use Rattle.its_core.proofs.cores.vacate.Given as goal

abbrev pub invariant-loop-page : goal.invariant-loop-page
invariant-loop-page l =
    (l.places.items ≡ emptied (256 * l.slot) l.page l.fn.places.items)
    × (l.number ≡ count_by is_some (take l.page (row l.fn.places.items l.slot)))
