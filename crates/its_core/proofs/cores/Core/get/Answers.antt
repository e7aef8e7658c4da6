use Rattle.std.proofs.Common.{◌≡◌, ◌+◌, ◌*◌, ◌/◌, Some, None, slice_index_or, arith}
use Rattle.its_core.proofs.ReadLaws.{place_words}
use Rattle.its_core.proofs.cores.Core.get.Goals as goal

pub get-requires : goal.get-requires
get-requires c =
    let e : slice_index_or c.self.inside.places.items (256 * c.args.slot + c.args.a / 1024) None ≡ Some c.in-Some.m = cc in
    let long = place_words _ _ _ _ _ _ c.self.invariant.0 _ _ e in
    omega arith
