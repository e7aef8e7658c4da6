use Rattle.std.proofs.Common.{◌≡◌, ◌+◌, ◌*◌, Some, None, slice_index_or, arith}
use Rattle.its_core.proofs.PlaceLaws.{protect_pool, place_is_some, place_only, place_reserved, marked_is, protect_frames}
use Rattle.its_core.proofs.cores.Core.protect.Goals as goal

pub present_in-m-requires-clause-present : goal.present_in-m-requires-clause-present
present_in-m-requires-clause-present c =
    rw c.deref.ensures.value (place_is_some _ _ _ _ _ _ c.self.invariant.0 c.args.slot c.args.page c.within.ensures (omega arith)
    (rw c.self.view_is c.requires.present))

pub invariant_of-self : goal.invariant_of-self
invariant_of-self c =
    let e : slice_index_or c.self.inside.places.items (256 * c.args.slot + c.args.page) None ≡ Some c.present_in-m.result = cc in (
      rw c.place_index.ensures (protect_pool _ _ _ _ _ _ c.self.invariant.0 c.args.slot c.args.page c.present_in-m.result c.args.writable
          c.within.ensures (omega arith) e),
      c.self.invariant.1,
    )

pub returns-clause-marked : goal.returns-clause-marked
returns-clause-marked c =
    let e : slice_index_or c.self.inside.places.items (256 * c.args.slot + c.args.page) None ≡ Some c.present_in-m.result = cc in
    let long = c.self.invariant.0.places_long in
    let m = marked_is _ _ _ _ _ _ c.self.invariant.0 c.args.slot c.args.page c.present_in-m.result c.args.writable c.within.ensures (omega arith) e in
    rw (c.place_index.ensures, ← c.self.view_is, ← m)
    (place_only c.self.inside.accs.items c.self.inside.places.items c.self.inside.held.items c.self.inside.held.items
    c.self.inside.words.words c.self.inside.lists _ c.args.slot c.args.page
    (Some (record { frame = c.present_in-m.result.frame; writable = c.args.writable })) c.within.ensures (omega arith) (omega arith))

pub returns-clause-reserved : goal.returns-clause-reserved
returns-clause-reserved c = rw (← c.self.view_is) (place_reserved c.self.inside.accs.items c.self.inside.places.items _
    c.self.inside.held.items c.self.inside.words.words c.self.inside.lists _)

pub returns-clause-frames : goal.returns-clause-frames
returns-clause-frames c =
    let e : slice_index_or c.self.inside.places.items (256 * c.args.slot + c.args.page) None ≡ Some c.present_in-m.result = cc in
    rw (c.place_index.ensures, ← c.self.view_is) (protect_frames _ _ _ _ _ _ c.self.invariant.0 c.args.slot c.args.page
    c.present_in-m.result c.args.writable e)
