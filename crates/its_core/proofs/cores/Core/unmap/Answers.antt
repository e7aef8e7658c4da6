use Rattle.std.proofs.Common.{◌≡◌, ◌+◌, ◌*◌, Some, None, slice_index_or, arith}
use Rattle.its_core.proofs.ReadLaws.{listed_seen}
use Rattle.its_core.proofs.PlaceLaws.{unmap_pool, unlinked_at, unmap_frames, frame_linked, place_is_some, place_only, place_reserved}
use Rattle.its_core.proofs.cores.Core.unmap.Goals as goal

pub present_in-m-requires-clause-present : goal.present_in-m-requires-clause-present
present_in-m-requires-clause-present c =
    rw c.deref.ensures.value (place_is_some _ _ _ _ _ _ c.self.invariant.0 c.args.slot c.args.page c.within.ensures (omega arith)
    (rw c.self.view_is c.requires.present))

pub unlink-requires : goal.unlink-requires
unlink-requires c =
    let e : slice_index_or c.self.inside.places.items (256 * c.args.slot + c.args.page) None ≡ Some c.present_in-m.result = cc in
    let once = frame_linked _ _ _ _ _ _ c.self.invariant.0 c.args.slot c.args.page c.present_in-m.result c.within.ensures (omega arith) e in
    omega arith

pub overflow_sub-self : goal.overflow_sub-self
overflow_sub-self c =
    let e : slice_index_or c.self.inside.places.items (256 * c.args.slot + c.args.page) None ≡ Some c.present_in-m.result = cc in
    let some = (unmap_pool _ _ _ _ _ _ c.self.invariant.0 c.args.slot c.args.page c.present_in-m.result c.within.ensures (omega arith) e).0 in
    omega arith

pub invariant_of-self : goal.invariant_of-self
invariant_of-self c =
    let e : slice_index_or c.self.inside.places.items (256 * c.args.slot + c.args.page) None ≡ Some c.present_in-m.result = cc in
    let is = unlinked_at _ _ _ _ _ _ c.self.invariant.0 c.args.slot c.args.page c.present_in-m.result c.within.ensures (omega arith) e
    c.unlink.new.self c.push_back.new.self c.unlink.ensures.lists c.push_back.ensures.lists in (
      rw (c.place_index.ensures, is) (unmap_pool _ _ _ _ _ _ c.self.invariant.0 c.args.slot c.args.page c.present_in-m.result
          c.within.ensures (omega arith) e).1,
      c.self.invariant.1,
    )

pub returns-clause-unmapped : goal.returns-clause-unmapped
returns-clause-unmapped c =
    let long = c.self.invariant.0.places_long in
    rw (c.place_index.ensures, ← c.self.view_is)
    (place_only c.self.inside.accs.items c.self.inside.places.items c.self.inside.held.items c.self.inside.held.items
    c.self.inside.words.words c.self.inside.lists _ c.args.slot c.args.page None c.within.ensures (omega arith) (omega arith))

pub returns-clause-reserved : goal.returns-clause-reserved
returns-clause-reserved c =
    rw (← c.self.view_is) (place_reserved c.self.inside.accs.items c.self.inside.places.items _ c.self.inside.held.items
    c.self.inside.words.words c.self.inside.lists _)

pub returns-clause-frames : goal.returns-clause-frames
returns-clause-frames c =
    let e : slice_index_or c.self.inside.places.items (256 * c.args.slot + c.args.page) None ≡ Some c.present_in-m.result = cc in
    let is = unlinked_at _ _ _ _ _ _ c.self.invariant.0 c.args.slot c.args.page c.present_in-m.result c.within.ensures (omega arith) e
    c.unlink.new.self c.push_back.new.self c.unlink.ensures.lists c.push_back.ensures.lists in
    rw (c.place_index.ensures, is, ← c.self.view_is) (unmap_frames _ _ _ _ _ _ c.self.invariant.0 c.args.slot c.args.page c.present_in-m.result e)

pub returns-clause-listed : goal.returns-clause-listed
returns-clause-listed c = listed_seen _ _ _ _ _ _ (invariant_of-self c).0
