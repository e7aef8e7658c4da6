use Rattle.std.proofs.Common.{◌≡◌, Some, None, true, slice_index_or, arith}
use Rattle.its_core.proofs.ReadLaws.{held_below, listed_seen}
use Rattle.its_core.proofs.HeldLaws.{held_only, held_is_some, clear_only}
use Rattle.its_core.proofs.PlaceLaws.{map_pool, zero_page_is, clear_is, clear_is_some, place_none, place_only, mapped_there, map_frames, frame_unlinked}
use Rattle.its_core.proofs.cores.Core.map.Goals as goal

pub held_in-h-requires-clause-some : goal.held_in-h-requires-clause-some
held_in-h-requires-clause-some c =
    rw c.deref.ensures.value (held_is_some _ _ _ _ _ _ c.self.invariant.0 c.args.slot
    (clear_is_some _ _ _ _ _ _ c.self.invariant.0 c.args.slot 4 (rw c.self.view_is c.requires.clear)))

pub invariant_of-self : goal.invariant_of-self
invariant_of-self c =
    let e : slice_index_or c.self.inside.held.items c.args.slot None ≡ Some c.held_in-h.result = cc in
    let most = c.self.invariant.0.most in
    let none = place_none _ _ _ _ _ _ c.self.invariant.0 c.args.target c.args.page c.within-2.ensures (omega arith) (rw c.self.view_is c.requires.absent) in (
      rw (c.place_index.ensures, c.index.ensures.value, c.push_back.ensures.lists, c.list_of.ensures)
          (map_pool _ _ _ _ _ _ c.self.invariant.0 c.args.slot c.args.target c.args.page c.held_in-h.result c.within.ensures
          c.within-2.ensures (omega arith) e none (omega arith)),
      c.self.invariant.1,
    )

pub returns-clause-mapped : goal.returns-clause-mapped
returns-clause-mapped c =
    let e : slice_index_or c.self.inside.held.items c.args.slot None ≡ Some c.held_in-h.result = cc in
    let long = c.self.invariant.0.places_long in
    let four = clear_is _ _ _ _ _ _ c.self.invariant.0 c.args.slot 4 c.held_in-h.result e (rw c.self.view_is c.requires.clear) in
    let zero = zero_page_is _ _ _ _ _ _ c.self.invariant.0 c.args.slot c.held_in-h.result e four in
    rw (c.place_index.ensures, ← c.self.view_is, ← zero)
    (place_only c.self.inside.accs.items c.self.inside.places.items c.self.inside.held.items _ c.self.inside.words.words c.self.inside.lists
    _ c.args.target c.args.page (Some (record { frame = c.held_in-h.result.frame; writable = true })) c.within-2.ensures (omega arith) (omega arith))

pub returns-clause-taken : goal.returns-clause-taken
returns-clause-taken c =
    let long = c.self.invariant.0.held_long in
    let lt = c.within.ensures in
    rw (c.index.ensures.value, ← c.self.view_is)
    (held_only c.self.inside.accs.items c.self.inside.places.items _ c.self.inside.held.items c.self.inside.words.words c.self.inside.lists
    _ c.args.slot None (omega arith))

pub returns-clause-quarters : goal.returns-clause-quarters
returns-clause-quarters c = clear_only _ _ _ _ (returns-clause-taken c)

pub returns-clause-there : goal.returns-clause-there
returns-clause-there c =
    let e : slice_index_or c.self.inside.held.items c.args.slot None ≡ Some c.held_in-h.result = cc in
    let four = clear_is _ _ _ _ _ _ c.self.invariant.0 c.args.slot 4 c.held_in-h.result e (rw c.self.view_is c.requires.clear) in
    let zero = zero_page_is _ _ _ _ _ _ c.self.invariant.0 c.args.slot c.held_in-h.result e four in
    rw (c.place_index.ensures, ← zero)
    (mapped_there _ _ _ _ _ _ c.self.invariant.0 _ _ c.args.target c.args.page
    (Some (record { frame = c.held_in-h.result.frame; writable = true })) c.within-2.ensures (omega arith))

pub push_back-requires-clause-node : goal.push_back-requires-clause-node
push_back-requires-clause-node c =
    let e : slice_index_or c.self.inside.held.items c.args.slot None ≡ Some c.held_in-h.result = cc in
    let below = held_below _ _ _ _ _ _ c.self.invariant.0 c.args.slot c.held_in-h.result e in
    let nodes = c.self.invariant.0.nodes in
    omega arith

pub push_back-requires-clause-apart : goal.push_back-requires-clause-apart
push_back-requires-clause-apart c =
    let e : slice_index_or c.self.inside.held.items c.args.slot None ≡ Some c.held_in-h.result = cc in
    frame_unlinked _ _ _ _ _ _ c.self.invariant.0 c.args.slot c.held_in-h.result e

pub returns-clause-frames : goal.returns-clause-frames
returns-clause-frames c =
    let e : slice_index_or c.self.inside.held.items c.args.slot None ≡ Some c.held_in-h.result = cc in
    rw (c.place_index.ensures, c.index.ensures.value, c.push_back.ensures.lists, c.list_of.ensures, ← c.self.view_is)
    (map_frames _ _ _ _ _ _ c.self.invariant.0 c.args.slot c.args.target c.args.page c.held_in-h.result e)

pub returns-clause-listed : goal.returns-clause-listed
returns-clause-listed c = listed_seen _ _ _ _ _ _ (invariant_of-self c).0
