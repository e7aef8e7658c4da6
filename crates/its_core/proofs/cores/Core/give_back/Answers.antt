use Rattle.std.proofs.Common.{◌≡◌, Some, None, slice_index_or, arith}
use Rattle.its_core.proofs.ReadLaws.{held_below, listed_seen}
use Rattle.its_core.proofs.HeldLaws.{give_pool, give_frames, held_is_some, set_only, held_cores, clear_only}
use Rattle.its_core.proofs.PlaceLaws.{frame_unlinked}
use Rattle.its_core.proofs.cores.Core.give_back.Goals as goal

pub held_in-h-requires-clause-some : goal.held_in-h-requires-clause-some
held_in-h-requires-clause-some c =
    rw c.deref.ensures.value (held_is_some _ _ _ _ _ _ c.self.invariant.0 c.args.slot (rw c.self.view_is c.requires.some))

pub push_back-requires-clause-node : goal.push_back-requires-clause-node
push_back-requires-clause-node c =
    let e : slice_index_or c.self.inside.held.items c.args.slot None ≡ Some c.held_in-h.result = cc in
    let below = held_below _ _ _ _ _ _ c.self.invariant.0 c.args.slot c.held_in-h.result e in
    let nodes = c.self.invariant.0.nodes in
    omega arith

pub push_back-requires-clause-apart : goal.push_back-requires-clause-apart
push_back-requires-clause-apart c =
    let e : slice_index_or c.self.inside.held.items c.args.slot None ≡ Some c.held_in-h.result = cc in
    frame_unlinked _ _ _ _ _ _ c.self.invariant.0 c.args.slot c.held_in-h.result e

pub invariant_of-self : goal.invariant_of-self
invariant_of-self c =
    let e : slice_index_or c.self.inside.held.items c.args.slot None ≡ Some c.held_in-h.result = cc in (
      rw (c.index.ensures.value, c.push_back.ensures.lists) (give_pool _ _ _ _ _ _ c.self.invariant.0 c.args.slot c.held_in-h.result
          c.within.ensures e),
      c.self.invariant.1,
    )

pub returns-clause-reserved : goal.returns-clause-reserved
returns-clause-reserved c = rw (c.index.ensures.value, ← c.self.view_is) (set_only _ _ _ _ _ _ c.self.invariant.0 _ c.args.slot None c.within.ensures)

pub returns-clause-quarters : goal.returns-clause-quarters
returns-clause-quarters c = clear_only _ _ _ _ (returns-clause-reserved c)

pub returns-clause-cores : goal.returns-clause-cores
returns-clause-cores c =
    rw (← c.self.view_is) (held_cores c.self.inside.accs.items c.self.inside.places.items c.self.inside.held.items _
    c.self.inside.words.words c.self.inside.lists _)

pub returns-clause-frames : goal.returns-clause-frames
returns-clause-frames c =
    let e : slice_index_or c.self.inside.held.items c.args.slot None ≡ Some c.held_in-h.result = cc in
    rw (c.index.ensures.value, c.push_back.ensures.lists, ← c.self.view_is) (give_frames _ _ _ _ _ _ c.self.invariant.0 c.args.slot c.held_in-h.result e)

pub returns-clause-listed : goal.returns-clause-listed
returns-clause-listed c = listed_seen _ _ _ _ _ _ (invariant_of-self c).0
