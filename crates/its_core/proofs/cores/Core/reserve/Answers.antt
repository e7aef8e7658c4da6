use Rattle.std.proofs.Common.{◌≡◌, Some, None, slice_index_or, arith, ◌∙◌}
use Rattle.its_links.specs.Lists.{first, list_at}
use Rattle.its_core.specs.Pool.{frame_words}
use Rattle.its_core.proofs.ReadLaws.{listed_seen}
use Rattle.its_core.proofs.HeldLaws.{reserve_pool, reserve_frames, held_none, some_free, some_seen, first_below, ready_end, ready_only, ready_cores, clear_only}
use Rattle.its_core.proofs.cores.Core.reserve.Goals as goal

pub unwrap-frame-requires : goal.unwrap-frame-requires
unwrap-frame-requires c =
    let none : slice_index_or c.self.inside.held.items c.args.slot None ≡ None =
    held_none _ _ _ _ _ _ c.self.invariant.0 c.args.slot (rw c.self.view_is c.requires.none) in
    rw c.pop_front.ensures.front (some_free _ _ _ _ _ _ c.self.invariant.0 c.args.slot c.within.ensures none)

pub make_ready-requires : goal.make_ready-requires
make_ready-requires c =
    let e : first (list_at c.self.inside.lists.lists 0) ≡ Some c.unwrap-frame.result = cc in
    let below = first_below _ _ _ _ _ _ c.self.invariant.0 c.unwrap-frame.result e in
    let room = c.self.invariant.1 in
    omega arith

pub invariant_of-self : goal.invariant_of-self
invariant_of-self c =
    let none : slice_index_or c.self.inside.held.items c.args.slot None ≡ None =
    held_none _ _ _ _ _ _ c.self.invariant.0 c.args.slot (rw c.self.view_is c.requires.none) in
    let e : first (list_at c.self.inside.lists.lists 0) ≡ Some c.unwrap-frame.result = cc in (
      rw (c.index.ensures.value, c.pop_front.ensures.lists, c.make_ready.ensures.words)
          (reserve_pool _ _ _ _ _ _ c.self.invariant.0 _ c.args.slot c.unwrap-frame.result c.within.ensures none e (ready_end _ _ _ c.frame_end.ensures)),
      c.make_ready.ensures.most ∙ c.self.invariant.1,
    )

pub returns-clause-reserved : goal.returns-clause-reserved
returns-clause-reserved c = (
  frame_words c.make_ready.new.self.words c.unwrap-frame.result,
  rw (c.index.ensures.value, c.make_ready.ensures.words, ← c.self.view_is)
      (ready_only _ _ _ _ _ _ c.self.invariant.0 _ _ c.args.slot (Some (record { frame = c.unwrap-frame.result; clear = 0 })) c.within.ensures),
)

pub returns-clause-quarters : goal.returns-clause-quarters
returns-clause-quarters c = clear_only _ _ _ _ (returns-clause-reserved c).1

pub returns-clause-cores : goal.returns-clause-cores
returns-clause-cores c =
    rw (c.make_ready.ensures.words, ← c.self.view_is) (ready_cores _ _ _ _ _ _ c.self.invariant.0 _ _ _)

pub returns-clause-first : goal.returns-clause-first
returns-clause-first c =
    let none : slice_index_or c.self.inside.held.items c.args.slot None ≡ None =
    held_none _ _ _ _ _ _ c.self.invariant.0 c.args.slot (rw c.self.view_is c.requires.none) in
    rw (← c.self.view_is) (some_seen _ _ _ _ _ _ c.self.invariant.0 c.args.slot c.within.ensures none)

pub returns-clause-frames : goal.returns-clause-frames
returns-clause-frames c =
    let e : first (list_at c.self.inside.lists.lists 0) ≡ Some c.unwrap-frame.result = cc in
    rw (c.index.ensures.value, c.pop_front.ensures.lists, c.make_ready.ensures.words, ← c.self.view_is)
    (reserve_frames _ _ _ _ _ _ c.self.invariant.0 _ c.args.slot c.unwrap-frame.result e (ready_end _ _ _ c.frame_end.ensures))

pub returns-clause-listed : goal.returns-clause-listed
returns-clause-listed c = listed_seen _ _ _ _ _ _ (invariant_of-self c).0
