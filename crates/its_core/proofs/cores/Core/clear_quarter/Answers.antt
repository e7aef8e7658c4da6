use Rattle.std.proofs.Common.{◌≡◌, ◌*◌, ◌+◌, Some, None, slice_index_or, arith, ◌∙◌}
use Rattle.its_core.specs.Cores.{reserved_at}
use Rattle.its_core.proofs.ListLaws.{length-zeroed}
use Rattle.its_core.proofs.ReadLaws.{held_words}
use Rattle.its_core.proofs.HeldLaws.{held_is_some, clear_quarter_only, clear_quarter_pool, clear_cores, clear_only, cleared_clear, quarter_frames}
use Rattle.its_core.proofs.cores.Core.clear_quarter.Goals as goal

pub held_in-h-requires-clause-some : goal.held_in-h-requires-clause-some
held_in-h-requires-clause-some c =
    rw c.deref.ensures.value (held_is_some _ _ _ _ _ _ c.self.invariant.0 c.args.slot (rw c.self.view_is c.requires.some))

pub clear_frame_quarter-requires-clause-ready : goal.clear_frame_quarter-requires-clause-ready
clear_frame_quarter-requires-clause-ready c =
    let e : slice_index_or c.self.inside.held.items c.args.slot None ≡ Some c.held_in-h.result = cc in
    held_words _ _ _ _ _ _ c.self.invariant.0 c.args.slot c.held_in-h.result e

pub invariant_of-self : goal.invariant_of-self
invariant_of-self c =
    let e : slice_index_or c.self.inside.held.items c.args.slot None ≡ Some c.held_in-h.result = cc in (
      rw (c.clear_frame_quarter.ensures.words, c.index.ensures.value, c.quarters_clear.ensures)
          (clear_quarter_pool _ _ _ _ _ _ c.self.invariant.0 c.args.slot c.args.q c.held_in-h.result c.within.ensures c.requires.quarter e),
      c.clear_frame_quarter.ensures.most ∙ c.self.invariant.1,
    )

pub returns-clause-reserved : goal.returns-clause-reserved
returns-clause-reserved c =
    let e : slice_index_or c.self.inside.held.items c.args.slot None ≡ Some c.held_in-h.result = cc in
    rw (c.clear_frame_quarter.ensures.words, c.index.ensures.value, c.quarters_clear.ensures, ← c.self.view_is)
    (clear_quarter_only _ _ _ _ _ _ c.self.invariant.0 c.args.slot c.args.q c.held_in-h.result c.within.ensures c.requires.quarter e)

pub returns-clause-quarters : goal.returns-clause-quarters
returns-clause-quarters c =
    rw (← cleared_clear c.args.q (reserved_at c.args.self.now c.args.slot)) (clear_only _ _ _ _ (returns-clause-reserved c))

pub returns-clause-cores : goal.returns-clause-cores
returns-clause-cores c =
    let e : slice_index_or c.self.inside.held.items c.args.slot None ≡ Some c.held_in-h.result = cc in
    rw (c.clear_frame_quarter.ensures.words, ← c.self.view_is)
    (clear_cores _ _ _ _ _ _ c.self.invariant.0 _ c.args.slot (256 * c.args.q) c.held_in-h.result e (omega arith))

pub returns-clause-frames : goal.returns-clause-frames
returns-clause-frames c =
    let e : slice_index_or c.self.inside.held.items c.args.slot None ≡ Some c.held_in-h.result = cc in
    let a = held_words _ _ _ _ _ _ c.self.invariant.0 c.args.slot c.held_in-h.result e in
    rw (c.index.ensures.value, c.clear_frame_quarter.ensures.words, ← c.self.view_is)
    (quarter_frames _ _ _ _ _ _ c.self.invariant.0 _ c.args.slot _ c.held_in-h.result
    (length-zeroed (1024 * c.held_in-h.result.frame + 256 * c.args.q) 256 c.self.inside.words.words (omega arith)) e)
