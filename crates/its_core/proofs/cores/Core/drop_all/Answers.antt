use Rattle.std.proofs.Common.{◌≡◌, ◌*◌, arith, ap, ◌∙◌}
use Rattle.its_core.specs.Cores.{zeroed}
use Rattle.its_core.proofs.ReadLaws.{listed_seen}
use Rattle.its_core.proofs.EmptyLaws.{dropped_only, dropped_pool, dropped_reserved, dropped_number, drop_frames}
use Rattle.its_core.proofs.cores.Core.drop_all.Goals as goal

pub overflow_sub-self : goal.overflow_sub-self
overflow_sub-self c =
    let n = dropped_number _ _ _ _ _ _ c.self.invariant.0 c.self.inside.lists c.args.slot c.within.ensures in
    let v = c.vacate.ensures.number in
    omega arith

pub invariant_of-self : goal.invariant_of-self
invariant_of-self c =
    let w : c.clear.new.words.items ≡ zeroed (16 * c.args.slot) 16 c.self.inside.accs.items = c.clear.ensures
    ∙ ap (λ i. zeroed i 16 c.self.inside.accs.items) (omega arith) in (
      rw (w, c.vacate.ensures.emptied, c.vacate.ensures.number, c.splice.ensures.lists, c.list_of.ensures)
          (dropped_pool _ _ _ _ _ _ c.self.invariant.0 c.args.slot c.within.ensures),
      c.self.invariant.1,
    )

pub returns-clause-dropped : goal.returns-clause-dropped
returns-clause-dropped c =
    let w : c.clear.new.words.items ≡ zeroed (16 * c.args.slot) 16 c.self.inside.accs.items = c.clear.ensures
    ∙ ap (λ i. zeroed i 16 c.self.inside.accs.items) (omega arith) in
    rw (w, c.vacate.ensures.emptied, ← c.self.view_is) (dropped_only _ _ _ _ _ _ c.self.invariant.0 _ c.args.slot c.within.ensures)

pub returns-clause-reserved : goal.returns-clause-reserved
returns-clause-reserved c = rw (← c.self.view_is) (dropped_reserved _ _ _ _ _ _ c.self.invariant.0 _ _ _)

pub returns-clause-frames : goal.returns-clause-frames
returns-clause-frames c =
    rw (c.vacate.ensures.emptied, c.splice.ensures.lists, c.list_of.ensures, ← c.self.view_is) (drop_frames _ _ _ _ _ _ c.self.invariant.0 _ c.args.slot)

pub returns-clause-listed : goal.returns-clause-listed
returns-clause-listed c = listed_seen _ _ _ _ _ _ (invariant_of-self c).0
