use Rattle.std.proofs.Common.{subst}
use Rattle.std.specs.Prelude.{◌<◌, refl}
use Rattle.std.proofs.Common.{◌∙◌}
use Rattle.its_links.specs.Lists.{list_at, count}
use Rattle.its_world.proofs.WaitListLaws.{looked_start, looked_here, looked_in, looked_more}
use Rattle.its_world.proofs.wait_lists.stands_in.Goals as goal

pub loop-k-init : goal.loop-k-init
loop-k-init c = looked_start _ _ _ _ c.front-at.ensures.front

pub returns-then-node-from : goal.returns-then-node-from
returns-then-node-from c = (
  (λ h. subst (λ n. 0 < count n (list_at c.args.wait_lists.now.lists c.args.head))
      (c.if-node-from.true ∙ (rw c.number.ensures.value at c.from.ensures)) (looked_here _ _ _ _ _ _ c.loop-k.invariant c.in-Some.is)),
  (λ h. refl),
)

pub next-at-requires : goal.next-at-requires
next-at-requires c = looked_in _ _ _ _ _ _ c.loop-k.invariant c.in-Some.is

pub loop-k-preserved : goal.loop-k-preserved
loop-k-preserved c = looked_more _ _ _ _ _ _ _ _ c.loop-k.invariant c.in-Some.is (rw c.number.ensures.value at c.from.ensures)
    c.if-node-from.false c.next-at.ensures
