use Rattle.std.proofs.Common.{sym, ap, ◌∙◌}
use Rattle.its_links.specs.Lists.{Linked}
use Rattle.its_world.proofs.WaitListLaws.{opened_lists, opened_filed}
use Rattle.its_world.proofs.PlaceLaws.{place_none}
use Rattle.its_world.proofs.world.World.open.Goals as goal

pub invariant_of-result-clause-wait_lists_nodes : goal.invariant_of-result-clause-wait_lists_nodes
invariant_of-result-clause-wait_lists_nodes c = ap (λ (l : Linked). l.nodes) c.in_ok-wait_lists.ensures ∙ sym c.in_ok-frames.ensures.length

pub invariant_of-result-clause-wait_lists_heads : goal.invariant_of-result-clause-wait_lists_heads
invariant_of-result-clause-wait_lists_heads c = opened_lists c.in_ok-wait_lists.wait_lists _ c.in_ok-wait_lists.ensures

pub returns-clause-on_lists : goal.returns-clause-on_lists
returns-clause-on_lists c = opened_filed _ _ _ c.in_ok-wait_lists.ensures (λ k. place_none _ k (c.in_ok-frames.ensures.none k))
