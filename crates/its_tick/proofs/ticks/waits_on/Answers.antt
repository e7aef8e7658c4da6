use Rattle.std.proofs.Common.{inl, inr}
use Rattle.its_tick.proofs.ticks.waits_on.Goals as goal

pub is_blocked-requires : goal.is_blocked-requires
is_blocked-requires c = record {
  stands = elim c.requires.can [
    | inl k ↦ inr (k.tidy.on_lists.each c.args.slot)
    | inr r ↦ inl r.stands
  ];
}
