use Rattle.std.proofs.Common.{ap, sym, ◌∙◌}
use Rattle.its_frame.specs.declared.name.CallRow.{CallRow}
use Rattle.its_world.specs.World.{raw_at, state_of}
use Rattle.its_tick.proofs.NeedsLaws.{name_reached, tree_reached}
use Rattle.its_tick.proofs.reach.reach_of.Goals as goal

pub returns-then-logs_out : goal.returns-then-logs_out
returns-then-logs_out c = record {
  slots = tree_reached c.args.w.now.files c.args.w.now.core c.args.w.now.jobs c.args.w.now.alarms.items (state_of c.args.w.now).raw
      c.args.slot c.args.ask.now c.args.call _
      c.requires.call c.logs_out.ensures c.if-logs_out.true;
}

pub returns-in-None : goal.returns-in-None
returns-in-None c = record {
  slots = name_reached (raw_at c.args.w.now.files c.args.w.now.core c.args.w.now.jobs c.args.w.now.alarms.items c.args.slot)
      (state_of c.args.w.now).raw c.args.slot c.args.ask.now c.args.call _ c.requires.call
      c.logs_out.ensures c.if-logs_out.false (sym (ap (λ (r : CallRow). r.reaches) c.row.ensures) ∙ c.in-None.is);
}
