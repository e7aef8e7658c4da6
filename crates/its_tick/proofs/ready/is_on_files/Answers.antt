use Rattle.std.proofs.Common.{ap, sym, ◌∙◌}
use Rattle.its_frame.specs.declared.name.CallRow.{CallRow}
use Rattle.its_world.specs.World.{raw_at}
use Rattle.its_tick.proofs.NeedsLaws.{never_helped}
use Rattle.its_tick.proofs.ready.is_on_files.Goals as goal

pub returns-in-Never : goal.returns-in-Never
returns-in-Never c =
    never_helped (raw_at c.args.w.now.files c.args.w.now.core c.args.w.now.jobs c.args.w.now.alarms.items c.args.slot) c.args.ask.now
    c.args.call c.requires.call
    (sym (ap (λ (r : CallRow). r.files) c.row.ensures) ∙ c.in-Never.is)
