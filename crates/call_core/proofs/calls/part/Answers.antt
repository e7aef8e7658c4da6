-- If a close is half made there is no part.
use Rattle.std.proofs.Common.{sym}
use Rattle.its_world.specs.World.{raw_in, state_of}
use Rattle.call_core.proofs.PartLaws.{part_marked}
use Rattle.call_core.proofs.calls.part.Goals as goal

pub returns-in-Some-clause-next : goal.returns-in-Some-clause-next
returns-in-Some-clause-next c =
    let w = c.args.w.now in
    part_marked (raw_in w c.args.slot) w.files.mark c.in-Some.field-0 (state_of w).raw c.args.slot c.args.ask.now (sym c.in-Some.ensures.owner)
