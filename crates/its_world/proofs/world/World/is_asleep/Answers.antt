use Rattle.std.specs.Prelude.{◌<◌, option_copied}
use Rattle.std.proofs.Common.{sym, ◌∙◌, ap, arith}
use Rattle.its_in_call.specs.Calls.{frame_seen}
use Rattle.its_world.specs.Filed.{channel_of}
use Rattle.its_world.proofs.BlockedLaws.{asleep}
use Rattle.its_world.proofs.world.World.is_asleep.Goals as goal

pub returns : goal.returns
returns c = λ h.
    let within : c.unwrap_or-console.result < 8 = omega arith in
    asleep c.args.self.now c.args.slot _ _ _ _ (sym c.job.ensures.job ∙ ap option_copied c.in-Some.is) (sym c.frame.ensures ∙ ap frame_seen c.in-Waiting.is)
    (c.channel_of.ensures ∙ ap (channel_of c.in-Some.job.now) c.first_input.ensures) (c.is_link.ensures c.if-is_link.false)
    c.unwrap_or-console.ensures within (rw c.new.ensures at c.is_still.ensures h)
