use Rattle.std.proofs.Common.{arith, refl}
use Rattle.its_saving.specs.Parts.{channel_part}
use Rattle.its_saving.proofs.WritingLaws.{each_all, each_cut, each_next, none_written}
use Rattle.its_saving.proofs.channels.write_channels_of.Goals as goal

pub loop-n-init : goal.loop-n-init
loop-n-init g c = none_written _ _ _

pub loop-n-preserved : goal.loop-n-preserved
loop-n-preserved g c = each_next _ _ (channel_part c.args.w.now c.args.s) _ _ _ _ _ _ _ refl c.loop-n.invariant c.in_ok-write_channel_at.was
    c.write_channel_at.ensures

pub returns : goal.returns
returns g c = each_all _ _ (channel_part c.args.w.now c.args.s) _ _ _ c.loop-n.n 16 c.loop-n.invariant (omega (arith, c.loop-n-test.false))
    (omega (arith, c.loop-n.auto.n-end))

pub returns-in_err-write_channel_at : goal.returns-in_err-write_channel_at
returns-in_err-write_channel_at g c = each_cut _ _ (channel_part c.args.w.now c.args.s) _ _ _ _ _ _ _ _ 16 refl c.loop-n.invariant
    c.in_err-write_channel_at.was c.write_channel_at.ensures (omega (arith, c.loop-n-test.true)) c.from_residual.ensures.0
