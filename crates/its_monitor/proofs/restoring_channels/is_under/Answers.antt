use Rattle.std.specs.Prelude.{nat_eq, Some, None}
use Rattle.std.proofs.Common.{◌∙◌}
use Rattle.its_monitor.proofs.ChannelLineLaws.{under_is}
use Rattle.its_monitor.proofs.restoring_channels.is_under.Goals as goal

pub returns-in-Some : goal.returns-in-Some
returns-in-Some c =
    (λ i. nat_eq (c.number.ensures.value i) (c.number-in-Some.ensures.value i))
    ∙ under_is c.args.w.now c.args.s c.args.t (Some c.in-Some.k) c.tree.ensures c.in-Some.ensures.value

pub returns-in-None : goal.returns-in-None
returns-in-None c = under_is c.args.w.now c.args.s c.args.t None c.tree.ensures c.in-None.ensures.value
