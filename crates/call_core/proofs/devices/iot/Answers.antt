-- The call reaches the inferior that its channel is on.
use Rattle.std.proofs.Common.{sym, ◌∙◌, ap, refl}
use Rattle.its_frame.specs.declared.name.CallName.TheVariants.{Iot}
use Rattle.its_shared.specs.Called.{channel_under}
use Rattle.call_usr.proofs.OtherLaws.{targets}
use Rattle.call_core.proofs.devices.iot.Goals as goal

pub iot_through-requires : goal.iot_through-requires
iot_through-requires c =
    record {
      targets = targets c.args.w.now c.args.slot c.args.job.now c.args.ask.now Iot c.in-Usr.inferior c.in-Usr.at c.in-Usr.write
          c.requires.forest c.requires.job c.requires.fail c.requires.name refl
          (ap (channel_under c.args.job.now) (sym c.input.ensures) ∙ sym c.in-Usr.ensures);
    }
