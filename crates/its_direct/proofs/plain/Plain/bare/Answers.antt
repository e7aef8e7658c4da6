use Rattle.std.proofs.Common.{refl}
use Rattle.its_direct.proofs.RemovalLaws.{bares_is}
use Rattle.its_direct.proofs.plain.Plain.bare.Goals as goal

pub returns : goal.returns
returns c = bares_is c.args.self.now _ _ c.forget.new.self c.args.slot c.drop_all.ensures.dropped c.drop_all.ensures.reserved refl
    (record { is = refl }) c.put_alarm.ensures c.forget.ensures
