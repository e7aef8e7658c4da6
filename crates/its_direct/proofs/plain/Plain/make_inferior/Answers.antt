use Rattle.std.proofs.Common.{refl}
use Rattle.its_direct.proofs.LoadLaws.{inferior_made, made_tidy, none_full}
use Rattle.its_direct.proofs.ChannelLaws.{has_job}
use Rattle.its_direct.proofs.plain.Plain.make_inferior.Goals as goal

pub create-requires : goal.create-requires
create-requires c = record { standing = has_job c.args.self.now c.args.maker c.requires.job }

pub unreachable-requires : goal.unreachable-requires
unreachable-requires c = none_full c.args.self.now c.args.slot c.requires.free c.in-Err.ensures.full

pub returns-clause-row : goal.returns-clause-row
returns-clause-row c =
    inferior_made c.args.self.now _ c.args.maker c.args.slot _ c.args.u c.args.j _ c.requires.tidy c.requires.free c.in-Ok.ensures.slot
    c.console_of-console.ensures c.in-Ok.ensures.job c.in-Ok.ensures.superior refl
    (record { is = refl })

pub returns-clause-tidy : goal.returns-clause-tidy
returns-clause-tidy c =
    made_tidy c.args.self.now _ _ _ _ _ _ c.requires.tidy c.in-Ok.ensures.slot c.in-Ok.ensures.job c.in-Ok.ensures.superior refl
    (record { is = refl })
