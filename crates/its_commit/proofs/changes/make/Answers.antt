use Rattle.std.proofs.Common.{refl}
use Rattle.its_world.proofs.StorageLaws.{has_job}
use Rattle.its_commit.proofs.ChangeLaws.{none_full, inferior_made, inferior_tidy}
use Rattle.its_commit.proofs.changes.make.Goals as goal

pub create-requires : goal.create-requires
create-requires c = record { standing = has_job c.args.w.now c.args.maker c.requires.job }

pub unreachable-requires : goal.unreachable-requires
unreachable-requires c = none_full c.args.w.now c.args.slot c.requires.free c.in-Err.ensures.full

pub returns-clause-row : goal.returns-clause-row
returns-clause-row c =
    inferior_made c.args.w.now _ c.args.maker c.in-Ok.field-0 c.args.u c.args.j c.console_of-console.result
    (record {
      job = c.in-Ok.ensures.job;
      superior = c.in-Ok.ensures.superior;
      rest = refl;
    })
    c.in-Ok.ensures.slot c.requires.tidy c.args.slot c.requires.free c.console_of-console.ensures

pub returns-clause-tidy : goal.returns-clause-tidy
returns-clause-tidy c =
    inferior_tidy c.args.w.now _ c.args.maker c.in-Ok.field-0 c.args.u c.args.j c.console_of-console.result
    (record {
      job = c.in-Ok.ensures.job;
      superior = c.in-Ok.ensures.superior;
      rest = refl;
    })
    c.in-Ok.ensures.slot c.requires.tidy
