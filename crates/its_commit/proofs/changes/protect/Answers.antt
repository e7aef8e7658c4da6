use Rattle.std.proofs.Common.{refl}
use Rattle.its_world.proofs.WorldLaws.{core_becomes}
use Rattle.its_commit.proofs.ChangeLaws.{page_protected, page_written}
use Rattle.its_commit.proofs.changes.protect.Goals as goal

pub returns-clause-row : goal.returns-clause-row
returns-clause-row c =
    page_protected c.args.w.now _ c.args.slot c.args.page c.args.writable c.requires.can
    (core_becomes _ _ _ _ (rw c.new.ensures at c.protect.ensures.marked) c.protect.ensures.reserved c.protect.ensures.frames refl)

pub returns-clause-tidy : goal.returns-clause-tidy
returns-clause-tidy c =
    page_written c.args.w.now _ c.args.slot c.args.page _ c.requires.can
    (core_becomes _ _ _ _ (rw c.new.ensures at c.protect.ensures.marked) c.protect.ensures.reserved c.protect.ensures.frames refl)
    c.requires.tidy
