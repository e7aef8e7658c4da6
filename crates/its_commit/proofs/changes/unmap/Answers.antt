use Rattle.std.proofs.Common.{refl}
use Rattle.its_world.proofs.WorldLaws.{framed_becomes}
use Rattle.its_commit.proofs.ChangeLaws.{page_dropped, page_left}
use Rattle.its_commit.proofs.changes.unmap.Goals as goal

pub returns-clause-row : goal.returns-clause-row
returns-clause-row c =
    page_dropped c.args.w.now _ c.args.slot c.args.page c.requires.can
    (framed_becomes _ _ _ _ (rw c.new.ensures at c.unmap.ensures.unmapped) c.unmap.ensures.reserved refl)

pub returns-clause-tidy : goal.returns-clause-tidy
returns-clause-tidy c =
    page_left c.args.w.now _ c.args.slot c.args.page _ c.requires.can
    (framed_becomes _ _ _ _ (rw c.new.ensures at c.unmap.ensures.unmapped) c.unmap.ensures.reserved refl)
    c.requires.tidy
