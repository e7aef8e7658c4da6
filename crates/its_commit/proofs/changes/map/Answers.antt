use Rattle.std.proofs.Common.{refl}
use Rattle.its_world.proofs.MappedLaws.{mapped_becomes}
use Rattle.its_commit.proofs.ChangeLaws.{page_tidy}
use Rattle.its_commit.proofs.changes.map.Goals as goal

pub returns-clause-tidy : goal.returns-clause-tidy
returns-clause-tidy c =
    page_tidy c.args.w.now _ c.args.slot c.args.target c.args.page c.requires.can
    (mapped_becomes _ _ _ _ _ _ (rw c.new.ensures at c.in-Ok.ensures.mapped) c.in-Ok.ensures.quarters
    (rw c.new.ensures at c.in-Ok.ensures.frames) refl) c.requires.tidy
