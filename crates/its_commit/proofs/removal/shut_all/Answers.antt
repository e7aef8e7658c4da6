use Rattle.std.proofs.Common.{◌∙◌}
use Rattle.its_commit.proofs.RemovalLaws.{closing_more}
use Rattle.its_commit.proofs.removal.shut_all.Goals as goal

pub loop-n-preserved : goal.loop-n-preserved
loop-n-preserved c = record {
  closed = closing_more _ _ _ _ _ c.loop-n.invariant.closed c.shut.ensures.row;
  pages = c.shut.ensures.pages ∙ c.loop-n.invariant.pages;
  tidy = c.shut.ensures.tidy;
}
