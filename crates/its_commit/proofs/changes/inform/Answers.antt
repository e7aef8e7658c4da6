use Rattle.std.proofs.Common.{sym, ◌∙◌, refl}
use Rattle.its_commit.proofs.TidyLaws.{tidy_put}
use Rattle.its_commit.proofs.changes.inform.Goals as goal

pub returns-in-Some-clause-tidy : goal.returns-in-Some-clause-tidy
returns-in-Some-clause-tidy c = tidy_put c.args.w.now _ c.args.slot _ c.in-Some.job _ _ _
    (sym (c.copied.ensures ∙ c.numbered.ensures.job) ∙ c.in-Some.is) refl (rw c.new-in-Some.ensures at c.put_registers.ensures) c.requires.tidy
