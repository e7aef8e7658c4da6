use Rattle.std.proofs.Common.{None, refl, sym, ◌∙◌}
use Rattle.its_saving.specs.Parts.{lines_at}
use Rattle.its_saving.proofs.WritingLaws.{none_at, writes_at}
use Rattle.its_saving.proofs.files.write_nth.Goals as goal

pub returns-in-Some : goal.returns-in-Some
returns-in-Some g c = writes_at _ _ (lines_at c.args.files.now) _ _ _ _ _ (sym c.in-Some.is ∙ c.file_at.ensures.number) c.write_file.ensures

pub returns-in-None : goal.returns-in-None
returns-in-None g c = none_at _ _ (lines_at c.args.files.now) _ _ None _ (sym c.in-None.is ∙ c.file_at.ensures.number) refl
