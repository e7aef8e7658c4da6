use Rattle.std.proofs.Common.{ap, sym, ◌∙◌}
use Rattle.its_word.specs.Core.{page_of}
use Rattle.its_core.specs.Cores.{core_at}
use Rattle.its_saving.specs.Rows.{mark_lines}
use Rattle.its_saving.proofs.CellLaws.{mark_is}
use Rattle.its_saving.proofs.WritingLaws.{writes_at}
use Rattle.its_saving.proofs.cores.write_mark_of.Goals as goal

pub returns : goal.returns
returns g c = writes_at _ _ (λ ls. ls) _ _ _ _ _ (ap (mark_lines c.args.s c.args.page) c.page.ensures ∙ sym
    (mark_is c.args.s c.args.page (page_of (core_at c.args.core.now c.args.s) c.args.page))) c.write_mark.ensures
