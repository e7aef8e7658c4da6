use Rattle.std.proofs.Common.{None, Some, ap, false, refl, sym, true, ◌∙◌}
use Rattle.its_saved.specs.StateLine as state
use Rattle.its_saving.specs.Rows.{mark_lines}
use Rattle.its_saving.proofs.WritingLaws.{none_at, writes_at, writes_line}
use Rattle.its_saving.proofs.cores.write_mark.Goals as goal

pub returns-in-Some-true : goal.returns-in-Some-true
returns-in-Some-true g c = none_at _ _ (mark_lines c.args.s c.args.page) _ _ (Some true) _ (sym (c.in-Some-true.is ∙ ap Some c.in-Some-true.field-0-test)) refl

pub returns-in-Some-false : goal.returns-in-Some-false
returns-in-Some-false g c = writes_at _ _ (mark_lines c.args.s c.args.page) _ _ _ (Some false) _
    (sym (c.in-Some-false.is ∙ ap Some c.in-Some-false.field-0-test))
    (writes_line _ _ _ _ _ (state.ReadOnly c.args.s c.args.page) _ refl c.write_line.ensures)

pub returns-in-None : goal.returns-in-None
returns-in-None g c = none_at _ _ (mark_lines c.args.s c.args.page) _ _ None _ (sym c.in-None.is) refl
