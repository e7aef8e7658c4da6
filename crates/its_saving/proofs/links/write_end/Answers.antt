use Rattle.std.proofs.Common.{[], refl, sym, ◌∷◌}
use Rattle.std.specs.Prelude.{if◌then◌else◌}
use Rattle.its_records.specs.Links.{is_closed}
use Rattle.its_records.specs.declared.link.End.TheVariants as ends
use Rattle.its_records.specs.declared.link.End.{End}
use Rattle.its_saved.specs.StateLine as state
use Rattle.its_saving.proofs.WritingLaws.{none_at, writes_at, writes_line}
use Rattle.its_saving.proofs.links.write_end.Goals as goal

pub returns-in-Closed : goal.returns-in-Closed
returns-in-Closed g c = writes_at _ _ (λ (e : End). if is_closed e then state.EndShut c.args.l c.args.write ∷ [] else []) _ _ _ ends.Closed _
    (sym c.in-Closed.is) (writes_line _ _ _ _ _ (state.EndShut c.args.l c.args.write) _ refl c.write_line.ensures)

pub returns-in-Unopened : goal.returns-in-Unopened
returns-in-Unopened g c = none_at _ _ (λ (e : End). if is_closed e then state.EndShut c.args.l c.args.write ∷ [] else []) _ _ ends.Unopened _
    (sym c.in-Unopened.is) refl

pub returns-in-Opened : goal.returns-in-Opened
returns-in-Opened g c = none_at _ _ (λ (e : End). if is_closed e then state.EndShut c.args.l c.args.write ∷ [] else []) _ _ _ _ (sym c.in-Opened.is) refl
