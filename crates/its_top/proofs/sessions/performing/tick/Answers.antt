use Rattle.std.proofs.Common.{◌≤◌, ◌∙◌, ap, arith, length, subst, sym}
use Rattle.its_print.specs.Printing.{Ticks}
use Rattle.its_print.specs.Runs.{paces_in}
use Rattle.its_top.proofs.PerformLaws.{ticks_performed}
use Rattle.its_top.proofs.sessions.performing.tick.Goals as goal

pub returns-clause-performed : goal.returns-clause-performed
returns-clause-performed c = λ b. ticks_performed _ b _ _ _ _
    (ap (λ rs. Ticks c.args.s (paces_in rs)) c.as_slice-runs.ensures.value ∙ ap (Ticks c.args.s) c.paces_of.ensures.paces)
    (subst (λ rs. length (paces_in rs) ≤ 512) (sym c.as_slice-runs.ensures.value) (omega (arith, c.paces_of.ensures.count, c.requires.few)))
    c.paces_of.ensures.state
