use Rattle.std.proofs.Common.{◌≤◌, ℕ, List, ap, arith, length, subst, sym}
use Rattle.its_print.specs.Printing.{listed}
use Rattle.its_top.proofs.PerformLaws.{list_performed, list_refused}
use Rattle.its_top.proofs.sessions.performing.list.Goals as goal

pub returns-in-Ok-clause-performed : goal.returns-in-Ok-clause-performed
returns-in-Ok-clause-performed c = λ b. list_performed _ b _ _ _ _ _ _ (ap (listed c.args.s c.args.a) c.as_slice-words.ensures.value)
    c.in-Ok.ensures.words c.in-Ok.ensures.unwinds (
      omega (arith, c.requires.some, c.requires.end),
      subst (λ (ws : List ℕ). length ws ≤ 8) (sym c.as_slice-words.ensures.value) c.in-Ok.ensures.few,
    )

pub returns-in-Err-clause-performed : goal.returns-in-Err-clause-performed
returns-in-Err-clause-performed c = λ b. list_refused _ b b _ _ _ _ _ c.in-Err.ensures.refused
