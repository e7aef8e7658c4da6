use Rattle.std.proofs.Common.{◌≤◌, ℕ, List, ap, length, subst, sym}
use Rattle.its_print.specs.Printing.{Words}
use Rattle.its_top.proofs.PerformLaws.{exam_performed, exam_refused}
use Rattle.its_top.proofs.sessions.performing.examine.Goals as goal

pub returns-in-Ok-clause-performed : goal.returns-in-Ok-clause-performed
returns-in-Ok-clause-performed c = λ b. exam_performed _ b _ _ _ _ _ _ (ap (Words c.args.s c.args.a) c.as_slice-words.ensures.value)
    (subst (λ (ws : List ℕ). length ws ≤ 8) (sym c.as_slice-words.ensures.value) c.in-Ok.ensures.few) c.in-Ok.ensures.words c.in-Ok.ensures.unwinds

pub returns-in-Err-clause-performed : goal.returns-in-Err-clause-performed
returns-in-Err-clause-performed c = λ b. exam_refused _ b b _ _ _ _ _ c.in-Err.ensures.refused
