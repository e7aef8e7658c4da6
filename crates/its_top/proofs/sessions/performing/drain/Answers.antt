use Rattle.std.proofs.Common.{◌≤◌, ◌∙◌, ℕ, List, ap, length, subst, sym}
use Rattle.its_print.specs.Printing.{Drained}
use Rattle.its_top.proofs.PerformLaws.{drained_performed}
use Rattle.its_top.proofs.sessions.performing.drain.Goals as goal

pub returns-clause-performed : goal.returns-clause-performed
returns-clause-performed c = λ b. drained_performed _ b _ _ _ _
    (ap (Drained c.args.c) (c.as_slice-bytes.ensures.value ∙ c.drain_bytes-parts.ensures.bytes))
    (subst (λ (bs : List ℕ). length bs ≤ 64) (sym c.as_slice-bytes.ensures.value) c.drain_bytes-parts.ensures.few)
    c.drain_bytes-parts.ensures.done
