-- a slot past the last is below none
use Rattle.std.proofs.Common.{◌≡◌, sym, ◌∙◌, false, nat_lt, arith}
use Rattle.std.proofs.lemmas.Bool.Decides.{nat_tests}
use Rattle.its_word.specs.Limits.{slots}
use Rattle.its_records.specs.Tree.{is_below}
use Rattle.its_jobs.specs.Table.{superior_at}
use Rattle.its_jobs.proofs.TreeLaws.{past_below}
use Rattle.its_jobs.proofs.table.Jobs.is_below.Goals as goal

pub returns-else-from-lt-SLOTS : goal.returns-else-from-lt-SLOTS
returns-else-from-lt-SLOTS c =
    let past : is_below (superior_at c.args.self.now) c.args.slot c.args.job ≡ false =
    rw (← c.self.view_is) (past_below _ c.args.slot c.args.job c.self.invariant.tree.superior_count (omega arith)) in
    let less : nat_lt c.from.result slots ≡ false = grind (arith, nat_tests) in
    less ∙ sym past
