use Rattle.std.proofs.Common.{◌≡◌, ◌++◌, ◌+◌, ◌-◌, length, map}
use Rattle.its_plain.specs.Call.Arguments.{debts}
use Rattle.its_stepped.specs.Commit.{owed_store}
use Rattle.its_commit.proofs.carrying.push_debts.Given as goal

abbrev pub invariant-loop-k : goal.invariant-loop-k
invariant-loop-k l = record {
  read : length (debts l.ask (l.owes - l.k)) ≡ l.owes - l.k;
  pushed : length l.owed.items ≡ length l.fn.owed.items + l.k;
  rest : l.owed.items ++ map owed_store (debts l.ask (l.owes - l.k)) ≡ l.fn.owed.items ++ map owed_store (debts l.ask l.owes);
}
