use Rattle.std.proofs.Common.{◌≡◌, ◌-◌, length, take}
use Rattle.its_in_call.specs.Values.{with_values}
use Rattle.its_in_call.proofs.values.revalue.Given as goal

abbrev pub invariant-loop-k : goal.invariant-loop-k
invariant-loop-k l = record {
  kept : l.kept ≡ length l.fn.ask.inputs.items - length l.values;
  part : l.ask ≡ with_values l.fn.ask l.kept (take l.k l.values);
}
