use Rattle.std.proofs.Common.{◌≤◌}
use Rattle.its_chart.specs.Reading.{first_named}
use Rattle.its_chart.proofs.mnemonic.opcode_named.Given as goal

abbrev pub invariant-loop-opcode : goal.invariant-loop-opcode
invariant-loop-opcode l = l.opcode ≤ first_named l.text
