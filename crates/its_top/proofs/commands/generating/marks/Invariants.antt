use Rattle.std.proofs.Common.{◌≡◌, ◌≤◌, take}
use Rattle.its_print.specs.Runs.{paces_in}
use Rattle.its_top.specs.Generating.{marks}
use Rattle.its_top.proofs.commands.generating.marks.Given as goal

abbrev pub invariant-loop-run : goal.invariant-loop-run
invariant-loop-run l = record {
  count : l.count ≡ marks (paces_in (take l.run-index l.runs));
  few : l.count ≤ 512;
}
