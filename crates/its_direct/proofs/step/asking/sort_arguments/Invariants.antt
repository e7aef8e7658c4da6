use Rattle.std.proofs.Common.{◌≤◌, ◌+◌, ◌*◌, length}
use Rattle.its_core.specs.Cores.{core_at}
use Rattle.its_word.specs.Limits.{budget}
use Rattle.its_direct.proofs.AskLaws.{Few, Finding}
use Rattle.its_direct.proofs.step.asking.sort_arguments.Given as goal

-- so many arguments are found, and what is left to find is what is left of the whole
abbrev pub invariant-loop-w : goal.invariant-loop-w
invariant-loop-w l = record {
  used : l.used ≤ budget;
  room : length l.decode.items ≤ 2 * l.used + 12 + l.w-index;
  few : Few l.parts l.w-index;
  finding : Finding (core_at l.core l.slot) l.words l.w-index l.used l.fn.used l.parts l.decode.items l.fn.decode.items;
}
