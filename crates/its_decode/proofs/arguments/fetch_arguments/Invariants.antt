use Rattle.std.proofs.Common.{◌≤◌, ◌+◌, ◌*◌, length}
use Rattle.its_core.specs.Cores.{core_at}
use Rattle.its_word.specs.Limits.{budget}
use Rattle.its_decode.proofs.ArgumentLaws.{Gathering}
use Rattle.its_decode.proofs.arguments.fetch_arguments.Given as goal

-- what is found from here on is what is found in all
abbrev pub invariant-loop-w : goal.invariant-loop-w
invariant-loop-w l = record {
  used : l.progress.used ≤ budget;
  room : length l.ask.decode.items ≤ 2 * l.progress.used + 12 + l.w-index;
  gathering : Gathering (core_at l.core l.slot) l.words l.fn.used l.fn.ask.decode.items l.w-index l.ask l.progress;
}
