use Rattle.std.proofs.Common.{◌≡◌, false, map, take, string_bytes}
use Rattle.std.specs.List.{list_any}
use Rattle.its_top.specs.Commands.{is_option}
use Rattle.its_top.proofs.commands.words.has_option.Given as goal

abbrev pub invariant-loop-word : goal.invariant-loop-word
invariant-loop-word l = record {
  none : list_any is_option (map string_bytes (take l.word-index l.words)) ≡ false;
}
