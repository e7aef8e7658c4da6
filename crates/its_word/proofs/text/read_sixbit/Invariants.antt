use Rattle.std.proofs.Common.{◌≡◌, true, ◌<◌, ◌^◌, take}
use Rattle.std.specs.List.{list_all}
use Rattle.its_word.specs.Text.{is_code, number_of}
use Rattle.its_word.proofs.text.read_sixbit.Given as goal

abbrev pub invariant-loop-byte : goal.invariant-loop-byte
invariant-loop-byte l = record {
  value : l.codes ≡ number_of 64 32 (take l.byte-index l.text);
  below : l.codes < 64 ^ l.byte-index;
  characters : list_all (is_code 33 95) (take l.byte-index l.text) ≡ true;
}
