use Rattle.std.proofs.Common.{◌≡◌, true, ◌<◌, ◌^◌, take}
use Rattle.std.specs.List.{list_all}
use Rattle.its_word.specs.Text.{is_code, number_of}
use Rattle.its_word.proofs.text.read_octal.Given as goal

abbrev pub invariant-loop-byte : goal.invariant-loop-byte
invariant-loop-byte l = record {
  value : l.number ≡ number_of 8 48 (take l.byte-index l.text);
  below : l.number < 8 ^ l.byte-index;
  digits : list_all (is_code 48 55) (take l.byte-index l.text) ≡ true;
}
