use Rattle.std.proofs.Common.{◌≡◌, true, map, nat_le, take, length}
use Rattle.std.specs.List.{list_all}
use Rattle.its_word.specs.Text.{is_octal, octal_value}
use Rattle.its_session.proofs.fields.bytes.Given as goal

abbrev pub invariant-loop-word : goal.invariant-loop-word
invariant-loop-word l = record {
  formed : list_all is_octal (map (λ w. w.now) (take l.word-index l.words)) ≡ true;
  ranged : l.all ≡ list_all (λ w. nat_le (octal_value w) 127) (map (λ w. w.now) (take l.word-index l.words));
  read : l.all ≡ true → l.bytes.items ≡ map octal_value (map (λ w. w.now) (take l.word-index l.words));
  len : length l.bytes.items ≡ l.word-index;
}
