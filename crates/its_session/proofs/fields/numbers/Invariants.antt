use Rattle.std.proofs.Common.{◌≡◌, true, map, take}
use Rattle.std.specs.List.{list_all}
use Rattle.its_word.specs.Text.{is_octal, octal_value}
use Rattle.its_session.proofs.fields.numbers.Given as goal

abbrev pub invariant-loop-word : goal.invariant-loop-word
invariant-loop-word l = record {
  formed : list_all is_octal (map (λ w. w.now) (take l.word-index l.words)) ≡ true;
  read : l.numbers.items ≡ map octal_value (map (λ w. w.now) (take l.word-index l.words));
}
