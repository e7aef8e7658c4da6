-- Bytes that are written in several calls, and bytes that are left.
use Rattle.std.proofs.Common.{◌≡◌, ℕ, ◌+◌, ◌-◌, List, [], ◌++◌, length, take, drop, sym, ap, ◌∙◌, append_assoc, take-append-drop, arith}
use Rattle.std.proofs.lemmas.List.{take_rest, nil_from_length}
use Rattle.std.proofs.lemmas.Grind.{common_steps}
use Rattle.std.proofs.KnownBytes.{Appends-trans}
use Rattle.std.specs.declared.option.Option.{Option}
use Rattle.std.specs.Io.KnownBytes.{Appends}

-- these bytes were written, except for the rest
pub record Writing (old new : Option (List ℕ)) (bytes rest : List ℕ) : Type 0 where
  pub wrote : List ℕ
  pub appended : Appends old new wrote
  pub parts : bytes ≡ wrote ++ rest

-- n more were written
pub wrote_more : (a b c : Option (List ℕ)) (bytes rest : List ℕ) (n : ℕ) → Writing a b bytes rest → Appends b c (take n rest)
    → Writing a c bytes (take (length rest - n) (drop n rest))
wrote_more a b c bytes rest n w more = record {
  wrote = w.wrote ++ take n rest;
  appended = Appends-trans a b c w.wrote (take n rest) w.appended more;
  parts = w.parts ∙ ap (λ l. w.wrote ++ l) (sym (take-append-drop n rest) ∙ ap (λ l. take n rest ++ l) (sym (take_rest rest n)))
      ∙ sym (append_assoc w.wrote (take n rest) _);
}

-- what is left has two parts: the bytes that are given and those that stay
pub left_in_parts : (xs : List ℕ) (at n : ℕ) → take n (drop at xs) ++ drop (at + n) xs ≡ drop at xs
left_in_parts xs at n = grind (arith, common_steps, take-append-drop n (drop at xs))

-- nothing is left
pub none_left : (xs : List ℕ) (at : ℕ) → length (drop at xs) ≡ 0 → drop at xs ≡ []
none_left xs at h = nil_from_length (drop at xs) h
