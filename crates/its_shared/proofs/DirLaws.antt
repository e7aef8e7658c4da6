-- The files of a directory, one by one in the order of all files.
use Rattle.std.specs.Prelude.{◌≡◌, ◌≤◌, ◌<◌, ◌+◌, ℕ, Bool, cond, Option, Some, None, List, [], ◌∷◌, map, drop, length, slice_get}
use Rattle.std.proofs.Common.{sym, ◌∙◌, ap, arith}
use Rattle.std.proofs.Math.ListN.{drop_of_length-le}
use Rattle.std.proofs.lemmas.List.{drop_more}
use Rattle.std.proofs.lemmas.Option.{slice_get_within, slice_get-get_or, get_or_from_slice_get}
use Rattle.its_files.specs.Files.{Store, file_at}
use Rattle.its_plain.specs.Machine.{File}
use Rattle.its_plain.specs.Operator.Files.{is_in, files_in}

-- the files of a directory from a place in the order of all on
abbrev pub rest_in : Store → ℕ → ℕ → List File
rest_in s d i = files_in d (map (file_at s) (drop i s.order))

drop_at : (xs : List ℕ) (i x : ℕ) → slice_get xs i ≡ Some x → drop i xs ≡ x ∷ drop (i + 1) xs
drop_at xs i x h = drop_more xs i 0 (slice_get_within xs i x h) ∙ ap (λ y. y ∷ drop (i + 1) xs) (get_or_from_slice_get xs i x 0 h)

module _ (s : Store) where
  rest_at : (d i id : ℕ) → slice_get s.order i ≡ Some id → rest_in s d i ≡ cond (is_in d (file_at s id))
      (file_at s id ∷ rest_in s d (i + 1)) (rest_in s d (i + 1))
  unfolding files_in
  rest_at d i id h = ap (λ ids. files_in d (map (file_at s) ids)) (drop_at s.order i id h)

  pub rest_past : (d i : ℕ) → length s.order ≤ i → rest_in s d i ≡ []
  unfolding files_in
  rest_past d i h = ap (λ ids. files_in d (map (file_at s) ids)) (drop_of_length-le s.order h)

  pub rest_next : (d i id : ℕ) (o : Option ℕ) (b : Bool) → o ≡ slice_get s.order i → o ≡ Some id → b ≡ is_in d (file_at s id)
      → rest_in s d i ≡ cond b (file_at s id ∷ rest_in s d (i + 1)) (rest_in s d (i + 1))
  rest_next d i id o b at some is = rest_at d i id (sym at ∙ some) ∙ ap (λ t. cond t (file_at s id ∷ rest_in s d (i + 1)) (rest_in s d (i + 1))) (sym is)

  pub order_within : (i n : ℕ) (o : Option ℕ) → o ≡ slice_get s.order i → o ≡ None → n ≡ length s.order → i < n → ⊥
  order_within i n o at none is lt = let some = sym none ∙ at ∙ slice_get-get_or s.order i 0 (omega arith) in cc
