-- Names of files that are the same: so they are to each other, and to all others.
use Rattle.std.specs.Prelude.{◌≡◌, ◌&&◌, eqb, ℕ, true, List, [], ◌∷◌, length, slice_index_or, refl}
use Rattle.std.proofs.Common.{sym, ◌∙◌, inl, inr, arith}
use Rattle.std.proofs.lemmas.Bool.{cases_Bool, both_ways, eqb-true, eq-eqb, and_parts, and_from}
use Rattle.its_word.specs.Directory.{same_names}

-- names that are the same
pub record Alike (a b : List ℕ) : Type 0 where
  pub directory : slice_index_or a 0 0 ≡ slice_index_or b 0 0
  pub first : slice_index_or a 1 0 ≡ slice_index_or b 1 0
  pub second : slice_index_or a 2 0 ≡ slice_index_or b 2 0

pub alike : (a b : List ℕ) → same_names a b ≡ true → Alike a b
unfolding same_names
alike a b e =
    let p = and_parts (eqb (slice_index_or a 0 0) (slice_index_or b 0 0))
    (eqb (slice_index_or a 1 0) (slice_index_or b 1 0) && eqb (slice_index_or a 2 0) (slice_index_or b 2 0)) e in
    let q = and_parts (eqb (slice_index_or a 1 0) (slice_index_or b 1 0)) (eqb (slice_index_or a 2 0) (slice_index_or b 2 0)) p.1 in
    record {
      directory = eqb-true (slice_index_or a 0 0) (slice_index_or b 0 0) p.0;
      first = eqb-true (slice_index_or a 1 0) (slice_index_or b 1 0) q.0;
      second = eqb-true (slice_index_or a 2 0) (slice_index_or b 2 0) q.1;
    }

same : (a b : List ℕ) → Alike a b → same_names a b ≡ true
unfolding same_names
same a b h =
    and_from (eqb (slice_index_or a 0 0) (slice_index_or b 0 0))
    (eqb (slice_index_or a 1 0) (slice_index_or b 1 0) && eqb (slice_index_or a 2 0) (slice_index_or b 2 0))
    (eq-eqb (slice_index_or a 0 0) (slice_index_or b 0 0) h.directory)
    (and_from (eqb (slice_index_or a 1 0) (slice_index_or b 1 0)) (eqb (slice_index_or a 2 0) (slice_index_or b 2 0))
    (eq-eqb (slice_index_or a 1 0) (slice_index_or b 1 0) h.first) (eq-eqb (slice_index_or a 2 0) (slice_index_or b 2 0) h.second))

pub same_three : (a b : List ℕ) → length a ≡ 3 → length b ≡ 3 → same_names a b ≡ true → b ≡ a
same_three (a ∷ b ∷ c ∷ []) (x ∷ y ∷ z ∷ []) l m e = let p = alike (a ∷ b ∷ c ∷ []) (x ∷ y ∷ z ∷ []) e in λ i. sym p.directory i
    ∷ sym p.first i ∷ sym p.second i ∷ []
same_three (a ∷ b ∷ c ∷ []) [] l m e = absurd (omega (arith, m))
same_three (a ∷ b ∷ c ∷ []) (x ∷ []) l m e = absurd (omega (arith, m))
same_three (a ∷ b ∷ c ∷ []) (x ∷ y ∷ []) l m e = absurd (omega (arith, m))
same_three (a ∷ b ∷ c ∷ []) (x ∷ y ∷ z ∷ w ∷ ws) l m e = absurd (omega (arith, m))
same_three _ b l m e = absurd (omega (arith, l))

pub same_sym : (a b : List ℕ) → same_names a b ≡ true → same_names b a ≡ true
same_sym a b e = let p = alike a b e in same b a (record { directory = sym p.directory; first = sym p.first; second = sym p.second })

-- two that are the same as a third
pub same_both : (a b c : List ℕ) → same_names a b ≡ true → same_names a c ≡ true → same_names b c ≡ true
same_both a b c e f =
    let p = alike a b e in
    let q = alike a c f in
    same b c (record { directory = sym p.directory ∙ q.directory; first = sym p.first ∙ q.first; second = sym p.second ∙ q.second })

pub same_refl : (a : List ℕ) → same_names a a ≡ true
same_refl a = same a a (record { directory = refl; first = refl; second = refl })

-- names that are the same are so to all others
pub same_self : (a b c : List ℕ) → same_names a b ≡ true → same_names a c ≡ same_names b c
same_self a b c e = elim (cases_Bool (same_names a c)) [
  | inl t ↦ t ∙ sym (same_both a b c e t)
  | inr f ↦ elim (cases_Bool (same_names b c)) [
    | inl t ↦ absurd (both_ways (same_names a c) f (same_both b a c (same_sym a b e) t))
    | inr g ↦ f ∙ sym g
  ]
]
