-- The entries of a list are turned, one by one.
use Rattle.std.specs.Prelude.{◌≡◌, ◌≤◌, ◌<◌, ℕ, ◌+◌, List, length, slice_set, slice_index_or, refl}
use Rattle.std.proofs.Common.{sym, ◌∙◌, ap, inl, inr, arith}
use Rattle.std.proofs.lemmas.Bool.{cases_eq, cases_lt}
use Rattle.std.proofs.lemmas.List.{get_or-set_same, get_or-set_other, get_or_past}

-- a list to each of whose entries f is done, of which the first n are done
pub record Turning {X : Type 0} (f : X → X) (d : X) (old new : List X) (n : ℕ) : Type 0 where
  pub done : (k : ℕ) → k < n → slice_index_or new k d ≡ f (slice_index_or old k d)
  pub rest : (k : ℕ) → n ≤ k → slice_index_or new k d ≡ slice_index_or old k d

pub turning_start : {X : Type 0} → (f : X → X) (d : X) (xs : List X) → Turning f d xs xs 0
turning_start f d xs = record { done = λ k l. absurd (omega arith); rest = λ k l. refl }

pub turning_more : {X : Type 0} → (f : X → X) (d : X) (old new : List X) (n : ℕ) (x y : X) → n < length new → x ≡ slice_index_or new n d → y ≡ f x
    → Turning f d old new n → Turning f d old (slice_set new n y) (n + 1)
turning_more f d old new n x y l e h s = record {
  done = λ k less. elim (cases_eq k n) [
    | inl i ↦ rw (i, get_or-set_same new n y d l) (h ∙ ap f (e ∙ s.rest n (omega arith)))
    | inr ne ↦ get_or-set_other new n k y d ne ∙ s.done k (omega arith)
  ];
  rest = λ k less. get_or-set_other new n k y d (λ i. omega arith) ∙ s.rest k (omega arith);
}

pub turning_end : {X : Type 0} → (f : X → X) (d : X) (old new : List X) (n : ℕ) → f d ≡ d → length old ≤ n → Turning f d old new n
    → (k : ℕ) → slice_index_or new k d ≡ f (slice_index_or old k d)
turning_end f d old new n past l s k = elim (cases_lt k n) [
  | inl less ↦ s.done k less
  | inr more ↦ s.rest k more ∙ get_or_past old k d (omega arith) ∙ sym (ap f (get_or_past old k d (omega arith)) ∙ past)
]
