-- Some places of a list emptied, one after another.
use Rattle.std.specs.Prelude.{if◌then◌else◌, ◌≡◌, ◌≤◌, ◌<◌, ◌+◌, ℕ, Bool, true, false, Option, None, List, length, slice_index_or, slice_set, refl}
use Rattle.std.proofs.Common.{sym, ◌∙◌, arith, inl, inr}
use Rattle.std.proofs.lemmas.Bool.{cases_eq, cases_lt}
use Rattle.std.proofs.lemmas.List.{get_or-set_same, get_or-set_other, get_or_past}
use Rattle.its_jobs.specs.Table.{Without}

-- the places below n are done
pub record Cleared {X : Type 0} (gone : ℕ → Bool) (old new : List (Option X)) (n : ℕ) : Type 0 where
  pub done : (k : ℕ) → k < n → slice_index_or new k None ≡ (if gone k then None else slice_index_or old k None)
  pub rest : (k : ℕ) → n ≤ k → slice_index_or new k None ≡ slice_index_or old k None

pub clear_start : {X : Type 0} (gone : ℕ → Bool) (old : List (Option X)) → Cleared gone old old 0
clear_start gone old = record { done = λ k l. absurd (omega arith); rest = λ k l. refl }

pub clear_gone : {X : Type 0} (gone : ℕ → Bool) (old new : List (Option X)) (n : ℕ) → n < length new → gone n ≡ true → Cleared gone old new n
    → Cleared gone old (slice_set new n None) (n + 1)
clear_gone gone old new n l g c = record {
  done = λ k less. elim (cases_eq k n) [
    | inl e ↦ rw (e, get_or-set_same new n None None l, g) refl
    | inr ne ↦ get_or-set_other new n k None None ne ∙ c.done k (omega arith)
  ];
  rest = λ k less. get_or-set_other new n k None None (λ e. omega arith) ∙ c.rest k (omega arith);
}

pub clear_kept : {X : Type 0} (gone : ℕ → Bool) (old new : List (Option X)) (n : ℕ) → gone n ≡ false → Cleared gone old new n → Cleared gone old new (n + 1)
clear_kept gone old new n g c = record {
  done = λ k less. elim (cases_eq k n) [
    | inl e ↦ rw (e, g) (c.rest n (omega arith))
    | inr ne ↦ c.done k (omega arith)
  ];
  rest = λ k less. c.rest k (omega arith);
}

either_none : {X : Type 0} (b : Bool) (o : Option X) → o ≡ None → (if b then None else o) ≡ None
either_none true o e = refl
either_none false o e = e

pub clear_end : {X : Type 0} (gone : ℕ → Bool) (old new : List (Option X)) (n : ℕ) → length old ≤ n → Cleared gone old new n
    → Without gone (λ k. slice_index_or old k None) (λ k. slice_index_or new k None)
clear_end gone old new n l c = record {
  each = λ k. elim (cases_lt k n) [
    | inl less ↦ c.done k less
    | inr past ↦
        let none : slice_index_or old k None ≡ None = get_or_past old k None (omega arith) in
        c.rest k past ∙ none ∙ sym (either_none (gone k) (slice_index_or old k None) none)
  ];
}
