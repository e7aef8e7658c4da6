-- The tree of jobs after a removal.
use Rattle.std.specs.Prelude.{if◌then◌else◌, ◌≡◌, ◌≢◌, ◌<◌, ◌==◌, ℕ, true, false, Option, Some, None, IfSome, List, length, slice_index_or, slice_set, slice_get, is_some, refl}
use Rattle.std.proofs.Common.{sym, ◌∙◌, ap, arith, inl, inr, length-set}
use Rattle.std.proofs.lemmas.Bool.{cases_eq, cases_lt, eq-eqb, ne_eqb}
use Rattle.std.proofs.lemmas.List.{get_or-set_same, get_or-set_other, get_or_past}
use Rattle.its_word.specs.Limits.{slots}
use Rattle.its_records.specs.Tree.{no_job, is_below, slots_below}
use Rattle.its_records.specs.declared.jobs.Job.{Job}
use Rattle.its_records.proofs.FreeLaws.{no_job_there}
use Rattle.its_records.proofs.TreeLaws.{below_superior, below_none, none_below}
use Rattle.its_jobs.specs.Table.{IsTree, superior_in}
use Rattle.its_records.proofs.ClimbLaws.{circle_cut}

-- one place of the two lists is emptied
emptied : {X : Type 0} (xs : List (Option X)) (s : ℕ) → s < length xs → slice_index_or (slice_set xs s None) s None ≡ None
emptied xs s h = get_or-set_same xs s None None h

kept : {X : Type 0} (xs : List (Option X)) (s k : ℕ) → k ≢ s → slice_index_or (slice_set xs s None) k None ≡ slice_index_or xs k None
kept xs s k ne = get_or-set_other xs s k None None ne

-- no superior is the slot of a job that has none below it
not_superior : (superiors : ℕ → Option ℕ) (s k i : ℕ) → is_below superiors s k ≡ false → k ≢ s → superiors k ≡ Some i → i ≢ s
not_superior superiors s k i h ne e f = let below : is_below superiors s k ≡ true = below_superior superiors s k ne (e ∙ ap Some f) in cc

emptied_at : (xs : List (Option ℕ)) (s k : ℕ) → s < length xs
    → slice_index_or (slice_set xs s None) k None ≡ (if k == s then None else slice_index_or xs k None)
emptied_at xs s k h = elim (cases_eq k s) [
  | inl e ↦ rw (eq-eqb k s e, e) (emptied xs s h)
  | inr ne ↦ rw (ne_eqb k s ne) (kept xs s k ne)
]

stands : (jobs : List (Option Job)) (superiors : List (Option ℕ)) (s k : ℕ) (o : Option ℕ) → slice_index_or superiors k None ≡ o → k ≢ s
    → is_below (λ i. slice_index_or superiors i None) s k ≡ false
    → IfSome o (λ i. is_some (slice_index_or jobs i None) ≡ true) → IfSome o (λ i. is_some (slice_index_or (slice_set jobs s None) i None) ≡ true)
stands jobs superiors s k None e ne leaf h = tt
stands jobs superiors s k (Some i) e ne leaf h = rw (kept jobs s i (not_superior (λ j. slice_index_or superiors j None) s k i leaf ne e)) h

-- a job that has none below it is removed
pub removed : (jobs : List (Option Job)) (superiors : List (Option ℕ)) (s : ℕ) → IsTree jobs superiors → s < slots
    → ((k : ℕ) → is_below (λ i. slice_index_or superiors i None) s k ≡ false)
    → IsTree (slice_set jobs s None) (slice_set superiors s None)
removed jobs superiors s t h leaf =
    let in_jobs : s < length jobs = omega arith in
    let in_superiors : s < length superiors = omega arith in
    record {
      job_count = length-set jobs s None ∙ t.job_count;
      superior_count = length-set superiors s None ∙ t.superior_count;
      below = λ k. elim (cases_eq k s) [ inl e ↦ rw (e, emptied superiors s in_superiors) tt | inr ne ↦ rw (kept superiors s k ne) (t.below k) ];
      standing = λ k. elim (cases_eq k s) [
        | inl e ↦ rw (e, emptied superiors s in_superiors) tt
        | inr ne ↦ rw (kept superiors s k ne) (stands jobs superiors s k (slice_index_or superiors k None) refl ne (leaf k) (t.standing k))
      ];
      owned = λ k f. elim (cases_eq k s) [
        | inl e ↦ rw (e, emptied superiors s in_superiors) refl
        | inr ne ↦ kept superiors s k ne ∙ t.owned k (sym (kept jobs s k ne) ∙ f)
      ];
      circle = circle_cut (superior_in superiors) (superior_in (slice_set superiors s None)) (λ k. k == s)
          (λ k. emptied_at superiors s k in_superiors) t.circle;
    }

-- no slot has a job if none of the places has
pub nobody : (jobs : List (Option Job)) (k : ℕ) → length jobs ≡ slots → no_job (λ i. slice_index_or jobs i None) ≡ true → slice_index_or jobs k None ≡ None
nobody jobs k n h = elim (cases_lt k slots) [
  | inl l ↦ no_job_there (λ i. slice_index_or jobs i None) k h l
  | inr l ↦ get_or_past jobs k None (omega arith)
]

-- no job is below one that has no first below it
pub none_at_all : (superiors : List (Option ℕ)) (s : ℕ) → length superiors ≡ slots → slice_get (slots_below (λ i. slice_index_or superiors i None) s) 0 ≡ None
    → (j : ℕ) → is_below (λ i. slice_index_or superiors i None) s j ≡ false
none_at_all superiors s n h j = elim (cases_lt j slots) [
  | inl l ↦ none_below (λ i. slice_index_or superiors i None) s j h l
  | inr l ↦ below_none (λ i. slice_index_or superiors i None) s j (get_or_past superiors j None (omega arith))
]
