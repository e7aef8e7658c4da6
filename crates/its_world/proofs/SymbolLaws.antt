-- The lists of symbols: one that gains a symbol, and those that are emptied.
use Rattle.std.specs.Prelude.{◌≡◌, ◌≤◌, ◌<◌, ◌+◌, ℕ, zero, suc, Bool, true, false, List, [], ◌∷◌, ◌++◌, length, slice_index_or, slice_set, refl}
use Rattle.std.proofs.Common.{sym, ◌∙◌, ap, subst, arith, inl, inr}
use Rattle.std.proofs.lemmas.Bool.{cases_eq, cases_lt}
use Rattle.std.proofs.lemmas.List.{get_or_past}
use Rattle.its_word.specs.ArrayVec.{ArrayVec}
use Rattle.its_word.specs.Only.{Only, Same}
use Rattle.its_jobs.specs.Table.{job_at}
use Rattle.its_plain.specs.Machine.Change.{symbols_after_removal}
use Rattle.its_plain.specs.Machine.{Symbol}
use Rattle.its_world.specs.Contents.{contents}
use Rattle.its_world.specs.World.{no_symbols, symbols_at, VersionBecomes}
use Rattle.its_world.specs.declared.world.World.{World}
use Rattle.its_world.proofs.PlaceLaws.{doors_in, on_lists_jobs}
use Rattle.its_shared.proofs.OpenLaws.{list_here}
use Rattle.its_world.proofs.ContentsLaws.{frames_as, lists_as}

-- the list in place s gains a symbol
list_had : (xs : List (ArrayVec Symbol)) (s : ℕ) (x : ArrayVec Symbol) → s < length xs → x ≡ slice_index_or xs s x → x.items ≡ symbols_at xs s
list_had [] s x l e = absurd (omega arith)
list_had (y ∷ xs) zero x l e = ap (λ (z : ArrayVec Symbol). z.items) e
list_had (y ∷ xs) (suc s) x l e = list_had xs s x (omega arith) e

pub list_gains : (xs : List (ArrayVec Symbol)) (s i : ℕ) (x y : ArrayVec Symbol) (b : Symbol) → s < length xs → i ≡ s
    → x ≡ slice_index_or xs i x → y.items ≡ x.items ++ b ∷ []
    → Only (symbols_at xs) (symbols_at (slice_set xs i y)) s (symbols_at xs s ++ b ∷ [])
list_gains xs s i x y b l is e more =
    subst (λ (k : ℕ). Only (symbols_at xs) (symbols_at (slice_set xs k y)) s (symbols_at xs s ++ b ∷ [])) (sym is)
    (list_here xs s y (symbols_at xs s ++ b ∷ []) l (more ∙ ap (λ (bs : List Symbol). bs ++ b ∷ [])
    (list_had xs s x l (e ∙ ap (λ (k : ℕ). slice_index_or xs k x) is))))

pub version_becomes : (old new : World) (v : ℕ) → Same (job_at old.jobs) (job_at new.jobs) → new.jobs.superiors ≡ old.jobs.superiors
    → contents new ≡ record (contents old) { version = v; jobs = new.jobs } → VersionBecomes old new v
version_becomes old new v jobs superiors e = record {
  jobs = jobs;
  superiors = superiors;
  rest = λ t. record (e t) { wait_lists = new.wait_lists };
  on_lists = on_lists_jobs old new jobs (frames_as e) (ap doors_in e) (lists_as e);
}

-- the lists below n are done
pub record Forgotten (gone : ℕ → Bool) (old new : List (ArrayVec Symbol)) (n : ℕ) : Type 0 where
  pub done : (k : ℕ) → k < n → symbols_at new k ≡ symbols_after_removal (gone k) (symbols_at old k)
  pub rest : (k : ℕ) → n ≤ k → symbols_at new k ≡ symbols_at old k

pub forget_start : (gone : ℕ → Bool) (old : List (ArrayVec Symbol)) → Forgotten gone old old 0
forget_start gone old = record { done = λ k l. absurd (omega arith); rest = λ k l. refl }

pub forget_gone : (gone : ℕ → Bool) (old new : List (ArrayVec Symbol)) (n : ℕ) (x : ArrayVec Symbol) → n < length new → x.items ≡ []
    → gone n ≡ true → Forgotten gone old new n
    → Forgotten gone old (slice_set new n x) (n + 1)
forget_gone gone old new n x l e g c = record {
  done = λ k less. elim (cases_eq k n) [
    | inl is ↦ ap (symbols_at (slice_set new n x)) is ∙ (list_here new n x [] l e).here
        ∙ sym (ap (λ (b : Bool). symbols_after_removal b (symbols_at old k)) (ap gone is ∙ g))
    | inr ne ↦ (list_here new n x [] l e).others k ne ∙ c.done k (omega arith)
  ];
  rest = λ k less. (list_here new n x [] l e).others k (λ is. omega arith) ∙ c.rest k (omega arith);
}

pub forget_kept : (gone : ℕ → Bool) (old new : List (ArrayVec Symbol)) (n : ℕ) → gone n ≡ false → Forgotten gone old new n → Forgotten gone old new (n + 1)
forget_kept gone old new n g c = record {
  done = λ k less. elim (cases_eq k n) [
    | inl is ↦ c.rest k (omega arith) ∙ sym (ap (λ (b : Bool). symbols_after_removal b (symbols_at old k)) (ap gone is ∙ g))
    | inr ne ↦ c.done k (omega arith)
  ];
  rest = λ k less. c.rest k (omega arith);
}

left_none : (b : Bool) (ss : List Symbol) → ss ≡ [] → symbols_after_removal b ss ≡ []
left_none true ss e = refl
left_none false ss e = e

pub forget_end : (gone : ℕ → Bool) (old new : List (ArrayVec Symbol)) (n : ℕ) → length old ≤ n → Forgotten gone old new n
    → (k : ℕ) → symbols_at new k ≡ symbols_after_removal (gone k) (symbols_at old k)
forget_end gone old new n l c k = elim (cases_lt k n) [
  | inl less ↦ c.done k less
  | inr past ↦
      let none : symbols_at old k ≡ [] = ap (λ (y : ArrayVec Symbol). y.items) (get_or_past old k no_symbols (omega arith)) in
      c.rest k past ∙ none ∙ sym (left_none (gone k) (symbols_at old k) none)
]
