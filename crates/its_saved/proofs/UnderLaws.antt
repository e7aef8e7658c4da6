-- A line UNDER makes no circle of superiors.
use Rattle.std.specs.Prelude.{◌≡◌, ◌==◌, ◌&&◌, ℕ, Bool, true, false, Option, Some, None, not, is_some, is_none, option_map, refl}
use Rattle.std.proofs.Common.{sym, ◌∙◌, ap, subst, arith, inl, inr}
use Rattle.std.proofs.lemmas.Bool.{cases_Bool}
use Rattle.std.proofs.lemmas.Bool.Decides.{nat_tests}
use Rattle.its_word.specs.Limits.{slots}
use Rattle.its_records.specs.Tree.{climbs_to}
use Rattle.its_records.proofs.CircleLaws.{no_new_circle}
use Rattle.std.proofs.lemmas.Option.{same_Some}
use Rattle.its_plain.specs.Machine.{Whole, Machine, changed}
use Rattle.its_plain.specs.Machine.Change.{superiors, superior_in, in_job}
use Rattle.its_saved.specs.Building.{build, only_if, under, with_superior_set}
use Rattle.its_saved.specs.StateLine as state

-- a test that succeeds, and what is left then
pub passed : (b : Bool) (m n : Machine) → only_if b m ≡ Some n → (b ≡ true) × (m ≡ n)
passed true m n e = (refl, same_Some m n e)
passed false m n e = cc

-- superiors after a line UNDER
edges_are : (m : Machine) (s t : ℕ) → is_some (m.jobs s) ≡ true → (k : ℕ) → superiors (in_job m s (under t)) k ≡ changed (superiors m) s (Some t) k
edges_are m s t job k = elim (cases_Bool (k == s)) [
  | inl e ↦ (let h : k ≡ s = grind (arith, nat_tests) in rw e (there (m.jobs k) (ap (λ i. is_some (m.jobs i)) h ∙ job)))
  | inr e ↦ rw e refl
]
  where
    there : (o : Option Whole) → is_some o ≡ true → superior_in (option_map (under t) o) ≡ Some t
    there (Some q) h = refl
    there None h = cc

-- no job is reached from itself through superiors
abbrev pub NoCircle : Machine → Type 0
NoCircle m = (k : ℕ) → climbs_to (superiors m) k slots (superiors m k) ≡ false

-- a line UNDER makes no circle
pub no_circle : (m n : Machine) (s t : ℕ) → build m (state.Under s t) ≡ Some n → NoCircle m → NoCircle n
unfolding build with_superior_set
no_circle m n s t e circle =
    let a = passed (is_some (m.jobs s) && is_none (superiors m s) && is_some (m.jobs t) && not (climbs_to (superiors m) s slots (Some t)))
    (in_job m s (under t)) n e in
    let b = tests (is_some (m.jobs s)) (superiors m s) (is_some (m.jobs t)) (climbs_to (superiors m) s slots (Some t)) a.0 in
    let same : superiors (in_job m s (under t)) ≡ changed (superiors m) s (Some t) = λ i. λ k. edges_are m s t b.0 k i in
    subst NoCircle a.1
    (subst (λ (f : ℕ → Option ℕ). (k : ℕ) → climbs_to f k slots (f k) ≡ false) (sym same)
    (no_new_circle (superiors m) s t b.1 b.2 circle))
  where
    tests : (j : Bool) (o : Option ℕ) (x y : Bool) → (j && is_none o && x && not y) ≡ true → (j ≡ true) × (o ≡ None) × (y ≡ false)
    tests true None true false h = (refl, refl, refl)
    tests true None true true h = cc
    tests true None false y h = cc
    tests true (Some k) x y h = cc
    tests false o x y h = cc
