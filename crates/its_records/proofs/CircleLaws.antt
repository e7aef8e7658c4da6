-- A job that has no superior gets one that is not below it: no job is reached from itself then.
use Rattle.std.specs.Prelude.{if◌then◌else◌, ◌≡◌, ◌≤◌, ◌<◌, ◌==◌, ◌||◌, ◌⊎◌, ℕ, zero, suc, ◌+◌, Bool, true, false, Option, Some, None, nat_le, refl}
use Rattle.std.proofs.Common.{sym, ◌∙◌, ap, subst, arith, inl, inr}
use Rattle.std.proofs.lemmas.Bool.{cases_Bool}
use Rattle.std.proofs.lemmas.Bool.Decides.{nat_tests}
use Rattle.its_word.specs.Limits.{slots}
use Rattle.its_records.specs.Tree.{climbs_to}
use Rattle.its_records.proofs.ClimbLaws.{more as one_more}
use Rattle.its_records.proofs.TreeLaws.{climb_end, climb_spent}

module _ (f : ℕ → Option ℕ) where
  -- a step of a climb
  here_or_on : (s n k : ℕ) → climbs_to f s (suc n) (Some k) ≡ ((k == s) || climbs_to f s n (f k))
  unfolding climbs_to
  here_or_on s n k = refl

  -- in more steps
  more : (s n m : ℕ) (o : Option ℕ) → n ≤ m → climbs_to f s n o ≡ true → climbs_to f s m o ≡ true
  more s n zero o l h = let e : n ≡ zero = omega arith in subst (λ x. climbs_to f s x o ≡ true) e h
  more s n (suc m) o l h = elim (cases_Bool (nat_le n m)) [
    | inl t ↦ (let le : n ≤ m = grind (arith, nat_tests) in one_more f s m o (more s n m o le h))
    | inr t ↦ (let e : n ≡ suc m = (let g : m < n = grind (arith, nat_tests) in omega arith) in subst (λ x. climbs_to f s x o ≡ true) e h)
  ]

  by_either : (p q : Bool) → (p ≡ true) ⊎ (q ≡ true) → (p || q) ≡ true
  by_either true q h = refl
  by_either false q (inl h) = cc
  by_either false q (inr h) = h

  of_either : (p q : Bool) → (p || q) ≡ true → (p ≡ true) ⊎ (q ≡ true)
  of_either true q h = inl refl
  of_either false q h = inr h

  on_from : (s n x : ℕ) → (((x == s) ≡ true) ⊎ (climbs_to f s n (f x) ≡ true)) → climbs_to f s (suc n) (Some x) ≡ true
  on_from s n x h = here_or_on s n x ∙ by_either (x == s) (climbs_to f s n (f x)) h

  step_of : (s n x : ℕ) → climbs_to f s (suc n) (Some x) ≡ true → ((x == s) ≡ true) ⊎ (climbs_to f s n (f x) ≡ true)
  step_of s n x h = of_either (x == s) (climbs_to f s n (f x)) (sym (here_or_on s n x) ∙ h)

  -- a climb to k, and one from k on
  joined_climbs : (s k a b : ℕ) (o : Option ℕ) → climbs_to f k a o ≡ true → climbs_to f s b (f k) ≡ true → climbs_to f s (a + b) o ≡ true
  joined_climbs s k zero b o h g = absurd (let y : false ≡ true = sym (climb_spent f k 0 o refl) ∙ h in cc)
  joined_climbs s k (suc a) b None h g = absurd (let y : false ≡ true = sym (climb_end f k (suc a)) ∙ h in cc)
  joined_climbs s k (suc a) b (Some x) h g = subst (λ n. climbs_to f s n (Some x) ≡ true) (omega arith)
      (on_from s (a + b) x (by (step_of k a x h) (λ y. joined_climbs s k a b (f x) y g)))
    where
      by : ((x == k) ≡ true) ⊎ (climbs_to f k a (f x) ≡ true) → (climbs_to f k a (f x) ≡ true → climbs_to f s (a + b) (f x) ≡ true)
          → ((x == s) ≡ true) ⊎ (climbs_to f s (a + b) (f x) ≡ true)
      by (inl e) rest = inr (let h : x ≡ k = grind (arith, nat_tests) in more s b (a + b) (f x) (omega arith)
          (subst (λ i. climbs_to f s b (f i) ≡ true) (sym h) g))
      by (inr e) rest = inr (rest e)

-- the edges with one more
module _ (f : ℕ → Option ℕ) (s t : ℕ) (top : f s ≡ None) (apart : climbs_to f s slots (Some t) ≡ false) where
  abbrev pub edges : ℕ → Option ℕ
  edges x = if x == s then Some t else f x

  edge_here : (x : ℕ) → (x == s) ≡ true → edges x ≡ Some t
  edge_here x e = ap (λ b. if b then Some t else f x) e

  edge_other : (x : ℕ) → (x == s) ≡ false → edges x ≡ f x
  edge_other x e = ap (λ b. if b then Some t else f x) e

  not_from_t : (j : ℕ) → j ≤ slots → climbs_to f s j (Some t) ≡ true → ⊥
  not_from_t j l h = let y : false ≡ true = sym apart ∙ more f s j slots (Some t) l h in cc

  -- a climb with the new edge does without it, or it goes to s and on from t
  data Split (k j : ℕ) (o : Option ℕ) : Type 0 where
    without : climbs_to f k j o ≡ true → Split k j o
    through : (a b : ℕ) → a + b ≤ j → climbs_to f s a o ≡ true → climbs_to f k b (Some t) ≡ true → Split k j o

  split : (k j : ℕ) (o : Option ℕ) → j ≤ slots → climbs_to edges k j o ≡ true → Split k j o
  split k zero o l h = absurd (let y : false ≡ true = sym (climb_spent edges k 0 o refl) ∙ h in cc)
  split k (suc j) None l h = absurd (let y : false ≡ true = sym (climb_end edges k (suc j)) ∙ h in cc)
  split k (suc j) (Some x) l h = by (step_of edges k j x h) (λ o g. split k j o (omega arith) g)
    where
      lift : (x == s) ≡ false → Split k j (f x) → Split k (suc j) (Some x)
      lift e (without g) = without (on_from f k j x (inr g))
      lift e (through a b m g i) = through (suc a) b (omega arith) (on_from f s a x (inr g)) i

      from_s : (x == s) ≡ true → Split k j (Some t) → Split k (suc j) (Some x)
      from_s e (without g) = through 1 j (omega arith) (on_from f s 0 x (inl e)) g
      from_s e (through a b m g i) = absurd (not_from_t a (omega arith) g)

      on : (b : Bool) → (x == s) ≡ b → climbs_to edges k j (edges x) ≡ true → ((o : Option ℕ) → climbs_to edges k j o ≡ true → Split k j o)
          → Split k (suc j) (Some x)
      on true e g rest = from_s e (rest (Some t) (subst (λ o. climbs_to edges k j o ≡ true) (edge_here x e) g))
      on false e g rest = lift e (rest (f x) (subst (λ o. climbs_to edges k j o ≡ true) (edge_other x e) g))

      by : ((x == k) ≡ true) ⊎ (climbs_to edges k j (edges x) ≡ true) → ((o : Option ℕ) → climbs_to edges k j o ≡ true → Split k j o)
          → Split k (suc j) (Some x)
      by (inl e) rest = without (on_from f k j x (inl e))
      by (inr g) rest = on (x == s) refl g rest

  -- no job is reached from itself
  pub no_new_circle : ((k : ℕ) → climbs_to f k slots (f k) ≡ false) → (k : ℕ) → climbs_to edges k slots (edges k) ≡ false
  no_new_circle circle k = go (climbs_to edges k slots (edges k)) refl
    where
      clash : (j : ℕ) (o : Option ℕ) → climbs_to f j slots o ≡ false → climbs_to f j slots o ≡ true → ⊥
      clash j o x y = let z : false ≡ true = sym x ∙ y in cc

      at_s : (k == s) ≡ true → Split k slots (Some t) → ⊥
      at_s e (without g) = not_from_t slots (omega arith) (let h : k ≡ s = grind (arith, nat_tests) in subst (λ i. climbs_to f i slots (Some t) ≡ true) h g)
      at_s e (through a b m g i) = not_from_t a (omega arith) g

      elsewhere : Split k slots (f k) → ⊥
      elsewhere (without g) = clash k (f k) (circle k) g
      elsewhere (through a b m g i) = not_from_t (b + a) (omega arith) (joined_climbs f s k b a (Some t) i g)

      go : (b : Bool) → climbs_to edges k slots (edges k) ≡ b → b ≡ false
      go false e = refl
      go true e = absurd (by (k == s) refl)
        where
          by : (b : Bool) → (k == s) ≡ b → ⊥
          by true g = at_s g (split k slots (Some t) (omega arith) (subst (λ o. climbs_to edges k slots o ≡ true) (edge_here k g) e))
          by false g = elsewhere (split k slots (f k) (omega arith) (subst (λ o. climbs_to edges k slots o ≡ true) (edge_other k g) e))
