-- The symbol that is nearest to a PC, found by looking at one after another.
use Rattle.std.specs.Prelude.{◌≡◌, ◌≤◌, ◌<◌, ◌+◌, ◌-◌, ◌&&◌, not, ℕ, zero, suc, Bool, true, false, Option, Some, None, IfSome, List, [], ◌∷◌, length, drop, nat_lt, cond, slice_index_or, refl}
use Rattle.std.proofs.Common.{sym, ◌∙◌, ap, subst, inl, inr, arith}
use Rattle.std.proofs.lemmas.Bool.{cases_Bool, ltb-false}
use Rattle.its_plain.specs.Machine.{Symbol}
use Rattle.its_plain.specs.Operator.Symbols.{is_nearer, nearer, nearest_after, nearest, with_distance, symbol_shown}

drop_next : (ss : List Symbol) (i : ℕ) (x : Symbol) → i < length ss → x ≡ slice_index_or ss i x → drop i ss ≡ x ∷ drop (suc i) ss
drop_next [] i x l e = absurd (omega arith)
drop_next (y ∷ ss) zero x l e = ap (λ z. z ∷ ss) (sym e)
drop_next (y ∷ ss) (suc i) x l e = drop_next ss i x (omega arith) e

drop_past : (ss : List Symbol) (i : ℕ) → length ss ≤ i → drop i ss ≡ []
drop_past [] zero l = refl
drop_past [] (suc i) l = refl
drop_past (y ∷ ss) zero l = absurd (omega arith)
drop_past (y ∷ ss) (suc i) l = drop_past ss i (omega arith)

-- the first i symbols are looked at
pub record Looking (pc : ℕ) (ss : List Symbol) (i : ℕ) (best : Option Symbol) : Type 0 where
  pub left : nearest_after pc best (drop i ss) ≡ nearest pc ss
  pub below : IfSome best (λ b. b.1 ≤ pc)

pub near_start : (pc : ℕ) (ss : List Symbol) → Looking pc ss 0 None
unfolding nearest
near_start pc ss = record { left = refl; below = tt }

near_by : (pc : ℕ) (best : Option Symbol) (x : Symbol) (b : Bool) → is_nearer pc best x ≡ b → IfSome best (λ y. y.1 ≤ pc)
    → IfSome (cond b (Some x) best) (λ y. y.1 ≤ pc)
near_by pc best x false is h = h
near_by pc (Some y) x true is h = under pc x.1 (nat_lt x.1 y.1) is
  where
    under : (pc a : ℕ) (b : Bool) → (not (nat_lt pc a) && not b) ≡ true → a ≤ pc
    under pc a b e = elim (cases_Bool (nat_lt pc a)) [
      | inl t ↦ let no : (not true && not b) ≡ true = subst (λ c. (not c && not b) ≡ true) t e in absurd cc
      | inr f ↦ ltb-false pc a f
    ]
near_by pc None x true is h = elim (cases_Bool (nat_lt pc x.1)) [
  | inl t ↦ let no : not true ≡ true = subst (λ c. not c ≡ true) t is in absurd cc
  | inr f ↦ ltb-false pc x.1 f
]

pub near_next : (pc : ℕ) (ss : List Symbol) (i : ℕ) (best y : Option Symbol) (x : Symbol) → i < length ss → x ≡ slice_index_or ss i x
    → y ≡ nearer pc best x → Looking pc ss i best
    → Looking pc ss (i + 1) y
near_next pc ss i best y x l e is h = record {
  left =
      let next : i + 1 ≡ suc i = omega arith in
      ap (λ (k : ℕ). nearest_after pc y (drop k ss)) next ∙ ap (λ (o : Option Symbol). nearest_after pc o (drop (suc i) ss)) is
      ∙ sym (ap (nearest_after pc best) (drop_next ss i x l e)) ∙ h.left;
  below = subst (λ (o : Option Symbol). IfSome o (λ z. z.1 ≤ pc)) (sym is) (near_by pc best x (is_nearer pc best x) refl h.below);
}

found : (pc : ℕ) (ss : List Symbol) (i : ℕ) (best : Option Symbol) → length ss ≤ i → Looking pc ss i best → best ≡ nearest pc ss
found pc ss i best l h = sym (ap (nearest_after pc best) (drop_past ss i l)) ∙ h.left

pub near_some : (pc : ℕ) (ss : List Symbol) (i : ℕ) (best : Option Symbol) (name a : ℕ) → length ss ≤ i → Looking pc ss i best → best ≡ Some (name, a)
    → Some (name, pc - a) ≡ symbol_shown pc ss
near_some pc ss i best name a l h e = sym (ap (with_distance pc) e) ∙ ap (with_distance pc) (found pc ss i best l h)

pub near_none : (pc : ℕ) (ss : List Symbol) (i : ℕ) (best : Option Symbol) → length ss ≤ i → Looking pc ss i best → best ≡ None → None ≡ symbol_shown pc ss
near_none pc ss i best l h e = sym (ap (with_distance pc) e) ∙ ap (with_distance pc) (found pc ss i best l h)
