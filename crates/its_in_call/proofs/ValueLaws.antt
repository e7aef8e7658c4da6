-- The last inputs of a call get new values, one after the other.
use Rattle.std.specs.Prelude.{◌≡◌, ◌<◌, ◌≤◌, ℕ, zero, suc, ◌+◌, ◌-◌, List, [], ◌∷◌, ◌++◌, length, take, drop, slice_set, slice_index_or, refl}
use Rattle.std.proofs.Common.{sym, ap, ◌∙◌, subst, arith}
use Rattle.std.proofs.lemmas.List.{length-take, length-drop, length-append, take_all, take-append-drop, get_or-append_right, set-append_right}
use Rattle.its_records.specs.declared.calls.Ask.{Ask}
use Rattle.its_records.specs.declared.calls.Operand.{Operand}
use Rattle.its_plain.specs.Call.Arguments.{operands_with_values, with_new_values}
use Rattle.its_in_call.specs.Values.{no_operand, with_value, with_values}
use Rattle.its_stepped.proofs.Frame.PageLaws.{valued_none}

length_valued : (os : List Operand) (vs : List ℕ) → length (operands_with_values os vs) ≡ length os
length_valued [] [] = refl
length_valued [] (v ∷ vs) = refl
length_valued (o ∷ os) [] = refl
length_valued (o ∷ os) (v ∷ vs) = ap suc (length_valued os vs)

valued_step : (os : List Operand) (vs : List ℕ) (k v : ℕ) → k < length os → k < length vs → v ≡ slice_index_or vs k v
    → slice_set (operands_with_values os (take k vs)) k (record (slice_index_or (operands_with_values os (take k vs)) k no_operand)
    { value = v }) ≡ operands_with_values os (take (suc k) vs)
valued_step [] vs k v lo lv e = absurd (omega arith)
valued_step (p ∷ os) [] k v lo lv e = absurd (omega arith)
valued_step (p ∷ os) (w ∷ vs) zero v lo lv e = λ t. record p { value = e t } ∷ sym (valued_none os) t
valued_step (p ∷ os) (w ∷ vs) (suc k) v lo lv e = ap (λ xs. record p { value = w } ∷ xs) (valued_step os vs k v (omega arith) (omega arith) e)

valued_past : (os : List Operand) (vs : List ℕ) (k : ℕ) → length os ≤ k → operands_with_values os (take (suc k) vs) ≡ operands_with_values os (take k vs)
valued_past [] vs k h = nil (take (suc k) vs) ∙ sym (nil (take k vs))
  where
    nil : (ws : List ℕ) → operands_with_values [] ws ≡ []
    nil [] = refl
    nil (w ∷ ws) = refl
valued_past (p ∷ os) vs zero h = absurd (omega arith)
valued_past (p ∷ os) [] (suc k) h = refl
valued_past (p ∷ os) (w ∷ vs) (suc k) h = ap (λ xs. record p { value = w } ∷ xs) (valued_past os vs k (omega arith))

module _ (was : Ask) (vs : List ℕ) (kept : ℕ) (k : ℕ) (within : kept ≤ length was.inputs.items) where
  abbrev first : List Operand
  first = take kept was.inputs.items

  abbrev os : List Operand
  os = drop kept was.inputs.items

  kept_long : length first ≡ kept
  kept_long = let l = length-take kept was.inputs.items in omega arith

  rest_long : kept + length os ≡ length was.inputs.items
  rest_long = let l = length-drop kept was.inputs.items in omega arith

  next : suc k ≡ k + 1
  next = omega arith

  pub all_long : length (with_values was kept (take k vs)).inputs.items ≡ kept + length os
  all_long = length-append first (operands_with_values os (take k vs)) ∙ rw (kept_long, length_valued os (take k vs)) refl

  pub value_set : (v : ℕ) → k < length vs → kept + k < length (with_values was kept (take k vs)).inputs.items → v ≡ slice_index_or vs k v
      → with_value (with_values was kept (take k vs)) (kept + k) v ≡ with_values was kept (take (k + 1) vs)
  value_set v lv lo e =
      let l = all_long in
      let back : kept + k - kept ≡ k = omega arith in
      ap (λ xs. record was { inputs = record { items = xs } })
      (ap (λ d. slice_set (first ++ operands_with_values os (take k vs)) (kept + k) (record d { value = v }))
      (get_or-append_right first (operands_with_values os (take k vs)) kept (kept + k) no_operand kept_long (omega arith)
      ∙ ap (λ i. slice_index_or (operands_with_values os (take k vs)) i no_operand) back)
      ∙ set-append_right first (operands_with_values os (take k vs)) kept (kept + k) _ kept_long (omega arith)
      ∙ ap (λ i. first ++ slice_set (operands_with_values os (take k vs)) i
      (record (slice_index_or (operands_with_values os (take k vs)) k no_operand) { value = v })) back
      ∙ ap (λ ys. first ++ ys) (valued_step os vs k v (omega arith) lv e ∙ ap (λ n. operands_with_values os (take n vs)) next))

  pub value_past : length (with_values was kept (take k vs)).inputs.items ≤ kept + k
      → with_values was kept (take k vs) ≡ with_values was kept (take (k + 1) vs)
  value_past h =
      let l = all_long in
      ap (λ ys. record was { inputs = record { items = first ++ ys } })
      (sym (valued_past os vs k (omega arith)) ∙ ap (λ n. operands_with_values os (take n vs)) next)

pub values_none : (was : Ask) (vs : List ℕ) (kept : ℕ) → kept ≤ length was.inputs.items → was ≡ with_values was kept (take 0 vs)
values_none was vs kept h =
    ap (λ xs. record was { inputs = record { items = xs } })
    (sym (take-append-drop kept was.inputs.items) ∙ ap (λ ys. take kept was.inputs.items ++ ys) (sym (valued_none (drop kept was.inputs.items))))

pub values_all : (was : Ask) (vs : List ℕ) (kept n : ℕ) → kept ≡ length was.inputs.items - length vs → n ≡ length vs
    → with_values was kept (take n vs) ≡ with_new_values was vs
unfolding with_new_values
values_all was vs kept n e f =
    ap (λ ws. with_values was kept ws) (take_all n vs (omega arith))
    ∙ ap (λ m. with_values was m vs) e

-- a turn of the loop
pub turn_set : (was a b : Ask) (vs : List ℕ) (kept k v : ℕ) → kept ≡ length was.inputs.items - length vs
    → a ≡ with_values was kept (take k vs) → k < length vs
    → kept + k < length a.inputs.items → v ≡ slice_index_or vs k v → b ≡ with_value a (kept + k) v → b ≡ with_values was kept (take (k + 1) vs)
turn_set was a b vs kept k v e is lv lo iv ib =
    ib ∙ ap (λ (x : Ask). with_value x (kept + k) v) is
    ∙ value_set was vs kept k (omega arith) v lv (subst (λ (x : Ask). kept + k < length x.inputs.items) is lo) iv

pub turn_past : (was a b : Ask) (vs : List ℕ) (kept k : ℕ) → kept ≡ length was.inputs.items - length vs → a ≡ with_values was kept (take k vs)
    → length a.inputs.items ≤ kept + k → b ≡ a → b ≡ with_values was kept (take (k + 1) vs)
turn_past was a b vs kept k e is past ib =
    ib ∙ is ∙ value_past was vs kept k (omega arith) (subst (λ (x : Ask). length x.inputs.items ≤ kept + k) is past)
