-- The pending words of a call, as stores.
use Rattle.std.specs.Prelude.{◌≡◌, ◌<◌, ◌≤◌, ℕ, suc, ◌-◌, ◌%◌, ◌^◌, ◌==◌, false, Option, Some, None, option_map, List, [], ◌∷◌, length, drop, slice_index_or, refl}
use Rattle.std.proofs.Common.{arith, sym, ap, ◌∙◌, length-drop, drop-cons}
use Rattle.its_word.specs.Core.{Core, store}
use Rattle.its_records.specs.declared.calls.Ask.{Ask}
use Rattle.its_records.specs.declared.calls.Operand.{Operand}
use Rattle.its_word.specs.declared.plan.Store as stores
use Rattle.its_plain.specs.Call.Arguments.{stores_of, debts}
use Rattle.its_word.specs.Stores.{place, stored}
use Rattle.its_stepped.specs.Unwind.{first_debt}
use Rattle.its_files.specs.Files.{Store}
use Rattle.its_files.specs.declared.entry.Mark.{Mark as FilesMark}
use Rattle.its_stepped.specs.State.{mine}
use Rattle.its_world.specs.World.{state_of, mark_of, marking, CoreBecomes}
use Rattle.its_world.specs.declared.world.World.{World}

-- the close that is marked is that of a slot's call
mine_by : (t : Store) (m : Option FilesMark) (o s : ℕ) → Some o ≡ option_map (λ k. k.owner) m → (o == s) ≡ mine (marking t m) s
mine_by t (Some m) o s h = let e : o ≡ m.owner = cc in ap (λ k. k == s) e
mine_by t None o s h = cc

none_mine : (t : Store) (m : Option FilesMark) (s : ℕ) → None ≡ option_map (λ k. k.owner) m → false ≡ mine (marking t m) s
none_mine t (Some m) s h = cc
none_mine t None s h = refl

pub owner_some : (w : World) (o s : ℕ) → Some o ≡ option_map (λ k. k.owner) w.files.mark → (o == s) ≡ mine (state_of w).mark s
unfolding state_of mark_of
owner_some w o s h = mine_by w.files w.files.mark o s h

pub owner_none : (w : World) (s : ℕ) → None ≡ option_map (λ k. k.owner) w.files.mark → false ≡ mine (state_of w).mark s
unfolding state_of mark_of
owner_none w s h = none_mine w.files w.files.mark s h

-- one store
pub one_stored : (old new : World) (k : ℕ) (c : Core) (s : stores.Store) → CoreBecomes old new k (store c (s.at % 2 ^ 18) s.word)
    → CoreBecomes old new k (stored c (s ∷ []))
unfolding stored
one_stored old new k c s h = h

-- at most one store for each argument
stores_few : (os : List Operand) → length (stores_of os) ≤ length os
stores_few [] = omega arith
stores_few (o ∷ os) = go o.place (stores_few os)
  where
    go : (p : Option ℕ) → length (stores_of os) ≤ length os → length (stores_of (record o { place = p } ∷ os)) ≤ length (o ∷ os)
    go (Some p) h = omega arith
    go None h = omega arith

-- the pending arguments are among the arguments
pub enough : (a : Ask) (n : ℕ) → length (debts a n) ≡ n → n ≤ length a.inputs.items
unfolding debts
enough a n h =
    let few = stores_few (drop (length a.inputs.items - n) a.inputs.items) in
    let all = length-drop (length a.inputs.items - n) a.inputs.items in
    omega arith

-- the first of them is a word, and is stored first
head_is : (o : Operand) (os : List Operand) (p : ℕ) → o.place ≡ Some p → first_debt (stores_of (o ∷ os)) ≡ record { at = p; word = o.value } ∷ []
head_is o os p h = go o.place h
  where
    go : (q : Option ℕ) → q ≡ Some p → first_debt (stores_of (record o { place = q } ∷ os)) ≡ record { at = p; word = o.value } ∷ []
    go (Some q) e = let k : p ≡ q = cc in rw k refl
    go None e = cc

head_place : (o : Operand) (os : List Operand) → o.place ≡ None → length (stores_of (o ∷ os)) ≤ length os
head_place o os h = go o.place h
  where
    go : (q : Option ℕ) → q ≡ None → length (stores_of (record o { place = q } ∷ os)) ≤ length os
    go (Some q) e = cc
    go None e = stores_few os

owed_split : (xs : List Operand) (n : ℕ) (o : Operand) → 0 < n → n ≤ length xs → o ≡ slice_index_or xs (length xs - n) o
    → drop (length xs - n) xs ≡ o ∷ drop (suc (length xs - n)) xs
owed_split xs n o some few h =
    let lt : length xs - n < length xs = omega arith in
    drop-cons xs (length xs - n) o lt ∙ ap (λ x. x ∷ drop (suc (length xs - n)) xs) (sym h)

pub first_is : (a : Ask) (n k p : ℕ) (o : Operand) → 0 < n → length (debts a n) ≡ n → k ≡ length a.inputs.items - n
    → o ≡ slice_index_or a.inputs.items k o → o.place ≡ Some p
    → first_debt (debts a n) ≡ record { at = p; word = o.value } ∷ []
unfolding debts
first_is a n k p o some read at here place =
    let e = owed_split a.inputs.items n o some (enough a n read) (here ∙ ap (λ i. slice_index_or a.inputs.items i o) at) in
    ap (λ os. first_debt (stores_of os)) e ∙ head_is o (drop (suc (length a.inputs.items - n)) a.inputs.items) p place

pub never_none : (a : Ask) (n k : ℕ) (o : Operand) → 0 < n → length (debts a n) ≡ n → k ≡ length a.inputs.items - n
    → o ≡ slice_index_or a.inputs.items k o → o.place ≡ None → ⊥
unfolding debts
never_none a n k o some read at here place =
    let few = enough a n read in
    let e = owed_split a.inputs.items n o some few (here ∙ ap (λ i. slice_index_or a.inputs.items i o) at) in
    let l = head_place o (drop (suc (length a.inputs.items - n)) a.inputs.items) place in
    let d = length-drop (suc (length a.inputs.items - n)) a.inputs.items in
    let s = ap (λ os. length (stores_of os)) e in
    omega arith
