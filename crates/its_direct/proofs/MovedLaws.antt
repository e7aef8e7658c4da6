-- A part of a call that is carried out: the byte that is held, and the new values of its last
-- inputs.
use Rattle.std.specs.Prelude.{◌≡◌, ◌<◌, ◌≤◌, ℕ, zero, suc, ◌+◌, ◌-◌, true, Option, Some, None, IfSome, is_some, option_map, List, [], ◌∷◌, ◌++◌, length, take, slice_get, slice_index_or, unwrap_or, refl}
use Rattle.std.proofs.Common.{sym, ap, ◌∙◌, subst, arith, drop, drop-cons, inl, inr}
use Rattle.std.proofs.lemmas.Bool.{cases_eq}
use Rattle.std.proofs.lemmas.List.{length-take, length-drop, length-append, drop_all, append_assoc, append-nil}
use Rattle.its_word.specs.Core.{Core}
use Rattle.its_word.specs.Limits.{slots}
use Rattle.its_word.specs.Stores.{first_fault}
use Rattle.its_records.specs.declared.calls.Ask.{Ask}
use Rattle.its_records.specs.declared.calls.Operand.{Operand}
use Rattle.its_word.specs.declared.plan.Store.{Store}
use Rattle.its_frame.specs.declared.decision.Held.{Held}
use Rattle.its_core.specs.Cores.{core_at}
use Rattle.its_plain.specs.Call.Arguments.{debts, input, with_new_values, store_of, stores_of, value_in, operands_with_values}
use Rattle.its_plain.specs.Call.Step.{deposited, after_moves, with_held}
use Rattle.its_plain.specs.Machine.Change.{in_job, on_slot}
use Rattle.its_plain.specs.Machine.{Machine, Whole, core_of}
use Rattle.its_plain.specs.Machine.Own.{with_stores}
use Rattle.its_plain.proofs.MachineLaws.{machine_is}
use Rattle.its_shared.specs.Can.{HasJob}
use Rattle.its_shared.proofs.PartLaws.{on_slot_here, on_slot_other}
use Rattle.its_direct.specs.Effects.{Becomes}
use Rattle.its_direct.specs.Plain.{machine_of, Tidy}
use Rattle.its_direct.specs.Ready.{HeldFits, held_in}
use Rattle.its_direct.specs.declared.plain.Plain.{Plain}
use Rattle.its_direct.proofs.ActLaws.{becomes_then, twice}
use Rattle.its_direct.proofs.EffectLaws.{core_is, poke_can}

-- the value of an input among those that have new values
valued_at : (os : List Operand) (vs : List ℕ) (k : ℕ) (o : Operand) → slice_get os k ≡ Some o
    → value_in (slice_get (operands_with_values os vs) k) ≡ unwrap_or (slice_get vs k) o.value
valued_at [] vs k o h = cc
valued_at (x ∷ os) [] k o h = ap value_in h
valued_at (x ∷ os) (v ∷ vs) zero o h = refl
valued_at (x ∷ os) (v ∷ vs) (suc k) o h = valued_at os vs k o h

valued_past : (os : List Operand) (vs : List ℕ) (k : ℕ) → slice_get os k ≡ None → slice_get (operands_with_values os vs) k ≡ None
valued_past [] [] k h = h
valued_past [] (v ∷ vs) k h = h
valued_past (x ∷ os) [] k h = h
valued_past (x ∷ os) (v ∷ vs) zero h = cc
valued_past (x ∷ os) (v ∷ vs) (suc k) h = valued_past os vs k h

-- of the inputs with n that keep theirs
abbrev behind : ℕ → List Operand → List ℕ → List Operand
behind n xs vs = take n xs ++ operands_with_values (drop n xs) vs

kept_at : (n : ℕ) (xs : List Operand) (vs : List ℕ) (k : ℕ) (o : Operand) → slice_get xs k ≡ Some o → k < n
    → value_in (slice_get (behind n xs vs) k) ≡ o.value
kept_at zero xs vs k o h l = absurd (omega arith)
kept_at (suc n) [] vs k o h l = cc
kept_at (suc n) (x ∷ xs) vs zero o h l = ap value_in h
kept_at (suc n) (x ∷ xs) vs (suc k) o h l = kept_at n xs vs k o h (omega arith)

set_at : (n : ℕ) (xs : List Operand) (vs : List ℕ) (k i : ℕ) (o : Operand) → slice_get xs k ≡ Some o → k ≡ n + i
    → value_in (slice_get (behind n xs vs) k) ≡ unwrap_or (slice_get vs i) o.value
set_at zero xs vs k i o h e = valued_at xs vs k o h ∙ ap (λ (j : ℕ). unwrap_or (slice_get vs j) o.value) (let same : k ≡ i = omega arith in same)
set_at (suc n) [] vs k i o h e = cc
set_at (suc n) (x ∷ xs) vs zero i o h e = absurd (omega arith)
set_at (suc n) (x ∷ xs) vs (suc k) i o h e = set_at n xs vs k i o h (omega arith)

past_at : (n : ℕ) (xs : List Operand) (vs : List ℕ) (k : ℕ) → slice_get xs k ≡ None → slice_get (behind n xs vs) k ≡ None
past_at zero xs vs k h = valued_past xs vs k h
past_at (suc n) [] vs k h = valued_past [] vs k h
past_at (suc n) (x ∷ xs) vs zero h = cc
past_at (suc n) (x ∷ xs) vs (suc k) h = past_at n xs vs k h

get_is : {X : Type 0} (xs : List X) (k : ℕ) (x : X) → k < length xs → x ≡ slice_index_or xs k x → slice_get xs k ≡ Some x
get_is [] k x l e = absurd (omega arith)
get_is (y ∷ xs) zero x l e = ap Some (sym e)
get_is (y ∷ xs) (suc k) x l e = get_is xs k x (omega arith) e

get_none : {X : Type 0} (xs : List X) (k : ℕ) → length xs ≤ k → slice_get xs k ≡ None
get_none [] k l = refl
get_none (y ∷ xs) zero l = absurd (omega arith)
get_none (y ∷ xs) (suc k) l = get_none xs k (omega arith)

pub new_none : (a : Ask) (vs : List ℕ) (k : ℕ) → length a.inputs.items ≤ k → input (with_new_values a vs) k ≡ 0
unfolding with_new_values
new_none a vs k l = ap value_in (past_at (length a.inputs.items - length vs) a.inputs.items vs k (get_none a.inputs.items k l))

pub new_kept : (a : Ask) (vs : List ℕ) (n k : ℕ) (o : Operand) → k < length a.inputs.items → o ≡ slice_index_or a.inputs.items k o
    → n ≡ length a.inputs.items - length vs → k < n
    → input (with_new_values a vs) k ≡ o.value
unfolding with_new_values
new_kept a vs n k o l is e below = kept_at (length a.inputs.items - length vs) a.inputs.items vs k o (get_is a.inputs.items k o l is) (omega arith)

pub new_set : (a : Ask) (vs : List ℕ) (n k v : ℕ) (o : Operand) → k < length a.inputs.items → o ≡ slice_index_or a.inputs.items k o
    → n ≡ length a.inputs.items - length vs → n ≤ k
    → v ≡ slice_index_or vs (k - n) v → input (with_new_values a vs) k ≡ v
unfolding with_new_values
new_set a vs n k v o l is e from at =
    set_at (length a.inputs.items - length vs) a.inputs.items vs k (k - n) o (get_is a.inputs.items k o l is) (omega arith)
    ∙ ap (λ (x : Option ℕ). unwrap_or x o.value) (get_is vs (k - n) v (omega arith) at)

-- the stores of new values are those of the last inputs
length_valued : (os : List Operand) (vs : List ℕ) → length (operands_with_values os vs) ≡ length os
length_valued [] [] = refl
length_valued [] (v ∷ vs) = refl
length_valued (o ∷ os) [] = refl
length_valued (o ∷ os) (v ∷ vs) = ap suc (length_valued os vs)

no_operands : (vs : List ℕ) → operands_with_values [] vs ≡ []
no_operands [] = refl
no_operands (v ∷ vs) = refl

drop_taken : (k : ℕ) (xs ys : List Operand) → k ≤ length xs → drop k (take k xs ++ ys) ≡ ys
drop_taken zero xs ys h = refl
drop_taken (suc k) [] ys h = absurd (omega arith)
drop_taken (suc k) (x ∷ xs) ys h = drop_taken k xs ys (omega arith)

pub debts_are : (a : Ask) (vs : List ℕ) → debts (with_new_values a vs) (length vs) ≡ stores_of
    (operands_with_values (drop (length a.inputs.items - length vs) a.inputs.items) vs)
unfolding debts with_new_values
debts_are a vs =
    let xs = a.inputs.items in
    let kept : ℕ = length xs - length vs in
    let ys = operands_with_values (drop kept xs) vs in
    let l : length (take kept xs ++ ys) - length vs ≡ kept =
    (let t = length-append (take kept xs) ys in let u = length-take kept xs in let v = length_valued (drop kept xs) vs
    in let w = length-drop kept xs in omega arith) in
    ap (λ n. stores_of (drop n (take kept xs ++ ys))) l ∙ ap stores_of (drop_taken kept xs ys (omega arith))

store_more : (v : ℕ) (p : Option ℕ) (ss : List Store) → store_of (record { value = v; place = p }) ss ≡ store_of (record { value = v; place = p }) [] ++ ss
store_more v (Some q) ss = refl
store_more v None ss = refl

-- they are found one by one
pub record Valuing (a : Ask) (vs : List ℕ) (kept k : ℕ) (stores : List Store) : Type 0 where
  pub kept_is : kept ≡ length a.inputs.items - length vs
  pub few : length stores ≤ k
  pub rest : stores ++ stores_of (operands_with_values (drop (kept + k) a.inputs.items) (drop k vs)) ≡ stores_of
      (operands_with_values (drop kept a.inputs.items) vs)

pub valuing_start : (a : Ask) (vs : List ℕ) (kept : ℕ) → kept ≡ length a.inputs.items - length vs → Valuing a vs kept 0 []
valuing_start a vs kept e = record {
  kept_is = e;
  few = omega arith;
  rest = ap (λ (n : ℕ). stores_of (operands_with_values (drop n a.inputs.items) vs)) (plus_none kept);
}
  where
    plus_none : (n : ℕ) → n + 0 ≡ n
    plus_none n = omega arith

valued_here : (xs : List Operand) (vs : List ℕ) (i k v : ℕ) (o : Operand) → i < length xs → k < length vs → o ≡ slice_index_or xs i o
    → v ≡ slice_index_or vs k v
    → stores_of (operands_with_values (drop i xs) (drop k vs)) ≡ store_of (record { value = v; place = o.place })
    (stores_of (operands_with_values (drop (i + 1) xs) (drop (k + 1) vs)))
valued_here xs vs i k v o lx lv io iv = λ t. stores_of (operands_with_values (head_x t) (head_v t))
  where
    one : (n : ℕ) → suc n ≡ n + 1
    one n = omega arith

    head_x : drop i xs ≡ o ∷ drop (i + 1) xs
    head_x = drop-cons xs i o lx ∙ (λ t. sym io t ∷ drop (one i t) xs)

    head_v : drop k vs ≡ v ∷ drop (k + 1) vs
    head_v = drop-cons vs k v lv ∙ (λ t. sym iv t ∷ drop (one k t) vs)

pub valuing_set : (a : Ask) (vs : List ℕ) (kept k v : ℕ) (o : Operand) (old new : List Store) → Valuing a vs kept k old → k < length vs
    → kept + k < length a.inputs.items
    → o ≡ slice_index_or a.inputs.items (kept + k) o → v ≡ slice_index_or vs k v
    → new ≡ old ++ store_of (record { value = v; place = o.place }) [] → length new ≤ length old + 1
    → Valuing a vs kept (k + 1) new
valuing_set a vs kept k v o old new h lv lx io iv e most = record {
  kept_is = h.kept_is;
  few = let f = h.few in omega arith;
  rest =
      let X = stores_of (operands_with_values (drop (kept + (k + 1)) a.inputs.items) (drop (k + 1) vs)) in
      ap (λ (ss : List Store). ss ++ X) e ∙ append_assoc old (store_of (record { value = v; place = o.place }) []) X
      ∙ ap (λ (ss : List Store). old ++ ss) (sym (store_more v o.place X))
      ∙ ap (λ (n : ℕ). old ++ store_of (record { value = v; place = o.place })
      (stores_of (operands_with_values (drop n a.inputs.items) (drop (k + 1) vs)))) (further kept k)
      ∙ ap (λ (ss : List Store). old ++ ss) (sym (valued_here a.inputs.items vs (kept + k) k v o lx lv io iv))
      ∙ h.rest;
}
  where
    further : (n m : ℕ) → n + (m + 1) ≡ n + m + 1
    further n m = omega arith

nothing_left : (xs : List Operand) (vs : List ℕ) (i : ℕ) → length xs ≤ i → stores_of (operands_with_values (drop i xs) vs) ≡ []
nothing_left xs vs i le = ap (λ (os : List Operand). stores_of (operands_with_values os vs)) (drop_all i xs le) ∙ ap stores_of (no_operands vs)

pub valuing_past : (a : Ask) (vs : List ℕ) (kept k : ℕ) (stores : List Store) → Valuing a vs kept k stores
    → length a.inputs.items ≤ kept + k → Valuing a vs kept (k + 1) stores
valuing_past a vs kept k stores h le = record {
  kept_is = h.kept_is;
  few = let f = h.few in omega arith;
  rest = ap (λ (ss : List Store). stores ++ ss) (nothing_left a.inputs.items (drop (k + 1) vs) (kept + (k + 1)) (omega arith)
      ∙ sym (nothing_left a.inputs.items (drop k vs) (kept + k) le)) ∙ h.rest;
}

pub valuing_end : (a : Ask) (vs : List ℕ) (kept k : ℕ) (stores : List Store) → Valuing a vs kept k stores → length vs ≤ k
    → stores ≡ debts (with_new_values a vs) (length vs)
valuing_end a vs kept k stores h le =
    let e = h.kept_is in
    sym (append-nil stores) ∙ ap (λ (ss : List Store). stores ++ ss) (sym (nothing_left a.inputs.items (drop k vs) (kept + k) (omega arith)))
    ∙ h.rest ∙ ap (λ (n : ℕ). stores_of (operands_with_values (drop n a.inputs.items) vs)) e ∙ sym (debts_are a vs)

-- what a job becomes is asked of that job alone
same_here : (m : Machine) (s : ℕ) (f g : Whole → Whole) → ((q : Whole) → m.jobs s ≡ Some q → f q ≡ g q) → in_job m s f ≡ in_job m s g
same_here m s f g h = machine_is _ _ (λ k. elim (cases_eq k s) [
  | inl e ↦ ap (on_slot m.jobs s f) e ∙ on_slot_here m.jobs s f ∙ go (m.jobs s) refl ∙ sym (ap (on_slot m.jobs s g) e ∙ on_slot_here m.jobs s g)
  | inr ne ↦ on_slot_other m.jobs s k f ne ∙ sym (on_slot_other m.jobs s k g ne)
]) (λ k. refl) (λ k. refl) refl refl refl (λ k. refl) (λ k. refl)
  where
    go : (o : Option Whole) → m.jobs s ≡ o → option_map f o ≡ option_map g o
    go (Some q) e = ap Some (h q e)
    go None e = refl

-- the byte that is held
fits_of : (c : Core) (a : Ask) (o : Option Held) (h : Held) → o ≡ Some h → IfSome o (HeldFits c a) → HeldFits c a h
fits_of c a o h e fits = subst (λ (x : Option Held). IfSome x (HeldFits c a)) e fits

pub held_can : (m : Machine) (s : ℕ) (a : Ask) (o : Option Held) (h : Held) (c : Core) (pointer : ℕ) (x : Store) → s < slots → HasJob m s
    → o ≡ Some h → IfSome o (HeldFits (core_of (m.jobs s)) a)
    → x ≡ deposited c pointer h → first_fault (core_of (m.jobs s)) (x ∷ []) ≡ None
held_can m s a o h c pointer x l job e fits is =
    let f = fits_of (core_of (m.jobs s)) a o h e fits in
    ap (λ (y : Store). first_fault (core_of (m.jobs s)) (y ∷ [])) is ∙ poke_can m s h.place _ (record { slot = l; address = f.below; job = job; can = f.can })

pub held_put : (old new : Plain) (s pointer : ℕ) (a : Ask) (o : Option Held) (h : Held) (x : Store) → Tidy old → o ≡ Some h
    → pointer ≡ input a 1 → x ≡ deposited (core_at old.core s) pointer h
    → Becomes old new (in_job (machine_of old) s (with_stores (x ∷ []))) → Becomes old new (in_job (machine_of old) s (with_held a o))
held_put old new s pointer a o h x tidy some by is b = record {
  machine = b.machine
      ∙ same_here (machine_of old) s (with_stores (x ∷ [])) (with_held a (Some h))
      (λ q e. ap (λ (y : Store). with_stores (y ∷ []) q) (is ∙ (λ t. deposited (core q e t) (by t) h)))
      ∙ ap (λ (y : Option Held). in_job (machine_of old) s (with_held a y)) (sym some);
  place = b.place;
  touched = b.touched;
}
  where
    core : (q : Whole) → (machine_of old).jobs s ≡ Some q → core_at old.core s ≡ q.core
    core q e = sym (core_is old s tidy) ∙ ap core_of e

pub held_fits : (mid : Plain) (n : Machine) (s : ℕ) (a : Ask) (h : Option Held) → machine_of mid ≡ n
    → IfSome h (HeldFits (core_of (n.jobs s)) a) → IfSome h (HeldFits (core_of ((machine_of mid).jobs s)) a)
held_fits mid n s a h e fits = subst (λ (m : Machine). IfSome h (HeldFits (core_of (m.jobs s)) a)) (sym e) fits

-- the core after it
held_core : (m : Machine) (s : ℕ) (a : Ask) (h : Option Held) → HasJob m s → core_of ((in_job m s (with_held a h)).jobs s) ≡ held_in (core_of (m.jobs s)) a h
held_core m s a h job = ap core_of (on_slot_here m.jobs s (with_held a h)) ∙ go (m.jobs s) h job
  where
    go : (o : Option Whole) (h : Option Held) → is_some o ≡ true → core_of (option_map (with_held a h) o) ≡ held_in (core_of o) a h
    go (Some q) (Some b) e = refl
    go (Some q) None e = refl
    go None h e = cc

pub debts_can : (mid put : Plain) (n : Machine) (s : ℕ) (a : Ask) (h : Option Held) (ss : List Store) → machine_of mid ≡ n → HasJob n s
    → machine_of put ≡ in_job (machine_of mid) s (with_held a h)
    → first_fault (held_in (core_of (n.jobs s)) a h) ss ≡ None → first_fault (core_of ((machine_of put).jobs s)) ss ≡ None
debts_can mid put n s a h ss e job is can =
    ap (λ (m : Machine). first_fault (core_of (m.jobs s)) ss) (is ∙ ap (λ (m : Machine). in_job m s (with_held a h)) e)
    ∙ ap (λ (c : Core). first_fault c ss) (held_core n s a h job) ∙ can

-- the part as a whole
pub went_on : (old mid put new : Plain) (s : ℕ) (m : Machine) (a : Ask) (h : Option Held) (vs : List ℕ) → Becomes old mid m
    → Becomes mid put (in_job (machine_of mid) s (with_held (with_new_values a vs) h))
    → Becomes put new (in_job (machine_of put) s (with_stores (debts (with_new_values a vs) (length vs)))) → Becomes old new (in_job m s (after_moves a h vs))
went_on old mid put new s m a h vs x y z =
    becomes_then old put new (in_job m s (with_held (with_new_values a vs) h)) (in_job m s (after_moves a h vs))
    (λ n. in_job n s (with_stores (debts (with_new_values a vs) (length vs))))
    (becomes_then old mid put m (in_job m s (with_held (with_new_values a vs) h)) (λ n. in_job n s (with_held (with_new_values a vs) h)) x y refl) z
    (twice m s (with_held (with_new_values a vs) h) (with_stores (debts (with_new_values a vs) (length vs))))
