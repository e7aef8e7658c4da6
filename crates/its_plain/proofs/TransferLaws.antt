-- The stores of a transfer and of SLEEP: the call is still there after them, with the new values of
-- its inputs.
use Rattle.std.proofs.Common.{◌≡◌, ◌≤◌, ◌+◌, ◌==◌, ◌||◌, ℕ, cond, Bool, true, false, List, [], ◌∷◌, ◌++◌, map, Option, Some, None, Ok, refl, ◌∙◌, ap, subst, nat_lt, arith}
use Rattle.std.proofs.lemmas.Bool.{eq-eqb}
use Rattle.std.proofs.lemmas.Bool.Decides.{nat_tests}
use Rattle.std.proofs.lemmas.List.{map-append}
use Rattle.its_word.specs.Core.{Core, can_store, store}
use Rattle.its_word.proofs.CoreLaws.{can_store-store}
use Rattle.its_records.specs.declared.calls.Ask.{Ask}
use Rattle.its_records.specs.declared.calls.Operand.{Operand}
use Rattle.its_records.specs.declared.calls.Site.{Site}
use Rattle.its_records.specs.declared.jobs.Job.{Job}
use Rattle.its_plain.specs.Call.Decode.{ask}
use Rattle.its_plain.specs.Call.Footprint.{Stands, among, in_footprint, is_shared, times, variable, with_inputs}
use Rattle.its_plain.proofs.StandLaws.{Free, Once, Outside, inputs_at, inputs_at_append, inputs_at_cons, inputs_few, is_at, once_inputs, renew, renewed_value, stands_stored, times_cons, times_none}
use Rattle.its_records.proofs.ClimbLaws.{or_none}

-- the tests of a call give the premises of these laws
among_none : (p : ℕ) (ps : List ℕ) → among p ps ≡ false → times p ps ≡ 0
among_none p [] h = times_none p
among_none p (q ∷ qs) h =
    let c = times_cons p q qs in
    let s = split (q == p) (among p qs) h in
    let r = among_none p qs s.1 in
    let d : times p (q ∷ qs) ≡ 0 + times p qs = rw s.0 at c in
    omega arith
  where
    split : (a b : Bool) → (a || b) ≡ false → (a ≡ false) × (b ≡ false)
    split true b h = cc
    split false b h = (refl, h)

pub outside_from : (p : ℕ) (k : Ask) → in_footprint p k ≡ false → Outside p k
unfolding in_footprint
outside_from p k h =
    let s = or_none (among p k.decode.items) (among p k.operand.items) h in
    record { decode = among_none p k.decode.items s.0; operand = among_none p k.operand.items s.1 }

at_most_one : (n : ℕ) → nat_lt 1 n ≡ false → n ≤ 1
at_most_one n h = grind (arith, nat_tests)

pub once_from : (c : Core) (s : Site) (k : Ask) (p : ℕ) → ask c s ≡ Ok k → 1 ≤ inputs_at p k.inputs.items → is_shared p k ≡ false → Once p k
unfolding is_shared
once_from c s k p a i h =
    let t = or_none (among p k.decode.items) (nat_lt 1 (times p k.operand.items)) h in
    let f = inputs_few c s k p a in
    let m = at_most_one (times p k.operand.items) t.1 in
    record { decode = among_none p k.decode.items t.0; operand = omega arith }

-- a variable is among the inputs
pub first_at : (p v : ℕ) (xs : List Operand) → inputs_at p (variable v p ∷ xs) ≡ 1 + inputs_at p xs
first_at p v xs = let e : (p == p) ≡ true = eq-eqb p p refl in let c = inputs_at_cons p (variable v p) xs in rw e at c

pub more_at : (p : ℕ) (x : Operand) (xs : List Operand) → inputs_at p xs ≤ inputs_at p (x ∷ xs)
more_at p x xs = let c = inputs_at_cons p x xs in omega arith

pub among_inputs : (p v : ℕ) (front back : List Operand) → 1 ≤ inputs_at p (front ++ variable v p ∷ back)
among_inputs p v front back =
    let a = inputs_at_append p front (variable v p ∷ back) in
    let f = first_at p v back in
    omega arith

-- an operand's word once, and an input's: only that input is renewed
pub once_free : (k : Ask) (p : ℕ) → Once p k → 1 ≤ inputs_at p k.inputs.items → Free p k
once_free k p o i = let t = o.operand in record { decode = o.decode; operand = omega arith }

not_at : (p : ℕ) (x : Operand) (xs : List Operand) → inputs_at p (x ∷ xs) ≡ 0 → (is_at p x.place ≡ false) × (inputs_at p xs ≡ 0)
not_at p x xs h = let c = inputs_at_cons p x xs in (go (is_at p x.place) c, omega arith)
  where
    go : (b : Bool) → inputs_at p (x ∷ xs) ≡ cond b 1 0 + inputs_at p xs → b ≡ false
    go true c = absurd (omega (arith, c, h))
    go false c = refl

value_stays : (p v old : ℕ) (place : Option ℕ) → is_at p place ≡ false → renewed_value p v old place ≡ old
value_stays p v old None h = refl
value_stays p v old (Some q) h = rw h refl

renew_other : (p v : ℕ) (x : Operand) → is_at p x.place ≡ false → renew p v x ≡ x
renew_other p v x h = ap (λ n. record x { value = n }) (value_stays p v x.value x.place h)

renew_here : (p v w : ℕ) → renew p v (variable w p) ≡ variable v p
renew_here p v w = let e : (p == p) ≡ true = eq-eqb p p refl in rw e refl

renew_none : (p v : ℕ) (xs : List Operand) → inputs_at p xs ≡ 0 → map (renew p v) xs ≡ xs
renew_none p v [] h = refl
renew_none p v (x ∷ xs) h =
    let n = not_at p x xs h in
    ap (λ y. y ∷ map (renew p v) xs) (renew_other p v x n.0) ∙ ap (λ ys. x ∷ ys) (renew_none p v xs n.1)

-- a store at the word of a variable, when it is the word of one operand alone: that variable has
-- the new value
pub stands_renewed : (c : Core) (j : Job) (s : Site) (k : Ask) (front : List Operand) (old p new : ℕ) (back : List Operand)
    → Stands c j s k → can_store c p ≡ true → Once p k → k.inputs.items ≡ front ++ variable old p ∷ back
    → Stands (store c p new) j s (with_inputs k (front ++ variable new p ∷ back))
stands_renewed c j s k front old p new back h can o e =
    let few = inputs_few c s k p h.ask_is in
    let one = o.operand in
    let all : inputs_at p k.inputs.items ≡ inputs_at p front + (1 + inputs_at p back) =
    ap (inputs_at p) e ∙ inputs_at_append p front (variable old p ∷ back) ∙ ap (λ n. inputs_at p front + n) (first_at p old back) in
    let is : map (renew p new) k.inputs.items ≡ front ++ variable new p ∷ back =
    ap (map (renew p new)) e
    ∙ map-append (renew p new) front (variable old p ∷ back)
    ∙ ap (λ xs. xs ++ renew p new (variable old p) ∷ map (renew p new) back) (renew_none p new front (omega arith))
    ∙ ap (λ x. front ++ x ∷ map (renew p new) back) (renew_here p new old)
    ∙ ap (λ xs. front ++ variable new p ∷ xs) (renew_none p new back (omega arith)) in
    subst (λ xs. Stands (store c p new) j s (with_inputs k xs)) is (stands_stored c j s k p new h can (once_free k p o (omega arith)))

-- SLEEP: its argument is stored
pub sleep_stands : (c : Core) (j : Job) (s : Site) (k : Ask) (v p w : ℕ) → Stands c j s k → k.inputs.items ≡ variable v p ∷ [] → Once p k
    → can_store c p ≡ true
    → Stands (store c p w) j s (with_inputs k (variable w p ∷ []))
sleep_stands c j s k v p w h e o can = stands_renewed c j s k [] v p w [] h can o e

-- a transfer: the pointer and the count are stored
pub counted_stands : (c : Core) (j : Job) (s : Site) (k : Ask) (x : Operand) (v p n q v' n' : ℕ) → Stands c j s k
    → k.inputs.items ≡ x ∷ variable v p ∷ variable n q ∷ [] → Once p k → Once q k → can_store c p ≡ true → can_store c q ≡ true
    → Stands (store (store c p v') q n') j s (with_inputs k (x ∷ variable v' p ∷ variable n' q ∷ []))
counted_stands c j s k x v p n q v' n' h e op oq cp cq =
    let pointed = stands_renewed c j s k (x ∷ []) v p v' (variable n q ∷ []) h cp op e in
    stands_renewed (store c p v') j s (with_inputs k (x ∷ variable v' p ∷ variable n q ∷ [])) (x ∷ variable v' p ∷ []) n q n' [] pointed
    (can_store-store c p q v' ∙ cq) (once_inputs k q (x ∷ variable v' p ∷ variable n q ∷ []) oq) refl
