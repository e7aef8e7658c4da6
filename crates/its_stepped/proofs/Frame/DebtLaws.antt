-- The pending words of a call in progress: the first one, and the rest once it is stored.
use Rattle.std.specs.Prelude.{◌≡◌, ◌≤◌, ℕ, suc, ◌+◌, ◌-◌, Option, Some, None, List, [], ◌∷◌, length, drop, refl}
use Rattle.std.proofs.Common.{sym, ◌∙◌, ap, arith, get_or}
use Rattle.std.proofs.lemmas.List.{drop_more, length-drop}
use Rattle.std.proofs.Math.ListN.{drop_of_length-le}
use Rattle.its_word.specs.Core.{Core, store}
use Rattle.its_records.specs.declared.calls.Ask.{Ask}
use Rattle.its_records.specs.declared.calls.Operand.{Operand}
use Rattle.its_word.specs.declared.plan.Store.{Store}
use Rattle.its_word.proofs.CoreLaws.{can_store-store}
use Rattle.its_plain.specs.Call.Arguments.{store_of, stores_of, debts}
use Rattle.its_word.specs.Stores.{place}
use Rattle.its_stepped.specs.Sound.{Stored, Debts}

-- at most one word for each argument
stores_few : (os : List Operand) → length (stores_of os) ≤ length os
stores_few [] = omega arith
stores_few (o ∷ os) = by o.place o.value (stores_few os)
  where
    by : (p : Option ℕ) (v : ℕ) → length (stores_of os) ≤ length os → length (store_of (record { value = v; place = p }) (stores_of os)) ≤ suc (length os)
    by (Some p) v h = omega arith
    by None v h = omega arith

-- if each argument of a list has its word, the first word is that of the first argument
pub record FirstOwed (ss rest : List Store) : Type 0 where
  pub first : Store
  pub is : ss ≡ first ∷ rest

first_of_stores : (p : Option ℕ) (v : ℕ) (os : List Operand) → length (store_of (record { value = v; place = p }) (stores_of os)) ≡ suc (length os)
    → FirstOwed (store_of (record { value = v; place = p }) (stores_of os)) (stores_of os)
first_of_stores (Some p) v os e = record { first = record { at = p; word = v }; is = refl }
first_of_stores None v os e = absurd (let few = stores_few os in omega arith)

-- what is pending after the first word
pub record NextOwed (a : Ask) (n : ℕ) : Type 0 where
  pub first : Store
  pub is : debts a (suc n) ≡ first ∷ debts a n
  pub rest : length (debts a n) ≡ n

first_dropped : (ys rest : List Operand) (o : Operand) → ys ≡ o ∷ rest → length (stores_of ys) ≡ length ys → FirstOwed (stores_of ys) (stores_of rest)
first_dropped ys rest o is e =
    let all : length (stores_of (o ∷ rest)) ≡ length (o ∷ rest) = ap (λ zs. length (stores_of zs)) (sym is) ∙ e ∙ ap (λ zs. length zs) is in
    let f = first_of_stores o.place o.value rest all in
    record { first = f.first; is = ap stores_of is ∙ f.is }

counted_next : (xs : List Operand) (n : ℕ) → length (stores_of (drop (length xs - suc n) xs)) ≡ suc n → suc n ≤ length xs
counted_next xs n e =
    let few = stores_few (drop (length xs - suc n) xs) in
    let all = length-drop (length xs - suc n) xs in
    omega arith

next_of : (a : Ask) (n : ℕ) (ss rest : List Store) → debts a (suc n) ≡ ss → debts a n ≡ rest → FirstOwed ss rest → length ss ≡ suc n → NextOwed a n
next_of a n ss rest is after f e = record {
  first = f.first;
  is = is ∙ f.is ∙ ap (λ ts. f.first ∷ ts) (sym after);
  rest = ap (λ ts. length ts) after ∙ (let all : length (f.first ∷ rest) ≡ suc n = ap (λ ts. length ts) (sym f.is) ∙ e in omega arith);
}

pub debts_next : (a : Ask) (n : ℕ) → length (debts a (suc n)) ≡ suc n → NextOwed a n
unfolding debts
debts_next a n e =
    let xs = a.inputs.items in
    let i = length xs - suc n in
    let here : suc n ≤ length xs = counted_next xs n e in
    let all = length-drop i xs in
    let d : Operand = record { value = 0; place = None } in
    let f = first_dropped (drop i xs) (drop (i + 1) xs) (get_or xs i d) (drop_more xs i d (omega arith)) (e ∙ omega arith) in
    next_of a n (stores_of (drop i xs)) (stores_of (drop (i + 1) xs)) refl (ap (λ k. stores_of (drop k xs)) (omega arith)) f e

pub debts_none : (a : Ask) → debts a 0 ≡ []
unfolding debts
debts_none a = ap stores_of (drop_of_length-le a.inputs.items (omega arith))

-- a store elsewhere leaves what can be stored as it was
pub stored_behind : (c : Core) (b w : ℕ) (ss : List Store) → Stored c ss → Stored (store c b w) ss
stored_behind c b w [] h = tt
stored_behind c b w (s ∷ ss) h = (can_store-store c b (place s) w ∙ h.0, stored_behind c b w ss h.1)

pub debts_behind : (c : Core) (b w : ℕ) (a : Ask) (n : ℕ) → Debts c a n → Debts (store c b w) a n
debts_behind c b w a n d = record { few = d.few; read = d.read; stored = stored_behind c b w (debts a n) d.stored }
