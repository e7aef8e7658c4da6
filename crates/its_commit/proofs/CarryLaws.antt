-- The pending steps of a call, one after the other.
use Rattle.std.specs.Prelude.{◌≡◌, ◌<◌, ℕ, suc, ◌+◌, ◌-◌, List, [], ◌∷◌, ◌++◌, length, map}
use Rattle.std.proofs.Common.{arith, sym, ap, ◌∙◌, subst, append_assoc}
use Rattle.std.proofs.lemmas.List.{append-nil}
use Rattle.its_records.specs.declared.calls.Ask.{Ask}
use Rattle.its_records.specs.declared.calls.Owed.{Owed}
use Rattle.its_word.specs.declared.plan.Store.{Store}
use Rattle.its_plain.specs.Call.Arguments.{debts}
use Rattle.its_stepped.specs.Commit.{owed_store}
use Rattle.its_stepped.specs.Unwind.{first_debt}
use Rattle.its_stepped.proofs.Frame.DebtLaws.{debts_next, debts_none}

-- the next argument
split_at : (a : Ask) (m n : ℕ) (s : Store) → m ≡ suc n → length (debts a m) ≡ m → first_debt (debts a m) ≡ s ∷ []
    → (debts a m ≡ s ∷ debts a n) × (length (debts a n) ≡ n)
split_at a m n s e read first =
    let next = debts_next a n (subst (λ k. length (debts a k) ≡ k) e read) in
    let is : debts a m ≡ next.first ∷ debts a n = ap (debts a) e ∙ next.is in
    let same : next.first ∷ [] ≡ s ∷ [] = ap first_debt (sym is) ∙ first in
    let head : next.first ≡ s = cc in
    (is ∙ ap (λ x. x ∷ debts a n) head, next.rest)

pub debt_read : (a : Ask) (owes k : ℕ) (s : Store) → k < owes → length (debts a (owes - k)) ≡ owes - k → first_debt (debts a (owes - k)) ≡ s ∷ []
    → length (debts a (owes - (k + 1))) ≡ owes - (k + 1)
debt_read a owes k s l read first = (split_at a (owes - k) (owes - (k + 1)) s (omega arith) read first).1

pub debt_pushed : (a : Ask) (owes k : ℕ) (s : Store) (now was : List Owed) → k < owes → length (debts a (owes - k)) ≡ owes - k
    → first_debt (debts a (owes - k)) ≡ s ∷ []
    → now ++ map owed_store (debts a (owes - k)) ≡ was → (now ++ owed_store s ∷ []) ++ map owed_store (debts a (owes - (k + 1))) ≡ was
debt_pushed a owes k s now was l read first rest =
    append_assoc now (owed_store s ∷ []) (map owed_store (debts a (owes - (k + 1))))
    ∙ ap (λ ss. now ++ map owed_store ss) (sym (split_at a (owes - k) (owes - (k + 1)) s (omega arith) read first).0)
    ∙ rest

pub debts_pushed : (a : Ask) (owes : ℕ) (now was : List Owed) → now ++ map owed_store (debts a (owes - owes)) ≡ was → now ≡ was
debts_pushed a owes now was rest =
    let z : owes - owes ≡ 0 = omega arith in
    sym (append-nil now) ∙ ap (λ ss. now ++ map owed_store ss) (sym (ap (debts a) z ∙ debts_none a)) ∙ rest
