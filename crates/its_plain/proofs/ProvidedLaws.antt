-- What the tests of a line of the state part decide.
use Rattle.std.specs.Prelude.{◌≡◌, ◌⊎◌, Bool, true, false, List, [], ◌∷◌, Ok, Err, refl}
use Rattle.std.proofs.Common.{◌∙◌, ap, inl, inr}
use Rattle.its_records.specs.declared.session.Reason.{Reason}
use Rattle.its_plain.specs.Machine.{Machine}
use Rattle.its_plain.specs.Operator.State.{provided, provided_if}

-- all tests hold, or the first that does not has this reason
abbrev pub AllHold : List (Bool × Reason) → Type 0
AllHold [] = Unit {0}
AllHold (t ∷ ts) = (t.0 ≡ true) × AllHold ts

abbrev pub FirstFails : List (Bool × Reason) → Reason → Type 0
FirstFails [] r = ⊥
FirstFails (t ∷ ts) r = ((t.0 ≡ false) × (t.1 ≡ r)) ⊎ ((t.0 ≡ true) × FirstFails ts r)

-- a line is obeyed exactly if all its tests hold
pub provided_ok : (ts : List (Bool × Reason)) (m : Machine) → AllHold ts → provided ts m ≡ Ok m
provided_ok [] m h = refl
provided_ok (t ∷ ts) m h = ap (λ b. provided_if b t.1 (provided ts m)) h.0 ∙ provided_ok ts m h.1

pub provided_holds : (ts : List (Bool × Reason)) (m n : Machine) → provided ts m ≡ Ok n → AllHold ts × (m ≡ n)
provided_holds [] m n e = (tt, cc)
provided_holds (t ∷ ts) m n e = by t.0 refl e (λ h. provided_holds ts m n h)
  where
    by : (b : Bool) → t.0 ≡ b → provided_if b t.1 (provided ts m) ≡ Ok n → (provided ts m ≡ Ok n → AllHold ts × (m ≡ n))
        → AllHold (t ∷ ts) × (m ≡ n)
    by true f h rest = let r = rest h in ((f, r.0), r.1)
    by false f h rest = cc

-- it is refused for the reason of the first that does not
pub provided_first : (ts : List (Bool × Reason)) (m : Machine) (r : Reason) → FirstFails ts r → provided ts m ≡ Err r
provided_first [] m r h = absurd h
provided_first (t ∷ ts) m r (inl h) = ap (λ b. provided_if b t.1 (provided ts m)) h.0 ∙ ap Err h.1
provided_first (t ∷ ts) m r (inr h) = ap (λ b. provided_if b t.1 (provided ts m)) h.0 ∙ provided_first ts m r h.1

pub provided_refused : (ts : List (Bool × Reason)) (m : Machine) (r : Reason) → provided ts m ≡ Err r → FirstFails ts r
provided_refused [] m r e = cc
provided_refused (t ∷ ts) m r e = by t.0 refl e (λ h. provided_refused ts m r h)
  where
    by : (b : Bool) → t.0 ≡ b → provided_if b t.1 (provided ts m) ≡ Err r → (provided ts m ≡ Err r → FirstFails ts r) → FirstFails (t ∷ ts) r
    by true f h rest = inr (f, rest h)
    by false f h rest = inl (f, cc)
