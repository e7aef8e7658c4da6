-- The call of a name: its row has that name, and no other row.
use Rattle.std.proofs.Common.{◌≡◌, ◌≢◌, ◌==◌, ℕ, true, false, cond, List, [], ◌∷◌, Option, Some, None, refl, sym, ◌∙◌, ap, Bool}
use Rattle.std.specs.List.{find}
use Rattle.std.proofs.lemmas.Bool.{eq-eqb, eqb-true}
use Rattle.its_frame.specs.declared.name.CallName.{CallName}
use Rattle.its_frame.specs.declared.name.CallName.TheVariants.{Hang, Siot}
use Rattle.its_frame.specs.Calls.{sixbit, calls, call_named, call_row, is_siot}

-- a name that is found is that of the row
found_by : (w : ℕ) (x n : CallName) (o : Option CallName) (b : Bool) → (sixbit x == w) ≡ b → (o ≡ Some n → sixbit n ≡ w) → cond b (Some x) o ≡ Some n
    → sixbit n ≡ w
found_by w x n o true t h e = let is : x ≡ n = cc in ap (λ (k : CallName). sixbit k) (sym is) ∙ eqb-true (sixbit x) w t
found_by w x n o false t h e = h e

found_has : (w : ℕ) (ns : List CallName) (n : CallName) → find (λ n. sixbit n == w) ns ≡ Some n → sixbit n ≡ w
found_has w [] n e = cc
found_has w (x ∷ ns) n e = found_by w x n (find (λ n. sixbit n == w) ns) (sixbit x == w) refl (found_has w ns n) e

pub name_is : (w : ℕ) (n : CallName) → call_named w ≡ Some n → w ≡ sixbit n
unfolding call_named
name_is w n e = sym (found_has w calls n e)

-- and each row is found by its name
pub named : (n : CallName) → call_named (sixbit n) ≡ Some n
unfolding call_named sixbit
named Hang = refl
named _ = refl

-- a number that is the name of a row, and one that is that of none
pub named_is : (w v : ℕ) (n : CallName) → v ≡ w → v ≡ (call_row n).name → Some n ≡ call_named w
unfolding sixbit
named_is w v n a b = sym (ap call_named (sym a ∙ b) ∙ named n)

-- no row of some has the name w
abbrev pub Unnamed : ℕ → List CallName → Type 0
Unnamed w [] = Unit {0}
Unnamed w (n ∷ ns) = ((call_row n).name ≢ w) × Unnamed w ns

none_by : (w : ℕ) (x : CallName) (o : Option CallName) (b : Bool) → (sixbit x == w) ≡ b → (sixbit x ≢ w) → o ≡ None → cond b (Some x) o ≡ None
none_by w x o true t ne h = absurd (ne (eqb-true (sixbit x) w t))
none_by w x o false t ne h = h

none_found : (w : ℕ) (ns : List CallName) → Unnamed w ns → find (λ n. sixbit n == w) ns ≡ None
unfolding sixbit
none_found w [] h = refl
none_found w (x ∷ ns) h = none_by w x (find (λ n. sixbit n == w) ns) (sixbit x == w) refl h.0 (none_found w ns h.1)

pub unnamed : (w : ℕ) → Unnamed w calls → None ≡ call_named w
unfolding call_named
unnamed w h = sym (none_found w calls h)

-- the name of SIOT, and no other name is its
pub siot_named : (n : ℕ) → (n == 0o635157640000) ≡ true → call_named n ≡ Some Siot
unfolding call_named sixbit
siot_named n e = ap call_named (eqb-true n 0o635157640000 e)

siot_by : (n : ℕ) (o : Option CallName) (b : Bool) → call_named n ≡ o → (n == 0o635157640000) ≡ b → b ≡ is_siot o
unfolding sixbit
siot_by n o true e t = sym (ap is_siot (sym e ∙ siot_named n t))
siot_by n (Some Siot) false e t = sym t ∙ eq-eqb n 0o635157640000 (name_is n Siot e)
siot_by n _ false e t = refl

pub siot_is : (n : ℕ) → (n == 0o635157640000) ≡ is_siot (call_named n)
siot_is n = siot_by n (call_named n) (n == 0o635157640000) refl refl
