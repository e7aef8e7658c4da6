-- Lists that gain what the others have, and lists of which one is another.
use Rattle.std.specs.Prelude.{◌≡◌, ◌<◌, ℕ, zero, suc, Option, None, List, [], ◌∷◌, ◌++◌, length, slice_index_or, slice_set, refl}
use Rattle.std.proofs.Common.{ap, ◌∙◌}
use Rattle.std.proofs.lemmas.List.{get_or-set_same, get_or-set_other}
use Rattle.its_word.specs.ArrayVec.{ArrayVec}
use Rattle.its_word.specs.Console.{Console, quiet_console}
use Rattle.its_word.specs.Only.{Only}
use Rattle.its_plain.specs.Machine.{Symbol}
use Rattle.its_shared.specs.Parts.{alarm_at, no_symbols, symbols_at}

pub quiet_more : (xs : List Console) → ((c : ℕ) → slice_index_or xs c quiet_console ≡ quiet_console) → (c : ℕ)
    → slice_index_or (xs ++ quiet_console ∷ []) c quiet_console ≡ quiet_console
quiet_more [] h zero = refl
quiet_more [] h (suc c) = refl
quiet_more (x ∷ xs) h zero = h zero
quiet_more (x ∷ xs) h (suc c) = quiet_more xs (λ i. h (suc i)) c

pub none_more : {X : Type 0} → (xs : List (Option X)) → ((k : ℕ) → slice_index_or xs k None ≡ None) → (k : ℕ) → slice_index_or (xs ++ None ∷ []) k None ≡ None
none_more [] h zero = refl
none_more [] h (suc k) = refl
none_more (x ∷ xs) h zero = h zero
none_more (x ∷ xs) h (suc k) = none_more xs (λ i. h (suc i)) k

pub symbols_more : (xs : List (ArrayVec Symbol)) (x : ArrayVec Symbol) → x.items ≡ [] → ((k : ℕ) → symbols_at xs k ≡ []) → (k : ℕ)
    → symbols_at (xs ++ x ∷ []) k ≡ []
symbols_more [] x e h zero = e
symbols_more [] x e h (suc k) = refl
symbols_more (y ∷ xs) x e h zero = h zero
symbols_more (y ∷ xs) x e h (suc k) = symbols_more xs x e (λ i. h (suc i)) k

-- one alarm is another, and one list of symbols
pub alarm_only : (xs : List (Option (ℕ × ℕ))) (s : ℕ) (a : Option (ℕ × ℕ)) → s < length xs → Only (alarm_at xs) (alarm_at (slice_set xs s a)) s a
alarm_only xs s a l = record { here = get_or-set_same xs s a None l; others = λ k ne. get_or-set_other xs s k a None ne }

pub list_here : (xs : List (ArrayVec Symbol)) (s : ℕ) (x : ArrayVec Symbol) (ss : List Symbol) → s < length xs → x.items ≡ ss
    → Only (symbols_at xs) (symbols_at (slice_set xs s x)) s ss
list_here xs s x ss l e = record {
  here = ap (λ (y : ArrayVec Symbol). y.items) (get_or-set_same xs s x no_symbols l) ∙ e;
  others = λ k ne. ap (λ (y : ArrayVec Symbol). y.items) (get_or-set_other xs s k x no_symbols ne);
}
