-- The terms of an expression, taken off one after another; symbols.
use Rattle.std.proofs.Common.{◌≡◌, ◌&&◌, ℕ, true, false, nat_le, Some, None, Result, List, [], ◌∷◌, length, refl, arith, codes, inl, inr}
use Rattle.std.specs.List.{list_all}
use Rattle.std.proofs.lemmas.Bool.{cases_Bool}
use Rattle.std.proofs.lemmas.Bool.Decides.{nat_tests}
use Rattle.its_word.specs.Text.{is_code, is_name}
use Rattle.its_chart.specs.Text.{cut}
use Rattle.its_chart.proofs.BytesLaws.{both_true}
use Rattle.its_asm.specs.declared.reason.AsmReason.{AsmReason}
use Rattle.its_asm.specs.Text.{is_symbol, is_symbol_byte}
use Rattle.its_asm.specs.Expression.{Scope, added, sum_with, term}
use Rattle.its_asm.proofs.CutLaws.{cut_split, cut_whole}

-- an expression up to its first sign, and the rest
pub summed_cut : (s : Scope) (sum : Result ℕ AsmReason) (sign : ℕ) (text a c : List ℕ) (m : ℕ) → cut (codes "+-") text ≡ Some (a, m, c)
    → sum_with s sum sign text ≡ sum_with s (added sum sign (term s a)) m c
unfolding sum_with
summed_cut s sum sign text a c m h =
    let parts = cut_split (codes "+-") text (a, m, c) h in
    rw (parts.0, parts.1) refl

-- an expression without a sign
pub summed_whole : (s : Scope) (sum : Result ℕ AsmReason) (sign : ℕ) (text : List ℕ) → cut (codes "+-") text ≡ None
    → sum_with s sum sign text ≡ added sum sign (term s text)
unfolding sum_with
summed_whole s sum sign text h =
    let parts = cut_whole (codes "+-") text h in
    rw (parts.0, parts.1) refl

-- symbols are names
code_of_byte : (b : ℕ) → is_symbol_byte b ≡ true → is_code 33 95 b ≡ true
code_of_byte b h = grind (arith, nat_tests)

codes_of_bytes : (text : List ℕ) → list_all is_symbol_byte text ≡ true → list_all (is_code 33 95) text ≡ true
codes_of_bytes [] h = refl
codes_of_bytes (b ∷ rest) h =
    elim (cases_Bool (is_symbol_byte b)) [
      | inl hit ↦ (let more : list_all is_symbol_byte rest ≡ true = rw hit at h in rw (code_of_byte b hit, codes_of_bytes rest more) refl)
      | inr miss ↦ (let e : false ≡ true = rw miss at h in cc)
    ]

pub symbol_is_name : (text : List ℕ) → is_symbol text ≡ true → is_name text ≡ true
unfolding is_symbol is_name
symbol_is_name [] h = cc
symbol_is_name (b ∷ rest) h =
    let parts = both_true (is_code 65 90 b && nat_le (length rest) 5) (list_all is_symbol_byte rest) h in
    let head = both_true (is_code 65 90 b) (nat_le (length rest) 5) parts.0 in
    rw (codes_of_bytes rest parts.1) (grind (arith, nat_tests))
