-- Words of a LOAD block that are on read-only pages, looked for one by one.
use Rattle.std.specs.Prelude.{◌≡◌, ◌≤◌, ◌<◌, ◌+◌, ◌-◌, ◌||◌, ℕ, suc, true, false, refl}
use Rattle.std.proofs.Common.{sym, ◌∙◌, ap, arith}
use Rattle.its_word.specs.Core.{Core}
use Rattle.its_plain.specs.Operator.Jobs.{is_barred, any_barred}

-- n words of which the first k are on no read-only page
pub any_start : (c : Core) (a n : ℕ) → any_barred c (a + 0) (n - 0) ≡ any_barred c a n
any_start c a n = let e : a + 0 ≡ a = omega arith in let f : n - 0 ≡ n = omega arith in ap (λ i. any_barred c i (n - 0)) e ∙ ap (any_barred c a) f

any_more : (c : Core) (a n : ℕ) → any_barred c a (suc n) ≡ (is_barred c a || any_barred c (a + 1) n)
unfolding any_barred
any_more c a n = refl

any_after : (c : Core) (a n k : ℕ) → k < n → any_barred c (a + k) (n - k) ≡ (is_barred c (a + k) || any_barred c (a + (k + 1)) (n - (k + 1)))
any_after c a n k l =
    let e : n - k ≡ suc (n - (k + 1)) = omega arith in
    let f : a + k + 1 ≡ a + (k + 1) = omega arith in
    ap (any_barred c (a + k)) e ∙ any_more c (a + k) (n - (k + 1)) ∙ ap (λ i. is_barred c (a + k) || any_barred c i (n - (k + 1))) f

pub any_here : (c : Core) (a n k : ℕ) → k < n → is_barred c (a + k) ≡ true → any_barred c (a + k) (n - k) ≡ true
any_here c a n k l h = any_after c a n k l ∙ ap (λ b. b || any_barred c (a + (k + 1)) (n - (k + 1))) h

pub any_next : (c : Core) (a n k : ℕ) → k < n → is_barred c (a + k) ≡ false → any_barred c (a + (k + 1)) (n - (k + 1)) ≡ any_barred c (a + k) (n - k)
any_next c a n k l h = sym (any_after c a n k l ∙ ap (λ b. b || any_barred c (a + (k + 1)) (n - (k + 1))) h)

none_more : (c : Core) (a : ℕ) → any_barred c a 0 ≡ false
unfolding any_barred
none_more c a = refl

pub any_end : (c : Core) (a n k : ℕ) → n ≤ k → any_barred c (a + k) (n - k) ≡ false
any_end c a n k l = let e : n - k ≡ 0 = omega arith in ap (any_barred c (a + k)) e ∙ none_more c (a + k)
