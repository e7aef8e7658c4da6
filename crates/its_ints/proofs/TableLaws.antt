-- The search for the entry of the interrupt table that is taken.
use Rattle.std.specs.Prelude.{◌≡◌, ◌<◌, ℕ, zero, suc, ◌+◌, ◌-◌, ◌*◌, None, refl}
use Rattle.std.proofs.Common.{sym, ◌∙◌, ap, arith}
use Rattle.its_word.specs.Core.{Core}
use Rattle.its_records.specs.declared.jobs.Job.{Job}
use Rattle.its_plain.specs.Unit.Interrupt.{entry_at, chosen, first_entry}

-- no entry is left
pub first_entry_spent : (c : Core) (j : Job) (n a : ℕ) → n ≡ 0 → first_entry c j n a ≡ None
unfolding first_entry
first_entry_spent c j zero a e = refl
first_entry_spent c j (suc n) a e = absurd (omega arith)

more : (c : Core) (j : Job) (n m a b : ℕ) → n ≡ suc m → b ≡ a + 5 → first_entry c j n a ≡ chosen j (entry_at c a) (first_entry c j m b)
unfolding first_entry
more c j zero m a b e f = absurd (omega arith)
more c j (suc n) m a b e f =
    let same : n ≡ m = omega arith in
    ap (λ x. chosen j (entry_at c a) (first_entry c j x (a + 5))) same ∙ ap (λ x. chosen j (entry_at c a) (first_entry c j m x)) (sym f)

-- after k of them
pub first_entry_turn : (c : Core) (j : Job) (count k a : ℕ) → k < count
    → first_entry c j (count - k) (a + 5 * k) ≡ chosen j (entry_at c (a + 5 * k)) (first_entry c j (count - (k + 1)) (a + 5 * (k + 1)))
first_entry_turn c j count k a h =
    let n : count - k ≡ suc (count - (k + 1)) = omega arith in
    let p : a + 5 * (k + 1) ≡ a + 5 * k + 5 = omega arith in
    more c j (count - k) (count - (k + 1)) (a + 5 * k) (a + 5 * (k + 1)) n p
