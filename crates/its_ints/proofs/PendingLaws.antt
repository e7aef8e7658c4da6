-- If nothing is pending, nothing can be delivered.
use Rattle.std.specs.Prelude.{◌≡◌, ◌==◌, ◌||◌, not, ℕ, false, bit_and}
use Rattle.std.specs.Int.Bits.{and_zero_l}
use Rattle.std.proofs.Common.{◌∙◌, ap}
use Rattle.its_word.specs.Word.{complement_of}
use Rattle.its_records.specs.declared.jobs.Job.{Job}
use Rattle.its_word.specs.Flags.{FATAL, TBL}
use Rattle.its_plain.specs.Unit.Interrupt.{deliverable, enabled_1, enabled_2, unguarded}

-- what is left of no bits
left : (n a b : ℕ) → n ≡ 0 → bit_and (bit_and n a) b ≡ 0
left n a b e = ap (λ x. bit_and (bit_and x a) b) e ∙ ap (λ x. bit_and x b) (and_zero_l a) ∙ and_zero_l b

pub none_pending : (j : Job) → j.pend1 ≡ 0 → j.pend2 ≡ 0 → deliverable j ≡ false
unfolding deliverable unguarded enabled_1 enabled_2
none_pending j p q =
    ap (λ n. not (n == 0) || (not (enabled_1 j == 0) || not (enabled_2 j == 0))) (left j.pend1 FATAL (complement_of (enabled_1 j)) p)
    ∙ ap (λ n. not (n == 0) || not (enabled_2 j == 0)) (left j.pend1 j.mask1 (bit_and (complement_of j.defer1) (complement_of TBL)) p)
    ∙ ap (λ n. not (n == 0)) (left j.pend2 j.mask2 (complement_of j.defer2) q)
