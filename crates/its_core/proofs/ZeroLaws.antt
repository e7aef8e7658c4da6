-- A page of zeros that is made: it is reserved and cleared, and then mapped.
use Rattle.std.specs.Prelude.{◌≡◌, ℕ, Option, Some, None, option_map, refl}
use Rattle.std.proofs.Common.{sym, ◌∙◌, ap, inl, inr}
use Rattle.std.proofs.lemmas.Bool.{cases_eq}
use Rattle.its_word.specs.Core.{with_page, zero_page}
use Rattle.its_word.specs.Only.{Only, Same}
use Rattle.its_core.specs.Cores.{Cores, Reserved, core_at, reserved_at, clear_at}
use Rattle.its_core.proofs.CoresLaws.{same_core_at}

unreserved_by : (o : Option Reserved) → option_map (λ x. x.clear) o ≡ None → o ≡ None
unreserved_by (Some x) h = cc
unreserved_by None h = refl

pub clear_unreserved : (c : Cores) (s : ℕ) → clear_at c s ≡ None → reserved_at c s ≡ None
clear_unreserved c s h = unreserved_by (reserved_at c s) h

pub mapped_cores : (a b c : Cores) (s k : ℕ) → b.cores ≡ a.cores → Only (core_at b) (core_at c) s (with_page (core_at b s) k (Some zero_page))
    → Only (core_at a) (core_at c) s (with_page (core_at a s) k (Some zero_page))
mapped_cores a b c s k e o = record {
  here = o.here ∙ ap (λ x. with_page x k (Some zero_page)) (same_core_at b a s e);
  others = λ i n. o.others i n ∙ same_core_at b a i e;
}

pub mapped_clear : (a b c : Cores) (s : ℕ) → clear_at a s ≡ None → Only (clear_at a) (clear_at b) s (Some 4)
    → Only (clear_at b) (clear_at c) s None → Same (clear_at a) (clear_at c)
mapped_clear a b c s n e o = record {
  each = λ k. elim (cases_eq k s) [
    | inl i ↦ rw i (o.here ∙ sym n)
    | inr i ↦ o.others k i ∙ e.others k i
  ];
}
