-- Jobs are gone: one link after another loses the ends that were open at them.
use Rattle.std.specs.Prelude.{◌≡◌, ◌≤◌, ◌<◌, ◌+◌, ℕ, Bool, Option, None, refl}
use Rattle.std.proofs.Common.{◌∙◌, ap, sym, arith, inl, inr}
use Rattle.std.proofs.lemmas.Bool.{cases_eq, cases_lt}
use Rattle.its_records.specs.Links.{most_links}
use Rattle.its_word.specs.Only.{Only}
use Rattle.its_plain.specs.Machine.Change.{ends_after_removal}
use Rattle.its_plain.specs.Machine.{Pipe}

-- the numbers below n are done
pub record Swept (gone : ℕ → Bool) (old new : ℕ → Option Pipe) (n : ℕ) : Type 0 where
  pub done : (l : ℕ) → l < n → new l ≡ ends_after_removal gone (old l)
  pub rest : (l : ℕ) → n ≤ l → new l ≡ old l

pub sweep_start : (gone : ℕ → Bool) (old : ℕ → Option Pipe) → Swept gone old old 0
sweep_start gone old = record { done = λ l less. absurd (omega arith); rest = λ l less. refl }

pub sweep_next : (gone : ℕ → Bool) (old now new : ℕ → Option Pipe) (n : ℕ) → Swept gone old now n
    → Only now new n (ends_after_removal gone (now n)) → Swept gone old new (n + 1)
sweep_next gone old now new n s o = record {
  done = λ l less. elim (cases_eq l n) [
    | inl e ↦ rw e (o.here ∙ ap (ends_after_removal gone) (s.rest n (omega arith)))
    | inr ne ↦ o.others l ne ∙ s.done l (omega arith)
  ];
  rest = λ l less. o.others l (λ e. omega arith) ∙ s.rest l (omega arith);
}

pub sweep_end : (gone : ℕ → Bool) (old new : ℕ → Option Pipe) (n : ℕ) → most_links ≤ n → ((l : ℕ) → most_links ≤ l → old l ≡ None) → Swept gone old new n
    → (l : ℕ) → new l ≡ ends_after_removal gone (old l)
sweep_end gone old new n past none s l = elim (cases_lt l n) [
  | inl less ↦ s.done l less
  | inr more ↦
      let empty : old l ≡ None = none l (omega arith) in
      s.rest l more ∙ empty ∙ sym (ap (ends_after_removal gone) empty)
]
