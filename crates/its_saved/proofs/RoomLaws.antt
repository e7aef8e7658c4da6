-- While jobs are made one after another there is room for their pages.
use Rattle.std.specs.Prelude.{if◌then◌else◌, ◌≡◌, ◌≢◌, ◌≤◌, ◌<◌, ◌==◌, ℕ, ◌+◌, Bool, true, false, Option, Some, None, List, [], ◌∷◌, option_map, nat_lt, refl}
use Rattle.std.specs.List.{range_with_len}
use Rattle.std.proofs.Common.{◌∙◌, ap, arith, inl, inr}
use Rattle.std.proofs.lemmas.Bool.{cases_Bool}
use Rattle.std.proofs.lemmas.Bool.Decides.{nat_tests}
use Rattle.std.proofs.lemmas.List.Sums.{sum_by-le-sum_by}
use Rattle.its_word.specs.Core.{Core, no_core, pages_present, pages_mapped}
use Rattle.its_word.specs.Limits.{slots, most_pages}
use Rattle.its_word.proofs.PageLaws.{pages_mapped-only, pages_present-no_core}
use Rattle.its_plain.specs.Machine.{Whole, Machine, Symbol, changed, core_of, mapped}
use Rattle.its_saved.proofs.JobLaws.{bare, block, jobs_upto}
use Rattle.its_saved.proofs.CoreLaws.{Room}

pages_le : (f g : ℕ → Core) → ((k : ℕ) → pages_present (f k) ≤ pages_present (g k)) → pages_mapped f ≤ pages_mapped g
unfolding pages_mapped
pages_le f g h = sum_by-le-sum_by (λ k. pages_present (f k)) (λ k. pages_present (g k)) (range_with_len 0 slots) h

none_le : (n : ℕ) → pages_present no_core ≤ n
none_le n = let e = pages_present-no_core in omega arith

pub block_room : (m n : Machine) (s : ℕ) (q p : Whole) (ss : List Symbol) → s < slots → m.jobs s ≡ Some q → ((k : ℕ) → n.jobs k ≡ None)
    → mapped m ≤ most_pages → Room (jobs_upto m n s) s p ss q.core
block_room m n s q p ss below here none most = record {
  room = λ d fewer.
      let g : ℕ → Core = changed (λ k. core_of (m.jobs k)) s d in
      let a = pages_le (λ k. core_of ((block (jobs_upto m n s) s (record p { core = d }) ss).jobs k)) g (λ k. by d k (k == s) (nat_lt k s) (m.jobs k) refl) in
      let b = pages_mapped-only (λ k. core_of (m.jobs k)) g s d (record { here = at_here d; others = λ k ne. elsewhere d k ne }) below in
      let e : pages_present (core_of (m.jobs s)) ≡ pages_present q.core = ap (λ o. pages_present (core_of o)) here in
      let f = most in
      omega arith;
}
  where
    at_here : (d : Core) → changed (λ k. core_of (m.jobs k)) s d s ≡ d
    at_here d = let t : (s == s) ≡ true = grind (arith, nat_tests) in rw t refl

    elsewhere : (d : Core) (k : ℕ) → k ≢ s → changed (λ k. core_of (m.jobs k)) s d k ≡ core_of (m.jobs k)
    elsewhere d k ne = elim (cases_Bool (k == s)) [
      | inl t ↦ absurd (ne (let h : k ≡ s = grind (arith, nat_tests) in h))
      | inr t ↦ rw t refl
    ]

    by : (d : Core) (k : ℕ) (a b : Bool) (o : Option Whole) → m.jobs k ≡ o
        → pages_present (core_of (if a then Some (record p { core = d }) else (if b then option_map bare (m.jobs k) else n.jobs k)))
        ≤ pages_present (if a then d else core_of (m.jobs k))
    by d k true b o e = omega arith
    by d k false false o e = rw (none k) (none_le _)
    by d k false true None e = rw e (omega arith)
    by d k false true (Some r) e = rw e (omega arith)
