-- Whose turn it is: the jobs are asked one by one whether they run, and the first in the circle has
-- it.
use Rattle.std.proofs.Common.{◌≡◌, ◌<◌, ◌+◌, ℕ, Bool, false, Option, Some, None, List, length, IfSome, sym, ap, ◌∙◌, inl, inr, arith, slice_index_or, slice_set}
use Rattle.std.proofs.lemmas.Bool.{cases_eq}
use Rattle.std.proofs.lemmas.List.{get_or-set_same, get_or-set_other, length-set}
use Rattle.its_robin.specs.Robin.{robin}
use Rattle.its_robin.proofs.RobinLaws.{robin_same}
use Rattle.its_word.specs.Limits.{slots}
use Rattle.its_plain.specs.Machine.{Machine}
use Rattle.its_plain.specs.Transcript.Turns.{runs, turn_after}
use Rattle.its_plain.proofs.FairLaws.{turn_within}

-- which of the first k slots have a job that runs
pub record RunsSo (m : Machine) (k : ℕ) (xs : List Bool) : Type 0 where
  pub count : length xs ≡ slots
  pub found : (s : ℕ) → s < k → slice_index_or xs s false ≡ runs m s

pub runs_start : (m : Machine) (xs : List Bool) → length xs ≡ slots → RunsSo m 0 xs
runs_start m xs e = record { count = e; found = λ s below. absurd (omega arith) }

pub runs_next : (m : Machine) (k : ℕ) (xs ys : List Bool) (b : Bool) → k < slots → RunsSo m k xs → ys ≡ slice_set xs k b → b ≡ runs m k → RunsSo m (k + 1) ys
runs_next m k xs ys b below r e here = record {
  count = ap length e ∙ length-set xs k b ∙ r.count;
  found = λ s under.
      ap (λ l. slice_index_or l s false) e
      ∙ elim (cases_eq s k) [
        | inl same ↦ ap (λ i. slice_index_or (slice_set xs k b) i false) same ∙ get_or-set_same xs k b false (omega (arith, r.count)) ∙ here
            ∙ ap (runs m) (sym same)
        | inr other ↦ get_or-set_other xs k s b false other ∙ r.found s (omega arith)
      ];
}

pub turn_found : (m : Machine) (last : ℕ) (xs : List Bool) (o : Option ℕ) → last < slots → RunsSo m slots xs
    → o ≡ robin (length xs) (λ k. slice_index_or xs k false) last
    → o ≡ turn_after m last
turn_found m last xs o l r h =
    h ∙ ap (λ n. robin n (λ k. slice_index_or xs k false) last) r.count
    ∙ robin_same slots last (λ k. slice_index_or xs k false) (runs m) l (λ k below. r.found k below)

pub turn_is_slot : (m : Machine) (last : ℕ) (o : Option ℕ) → last < slots → o ≡ turn_after m last → IfSome o (λ s. s < slots)
turn_is_slot m last (Some s) l h = turn_within m last s l (sym h)
turn_is_slot m last None l h = tt
