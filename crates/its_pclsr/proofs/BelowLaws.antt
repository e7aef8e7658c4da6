-- The jobs below one are unwound, one after another.
use Rattle.std.specs.Prelude.{◌≡◌, ◌≤◌, ◌<◌, ◌+◌, ℕ, zero, suc, Option, Some, None, List, [], ◌∷◌, length, slice_get, drop, refl}
use Rattle.std.specs.List.{range_with_len}
use Rattle.std.proofs.Common.{sym, ◌∙◌, ap, arith}
use Rattle.std.proofs.lemmas.List.Sums.{length-filter, count_by-le-length}
use Rattle.std.proofs.lemmas.List.FromFn.{length-range_with_len}
use Rattle.its_word.specs.Limits.{slots}
use Rattle.its_records.specs.Tree.{is_below, slots_below}
use Rattle.its_jobs.specs.Table.{superior_at, IsTree}
use Rattle.its_plain.specs.Machine.Change.{superiors}
use Rattle.its_plain.specs.Machine.{Machine}
use Rattle.its_stepped.specs.Sound.{Sound}
use Rattle.its_stepped.specs.State.{State, plain}
use Rattle.its_stepped.specs.Unwind.{unwound, all_unwound}
use Rattle.its_stepped.proofs.Committing.EffectLaws.{superiors_plain}
use Rattle.its_stepped.proofs.Unwinding.UnwindLaws.{all_unwound_slot, all_unwound_end, all_unwound_plain}
use Rattle.its_commit.proofs.RemovalLaws.{superiors_are}
use Rattle.its_pclsr.specs.Pages.{pages_unwound}
use Rattle.its_world.specs.World.{state_of, frames_after}
use Rattle.its_world.specs.declared.world.World.{World}

-- the k-th of a list
first_of_rest : (xs : List ℕ) (k b : ℕ) → slice_get xs k ≡ Some b → drop k xs ≡ b ∷ drop (suc k) xs
first_of_rest [] k b h = cc
first_of_rest (x ∷ xs) zero b h = let e : x ≡ b = cc in ap (λ i. i ∷ xs) e
first_of_rest (x ∷ xs) (suc k) b h = first_of_rest xs k b h

none_of_rest : (xs : List ℕ) (k : ℕ) → slice_get xs k ≡ None → drop k xs ≡ []
none_of_rest [] zero h = refl
none_of_rest [] (suc k) h = refl
none_of_rest (x ∷ xs) zero h = cc
none_of_rest (x ∷ xs) (suc k) h = none_of_rest xs k h

within_list : (xs : List ℕ) (k b : ℕ) → slice_get xs k ≡ Some b → k < length xs
within_list [] k b h = cc
within_list (x ∷ xs) zero b h = omega arith
within_list (x ∷ xs) (suc k) b h = let rest = within_list xs k b h in omega arith

few_below : (sup : ℕ → Option ℕ) (s : ℕ) → length (slots_below sup s) ≤ slots
unfolding slots_below
few_below sup s =
    let a = length-filter (is_below sup s) (range_with_len 0 slots) in
    let b = count_by-le-length (is_below sup s) (range_with_len 0 slots) in
    let c = length-range_with_len 0 slots in
    omega arith

pub within_below : (sup : ℕ → Option ℕ) (s k b : ℕ) → Some b ≡ slice_get (slots_below sup s) k → k < slots
within_below sup s k b h = let in_list = within_list (slots_below sup s) k b (sym h) in let few = few_below sup s in omega arith

-- k of them are done
pub record Unwinding (old new : World) (s k : ℕ) : Type 0 where
  pub sound : Sound (state_of new)
  pub tree : superiors (state_of new).raw ≡ superiors (state_of old).raw
  pub rest : all_unwound (drop k (slots_below (superiors (state_of new).raw) s)) (state_of new) ≡ all_unwound
      (slots_below (superiors (state_of old).raw) s) (state_of old)
  pub pages : pages_unwound (drop k (slots_below (superiors (state_of new).raw) s)) (state_of new) new.core.frames ≡ pages_unwound
      (slots_below (superiors (state_of old).raw) s) (state_of old) old.core.frames

pub unwinding_start : (w : World) (s : ℕ) → Sound (state_of w) → Unwinding w w s 0
unwinding_start w s sound = record { sound = sound; tree = refl; rest = refl; pages = refl }

same_superiors : (w v : State) → plain v ≡ plain w → superiors v.raw ≡ superiors w.raw
same_superiors w v e = sym (superiors_plain v) ∙ ap (λ (m : Machine). superiors m) e ∙ superiors_plain w

pub unwinding_more : (old mid new : World) (s k b : ℕ) → Unwinding old mid s k → IsTree mid.jobs.jobs mid.jobs.superiors
    → Some b ≡ slice_get (slots_below (superior_at mid.jobs) s) k → state_of new ≡ unwound (state_of mid) b → plain (state_of new) ≡ plain (state_of mid)
    → Sound (state_of new) → new.core.frames ≡ frames_after ((state_of mid).reserved b) None b mid.core.frames → Unwinding old new s (k + 1)
unwinding_more old mid new s k b u t h e p sound g =
    let up = same_superiors (state_of mid) (state_of new) p in
    let xs : List ℕ = slots_below (superiors (state_of mid).raw) s in
    let here : slice_get xs k ≡ Some b = ap (λ sup. slice_get (slots_below sup s) k) (superiors_are mid t) ∙ sym h in
    let one : k + 1 ≡ suc k = omega arith in
    record {
      sound = sound;
      tree = up ∙ u.tree;
      rest = ap (λ sup. all_unwound (drop (k + 1) (slots_below sup s)) (state_of new)) up
          ∙ ap (λ n. all_unwound (drop n xs) (state_of new)) one
          ∙ ap (all_unwound (drop (suc k) xs)) e
          ∙ all_unwound_slot b (drop (suc k) xs) (state_of mid)
          ∙ ap (λ ys. all_unwound ys (state_of mid)) (sym (first_of_rest xs k b here))
          ∙ u.rest;
      pages = ap (λ sup. pages_unwound (drop (k + 1) (slots_below sup s)) (state_of new) new.core.frames) up
          ∙ ap (λ n. pages_unwound (drop n xs) (state_of new) new.core.frames) one
          ∙ (λ i. pages_unwound (drop (suc k) xs) (e i) (g i))
          ∙ ap (λ ys. pages_unwound ys (state_of mid) mid.core.frames) (sym (first_of_rest xs k b here))
          ∙ u.pages;
    }

pub unwinding_end : (old mid : World) (s k : ℕ) → Unwinding old mid s k → IsTree mid.jobs.jobs mid.jobs.superiors
    → None ≡ slice_get (slots_below (superior_at mid.jobs) s) k → state_of mid ≡ all_unwound (slots_below (superiors (state_of old).raw) s) (state_of old)
unwinding_end old mid s k u t h =
    let xs : List ℕ = slots_below (superiors (state_of mid).raw) s in
    let here : slice_get xs k ≡ None = ap (λ sup. slice_get (slots_below sup s) k) (superiors_are mid t) ∙ sym h in
    sym (ap (λ ys. all_unwound ys (state_of mid)) (none_of_rest xs k here) ∙ all_unwound_end (state_of mid)) ∙ u.rest

pub unwinding_pages : (old mid : World) (s k : ℕ) → Unwinding old mid s k → IsTree mid.jobs.jobs mid.jobs.superiors
    → None ≡ slice_get (slots_below (superior_at mid.jobs) s) k
    → mid.core.frames ≡ pages_unwound (slots_below (superiors (state_of old).raw) s) (state_of old) old.core.frames
unwinding_pages old mid s k u t h =
    let xs : List ℕ = slots_below (superiors (state_of mid).raw) s in
    let here : slice_get xs k ≡ None = ap (λ sup. slice_get (slots_below sup s) k) (superiors_are mid t) ∙ sym h in
    sym (ap (λ ys. pages_unwound ys (state_of mid) mid.core.frames) (none_of_rest xs k here)) ∙ u.pages

pub below_same : (old new : World) (s : ℕ) → Sound (state_of old) → state_of new ≡ all_unwound (slots_below (superiors (state_of old).raw) s) (state_of old)
    → plain (state_of new) ≡ plain (state_of old)
below_same old new s sound e = ap plain e ∙ all_unwound_plain (slots_below (superiors (state_of old).raw) s) (state_of old) sound
