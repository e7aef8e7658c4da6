-- DIR: the files of a directory, one by one in the order of all files.
use Rattle.std.specs.Prelude.{◌≡◌, ◌≢◌, ◌≤◌, ℕ, zero, suc, ◌+◌, ◌-◌, Bool, true, false, cond, Option, Some, None, List, ◌∷◌, option_map, length, slice_get, refl}
use Rattle.std.proofs.Common.{sym, ◌∙◌, ap, arith}
use Rattle.its_records.specs.declared.show.FileShow.{FileShow}
use Rattle.its_files.specs.Files.{Store, file_at, directory}
use Rattle.its_plain.specs.Machine.{File}
use Rattle.its_plain.specs.Operator.Files.{is_in, files_in, show_of}
use Rattle.its_shared.proofs.DirLaws.{rest_in, rest_next, rest_past}
use Rattle.its_stepped.specs.State.{plain}
use Rattle.its_world.specs.World.{state_of}
use Rattle.its_world.specs.declared.world.World.{World}
use Rattle.its_monitor.specs.Kept.{Helped}
use Rattle.its_monitor.proofs.FileLaws.{helped_files}

-- what is found after the first left of them is what was asked
abbrev pub IsLeft : Store → ℕ → ℕ → ℕ → ℕ → Type 0
IsLeft s d k i left = slice_get (rest_in s d i) left ≡ slice_get (files_in d (directory s)) k

passed : (f : File) (fs : List File) (n : ℕ) → n ≢ 0 → slice_get (f ∷ fs) n ≡ slice_get fs (n - 1)
passed f fs zero some = absurd (some refl)
passed f fs (suc n) some = let e : n ≡ suc n - 1 = omega arith in ap (slice_get fs) e

module _ (s : Store) (d : ℕ) where
  pub dir_starts : (k : ℕ) → IsLeft s d k 0 k
  dir_starts k = refl

  module _ (k i left id : ℕ) (o : Option ℕ) (b : Bool) (h : IsLeft s d k i left) (at : o ≡ slice_get s.order i) (some : o ≡ Some id)
      (is : b ≡ is_in d (file_at s id)) where
    here : rest_in s d i ≡ cond b (file_at s id ∷ rest_in s d (i + 1)) (rest_in s d (i + 1))
    here = rest_next s d i id o b at some is

    pub dir_found : b ≡ true → left ≡ 0 → option_map (file_at s) (Some id) ≡ slice_get (files_in d (directory s)) k
    dir_found t none =
        sym (ap (slice_get (rest_in s d i)) none ∙ ap (λ fs. slice_get fs 0)
        (here ∙ ap (λ t. cond t (file_at s id ∷ rest_in s d (i + 1)) (rest_in s d (i + 1))) t)) ∙ h

    pub dir_passes : b ≡ true → left ≢ 0 → IsLeft s d k (i + 1) (left - 1)
    dir_passes t some =
        sym (ap (λ fs. slice_get fs left) (here ∙ ap (λ t. cond t (file_at s id ∷ rest_in s d (i + 1)) (rest_in s d (i + 1))) t)
        ∙ passed (file_at s id) (rest_in s d (i + 1)) left some) ∙ h

    pub dir_skips : b ≡ false → IsLeft s d k (i + 1) left
    dir_skips t = ap (λ fs. slice_get fs left) (sym (here ∙ ap (λ t. cond t (file_at s id ∷ rest_in s d (i + 1)) (rest_in s d (i + 1))) t)) ∙ h

  pub dir_ends : (k i left n : ℕ) → IsLeft s d k i left → n ≡ length s.order → n ≤ i → None ≡ slice_get (files_in d (directory s)) k
  dir_ends k i left n h is le = sym (ap (λ fs. slice_get fs left) (rest_past s d i (omega arith))) ∙ h

-- what is shown of it
module _ (old new : World) (d k : ℕ) (o : Option ℕ) (h : Helped old new)
    (is : option_map (file_at new.files) o ≡ slice_get (files_in d (directory new.files)) k) where
  shown_by : option_map show_of (option_map (file_at new.files) o) ≡ option_map show_of (slice_get (files_in d (plain (state_of old)).files) k)
  shown_by = ap (option_map show_of) is ∙ ap (λ fs. option_map show_of (slice_get (files_in d fs) k)) (sym (helped_files old new h))

  pub dir_shown : (id : ℕ) (x : FileShow) → o ≡ Some id → x ≡ show_of (file_at new.files id)
      → Some x ≡ option_map show_of (slice_get (files_in d (plain (state_of old)).files) k)
  dir_shown id x e shown = ap Some shown ∙ sym (ap (λ p. option_map show_of (option_map (file_at new.files) p)) e) ∙ shown_by

  pub dir_past : o ≡ None → None ≡ option_map show_of (slice_get (files_in d (plain (state_of old)).files) k)
  dir_past e = sym (ap (λ p. option_map show_of (option_map (file_at new.files) p)) e) ∙ shown_by
