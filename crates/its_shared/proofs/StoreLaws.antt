-- The store of files and drafts against the files and the mark of the machine.
use Rattle.std.specs.Prelude.{◌≡◌, ℕ, Bool, true, false, cond, Option, Some, None, is_some, option_map, List, [], ◌∷◌, map, refl}
use Rattle.std.proofs.Common.{sym, ◌∙◌, ap}
use Rattle.std.proofs.lemmas.Bool.{both_ways}
use Rattle.its_word.specs.Directory.{without_names, changed_if, with_changed, named}
use Rattle.its_files.specs.Files.{Store, IsStore, entry_at, is_file, found_by, found_in, found, new_names, names_at, file_at, directory}
use Rattle.its_word.proofs.NamesLaws.{alike, same_sym, same_both, same_refl, same_self}
use Rattle.its_files.proofs.EntryLaws.{found_file, found_fresh}
use Rattle.its_files.proofs.DirectoryLaws.{without_same}
use Rattle.its_plain.specs.Machine.{Names, File}
use Rattle.its_plain.specs.Machine.Change.{same_names, without_file, with_new_names}
use Rattle.its_plain.specs.Call.File.{file_named, has_file}

-- the file with some names
found_among : (s : Store) (names : Names) (ids : List ℕ) → option_map (file_at s) (found_in s.entries names ids) ≡ file_named names (map (file_at s) ids)
found_among s names [] = refl
found_among s names (id ∷ ids) = first (found_in s.entries names ids) (file_named names (map (file_at s) ids))
    (same_names names (names_at s id)) (found_among s names ids)
  where
    first : (o : Option ℕ) (f : Option File) (b : Bool) → option_map (file_at s) o ≡ f
        → option_map (file_at s) (found_by b id o) ≡ cond b (Some (file_at s id)) f
    first o f true e = refl
    first o f false e = e

pub found_named : (s : Store) (names : Names) → option_map (file_at s) (found s names) ≡ file_named names (directory s)
found_named s names = found_among s names s.order

is_some_map : {X Y : Type 0} (f : X → Y) (o : Option X) → is_some (option_map f o) ≡ is_some o
is_some_map f None = refl
is_some_map f (Some x) = refl

pub has_named : (s : Store) (names : Names) → has_file names (directory s) ≡ is_some (found s names)
has_named s names = sym (ap is_some (found_named s names)) ∙ is_some_map (file_at s) (found s names)

-- names that are the same change the same file
pub changed_same : (a b : Names) (h : File → File) (fs : List File) → same_names a b ≡ true → with_changed a h fs ≡ with_changed b h fs
changed_same a b h [] e = refl
changed_same a b h (f ∷ fs) e =
    ap (λ x. changed_if x f (h f) ∷ with_changed a h fs) (same_self a b f.names e)
    ∙ ap (λ gs. changed_if (same_names b f.names) f (h f) ∷ gs) (changed_same a b h fs e)

module _ (s : Store) (whole : IsStore s) where
  -- the file that is found has these names, and it alone
  pub found_names : (names : Names) (id : ℕ) → found s names ≡ Some id → same_names names (names_at s id) ≡ true
  found_names names id e = (found_file s.entries s.order s.mark s.stored.texts whole names id e).1

  found_only : (names : Names) (id : ℕ) (o : Option ℕ) → is_file (entry_at s id) ≡ true → same_names names (names_at s id) ≡ true
      → found s names ≡ o → o ≡ Some id
  found_only names id None f e is = absurd (both_ways (same_names names (names_at s id))
      (found_fresh s.entries s.order s.mark s.stored.texts whole names is id f) e)
  found_only names id (Some k) f e is =
      let g = found_file s.entries s.order s.mark s.stored.texts whole names k is in
      ap Some (whole.unique k id g.0 f (same_both names (names_at s k) (names_at s id) g.1 e))

  pub found_is : (names : Names) (id : ℕ) → is_file (entry_at s id) ≡ true → same_names names (names_at s id) ≡ true → found s names ≡ Some id
  found_is names id f e = found_only names id (found s names) f e refl

  pub found_self : (id : ℕ) → is_file (entry_at s id) ≡ true → found s (names_at s id) ≡ Some id
  found_self id f = found_is (names_at s id) id f (same_refl (names_at s id))

  pub named_self : (id : ℕ) → is_file (entry_at s id) ≡ true → file_named (names_at s id) (directory s) ≡ Some (file_at s id)
  named_self id f = sym (found_named s (names_at s id)) ∙ ap (option_map (file_at s)) (found_self id f)

  -- the directory after a file was deleted or renamed, by the names that were asked
  pub deleted_directory : (t : Store) (names : Names) (id : ℕ) → found s names ≡ Some id
      → directory t ≡ without_names (names_at s id) (directory s) → directory t ≡ without_file names (directory s)
  unfolding without_file
  deleted_directory t names id e d = d ∙ without_same (names_at s id) names (directory s) (same_sym names (names_at s id) (found_names names id e))

  pub renamed_directory : (t : Store) (names : Names) (id u v : ℕ) → found s names ≡ Some id
      → directory t ≡ with_changed (names_at s id) (named (new_names s id u v)) (directory s) → directory t ≡ with_new_names names u v (directory s)
  unfolding with_new_names
  renamed_directory t names id u v e d =
      let same = found_names names id e in
      d ∙ changed_same (names_at s id) names (named (new_names s id u v)) (directory s) (same_sym names (names_at s id) same)
      ∙ ap (λ x. with_changed names (named (x ∷ u ∷ v ∷ [])) (directory s)) (sym (alike names (names_at s id) same).directory)
