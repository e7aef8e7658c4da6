-- What DIR and SHOW show, found one by one.
use Rattle.std.specs.Prelude.{◌≡◌, ◌≤◌, ℕ, zero, suc, ◌+◌, Bool, true, false, cond, Option, Some, None, List, [], ◌∷◌, ◌++◌, option_map, map, take, drop, length, slice_get, refl}
use Rattle.std.specs.List.{cons_option, list_all}
use Rattle.std.proofs.Common.{sym, ◌∙◌, ap, arith}
use Rattle.std.proofs.lemmas.List.{append-nil, length-append, drop-drop}
use Rattle.std.proofs.lemmas.List.Folds.{list_all-append}
use Rattle.its_files.specs.Files.{Store, entry_at, is_file, file_at, directory, found}
use Rattle.its_plain.specs.Call.File.{file_named}
use Rattle.its_plain.specs.Machine.{File}
use Rattle.its_plain.specs.Operator.Files.{is_in, files_in}
use Rattle.its_plain.specs.Machine.Own.{names_of}
use Rattle.its_shared.proofs.DirLaws.{rest_in, rest_next, rest_past}
use Rattle.its_shared.proofs.StoreLaws.{found_named}
use Rattle.its_direct.proofs.ConsoleLaws.{head_more}
use Rattle.its_direct.specs.Plain.{machine_of}
use Rattle.its_direct.specs.declared.plain.Plain.{Plain}

-- the files of the machine are those of the store
pub files_are : (p : Plain) → (machine_of p).files ≡ directory p.files
unfolding machine_of
files_are p = refl

pub listed_files : (p : Plain) (d : ℕ) (ids : List ℕ) → map (file_at p.files) ids ≡ files_in d (directory p.files)
    → map (file_at p.files) ids ≡ files_in d (machine_of p).files
listed_files p d ids e = e ∙ ap (files_in d) (sym (files_are p))

pub found_file : (p : Plain) (d x y : ℕ) (o : Option ℕ) → o ≡ found p.files (names_of d x y)
    → option_map (file_at p.files) o ≡ file_named (names_of d x y) (machine_of p).files
found_file p d x y o e = ap (option_map (file_at p.files)) e ∙ found_named p.files (names_of d x y) ∙ sym (ap (file_named (names_of d x y)) (files_are p))

-- those before place i are listed
pub record Listing (s : Store) (d i : ℕ) (ids : List ℕ) : Type 0 where
  pub few : length ids ≤ i
  pub files : list_all (λ id. is_file (entry_at s id)) ids ≡ true
  pub rest : map (file_at s) ids ++ rest_in s d i ≡ files_in d (directory s)

map_more : (s : Store) (ids : List ℕ) (id : ℕ) (fs : List File) → map (file_at s) (ids ++ id ∷ []) ++ fs ≡ map (file_at s) ids ++ file_at s id ∷ fs
map_more s [] id fs = refl
map_more s (x ∷ ids) id fs = ap (λ ys. file_at s x ∷ ys) (map_more s ids id fs)

all_more : (s : Store) (ids : List ℕ) (id : ℕ) → list_all (λ i. is_file (entry_at s i)) ids ≡ true → is_file (entry_at s id) ≡ true
    → list_all (λ i. is_file (entry_at s i)) (ids ++ id ∷ []) ≡ true
all_more s ids id h f = list_all-append (λ i. is_file (entry_at s i)) ids (id ∷ []) ∙ rw (h, f) refl

module _ (s : Store) (d : ℕ) where
  pub listing_starts : Listing s d 0 []
  listing_starts = record { few = omega arith; files = refl; rest = refl }

  module _ (i id : ℕ) (o : Option ℕ) (b : Bool) (ids : List ℕ) (h : Listing s d i ids) (at : o ≡ slice_get s.order i) (some : o ≡ Some id)
      (is : b ≡ is_in d (file_at s id)) where
    here : rest_in s d i ≡ cond b (file_at s id ∷ rest_in s d (i + 1)) (rest_in s d (i + 1))
    here = rest_next s d i id o b at some is

    pub listing_more : is_file (entry_at s id) ≡ true → b ≡ true → Listing s d (i + 1) (ids ++ id ∷ [])
    listing_more file t = record {
      few = let l = length-append ids (id ∷ []) in let f = h.few in omega arith;
      files = all_more s ids id h.files file;
      rest = map_more s ids id (rest_in s d (i + 1))
          ∙ sym (ap (λ fs. map (file_at s) ids ++ fs) (here ∙ ap (λ t. cond t (file_at s id ∷ rest_in s d (i + 1)) (rest_in s d (i + 1))) t)) ∙ h.rest;
    }

    pub listing_skips : b ≡ false → Listing s d (i + 1) ids
    listing_skips t = record {
      few = let f = h.few in omega arith;
      files = h.files;
      rest = sym (ap (λ fs. map (file_at s) ids ++ fs) (here ∙ ap (λ t. cond t (file_at s id ∷ rest_in s d (i + 1)) (rest_in s d (i + 1))) t)) ∙ h.rest;
    }

  pub listing_ends : (i n : ℕ) (ids : List ℕ) → Listing s d i ids → n ≡ length s.order → n ≤ i → map (file_at s) ids ≡ files_in d (directory s)
  listing_ends i n ids h is le = sym (ap (λ fs. map (file_at s) ids ++ fs) (rest_past s d i (omega arith)) ∙ append-nil (map (file_at s) ids)) ∙ h.rest

-- the words of a row, one by one
get_first : (ws : List ℕ) (i : ℕ) → slice_get (drop i ws) 0 ≡ slice_get ws i
get_first ws zero = refl
get_first [] (suc i) = refl
get_first (w ∷ ws) (suc i) = get_first ws i

next_word : (ws : List ℕ) (j i : ℕ) → take (i + 1) (drop j ws) ≡ take i (drop j ws) ++ cons_option (slice_get ws (j + i)) []
next_word ws j i = head_more (drop j ws) i ∙ ap (λ o. take i (drop j ws) ++ cons_option o [])
    (ap (λ xs. slice_get xs 0) (drop-drop i j ws) ∙ get_first ws (j + i))

pub record Row (ws : List ℕ) (j i : ℕ) (row : List ℕ) : Type 0 where
  pub few : length row ≤ i
  pub is : row ≡ take i (drop j ws)

pub row_starts : (ws : List ℕ) (j : ℕ) → Row ws j 0 []
row_starts ws j = record { few = omega arith; is = refl }

pub row_more : (ws row : List ℕ) (j i w : ℕ) (o : Option ℕ) → Row ws j i row → o ≡ slice_get ws (j + i) → o ≡ Some w → Row ws j (i + 1) (row ++ w ∷ [])
row_more ws row j i w o h at some = record {
  few = let l = length-append row (w ∷ []) in let f = h.few in omega arith;
  is = ap (λ xs. xs ++ w ∷ []) h.is ∙ ap (λ x. take i (drop j ws) ++ cons_option x []) (sym some ∙ at) ∙ sym (next_word ws j i);
}

pub row_stays : (ws row : List ℕ) (j i : ℕ) (o : Option ℕ) → Row ws j i row → o ≡ slice_get ws (j + i) → o ≡ None → Row ws j (i + 1) row
row_stays ws row j i o h at none = record {
  few = let f = h.few in omega arith;
  is = h.is ∙ sym (append-nil (take i (drop j ws))) ∙ ap (λ x. take i (drop j ws) ++ cons_option x []) (sym none ∙ at) ∙ sym (next_word ws j i);
}
