-- A directory of files in their order, each with three names (those of its directory and its own
-- two) and its words.
-- A promise rests on this.
use Rattle.std.specs.Prelude.{ℕ, Bool, true, false, ◌&&◌, eqb, List, [], ◌∷◌, ◌++◌, slice_index_or}

pub record File : Type 0 where
  pub names : List ℕ
  pub words : List ℕ

-- whether three names are the same
unfoldable pub same_names : List ℕ → List ℕ → Bool
same_names a b = eqb (slice_index_or a 0 0) (slice_index_or b 0 0) && (eqb (slice_index_or a 1 0) (slice_index_or b 1 0) && eqb (slice_index_or a 2 0) (slice_index_or b 2 0))

-- a file before others, unless it is the one that goes
abbrev pub kept_file : Bool → File → List File → List File
kept_file true f fs = fs
kept_file false f fs = f ∷ fs

-- the files except the one with these names
abbrev pub without_names : List ℕ → List File → List File
without_names names [] = []
without_names names (f ∷ fs) = kept_file (same_names names f.names) f (without_names names fs)

-- the files, of which the one with these names is changed
abbrev pub changed_if : Bool → File → File → File
changed_if true f g = g
changed_if false f g = f

abbrev pub with_changed : List ℕ → (File → File) → List File → List File
with_changed names h [] = []
with_changed names h (f ∷ fs) = changed_if (same_names names f.names) f (h f) ∷ with_changed names h fs

-- a word more at the end of a file, and other names
abbrev pub longer : ℕ → File → File
longer w f = record f { words = f.words ++ w ∷ [] }

abbrev pub named : List ℕ → File → File
named names f = record f { names = names }

-- a draft becomes the last file, and replaces the one with its names
abbrev pub closed : File → List File → List File
closed f fs = without_names f.names fs ++ f ∷ []
