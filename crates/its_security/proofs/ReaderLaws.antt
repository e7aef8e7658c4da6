-- What a reader reads stays: neither a step nor a line changes a file that a channel reads
-- (docs/MACHINE.md, "Who may touch what").
use Rattle.std.specs.Prelude.{◌≡◌, ◌<◌, ℕ, Bool, true, false, Option, Some, None, is_some, List, [], ◌∷◌, ◌++◌, cond, Result, Ok, Err, nat_lt, length, slice_index_or, refl}
use Rattle.std.specs.List.{range_with_len, list_any}
use Rattle.std.specs.Option.{option_or}
use Rattle.std.proofs.Common.{sym, ◌∙◌, ap, inl, inr, arith}
use Rattle.std.proofs.lemmas.Bool.{cases_Bool}
use Rattle.std.proofs.lemmas.List.FromFn.{length-range_with_len, get_or-range_with_len}
use Rattle.std.proofs.lemmas.List.Folds.{find-append, list_any_at}
use Rattle.its_word.specs.Directory.{without_names, kept_file, with_changed, changed_if, longer}
use Rattle.its_word.specs.Limits.{slots}
use Rattle.its_word.proofs.NamesLaws.{same_sym, same_both, same_self}
use Rattle.its_plain.specs.Call.File.{Channels, most_files, is_full, file_named, has_file, reads, is_read}
use Rattle.its_plain.specs.Machine.Change.{channel_in, with_file, without_file, with_new_names, same_names}
use Rattle.its_security.specs.Integrity.{FilesMay, files_same, draft_closed, file_deleted, file_renamed}
use Rattle.its_plain.specs.Machine.{Names, File, Reads, Machine}
use Rattle.its_plain.specs.Operator.{and_then}
use Rattle.its_plain.specs.Operator.Files.{channels_of, with_file_made_if, with_file_made, with_word_added_if, with_word_added_to, with_word_added, with_words_added}
use Rattle.its_plain.specs.Machine.Own.{names_of}
use Rattle.its_records.specs.declared.session.Reason.{Reason}

-- one of the first n numbers passes
pub any_below : (p : ℕ → Bool) (i n : ℕ) → i < n → p i ≡ true → list_any p (range_with_len 0 n) ≡ true
any_below p i n lt h =
    let l = length-range_with_len 0 n in
    let z : slice_index_or (range_with_len 0 n) i 0 ≡ i = let e = get_or-range_with_len 0 n i 0 lt in omega arith in
    list_any_at p (range_with_len 0 n) i 0 (omega arith) (ap p z ∙ h)

-- a file that a channel reads is read, by whichever names that are the same
pub read_by : (x names : Names) (cs : Channels) (k n at : ℕ) → k < slots → n < 16 → cs k n ≡ Reads names at → same_names x names ≡ true → is_read x cs ≡ true
unfolding is_read
read_by x names cs k n at slot number on same =
    any_below (λ i. list_any (λ j. reads x (cs i j)) (range_with_len 0 16)) k slots slot
    (any_below (λ j. reads x (cs k j)) n 16 number (ap (reads x) on ∙ same))

-- names that nobody reads are others than those that a channel reads
pub other_names : (x names : Names) (cs : Channels) (k n at : ℕ) → k < slots → n < 16 → cs k n ≡ Reads names at → is_read x cs ≡ false
    → same_names names x ≡ false
other_names x names cs k n at slot number on unread = elim (cases_Bool (same_names names x)) [
  | inl t ↦ absurd (let no : false ≡ true = sym unread ∙ read_by x names cs k n at slot number on (same_sym names x t) in cc)
  | inr f ↦ f
]

-- a file by its name in a directory that changes elsewhere
both_apart : (n x y : Names) → same_names n x ≡ false → same_names x y ≡ true → same_names n y ≡ false
both_apart n x y apart is = elim (cases_Bool (same_names n y)) [
  | inl t ↦ absurd (let no : false ≡ true = sym apart ∙ same_both y n x (same_sym n y t) (same_sym x y is) in cc)
  | inr f ↦ f
]

first_kept : (n : Names) (b : Bool) (g : File) (fs gs : List File) → (b ≡ true → same_names n g.names ≡ false)
    → file_named n gs ≡ file_named n fs → file_named n (kept_file b g gs) ≡ cond (same_names n g.names) (Some g) (file_named n fs)
first_kept n true g fs gs apart h = h ∙ sym (ap (λ b. cond b (Some g) (file_named n fs)) (apart refl))
first_kept n false g fs gs apart h = ap (cond (same_names n g.names) (Some g)) h

named_without : (n x : Names) (fs : List File) → same_names n x ≡ false → file_named n (without_names x fs) ≡ file_named n fs
named_without n x [] apart = refl
named_without n x (g ∷ fs) apart =
    first_kept n (same_names x g.names) g fs (without_names x fs) (λ is. both_apart n x g.names apart is) (named_without n x fs apart)

first_changed : (n : Names) (h : File → File) (b : Bool) (g : File) (fs gs : List File)
    → (b ≡ true → (same_names n g.names ≡ false) × (same_names n (h g).names ≡ false)) → file_named n gs ≡ file_named n fs
    → file_named n (changed_if b g (h g) ∷ gs) ≡ cond (same_names n g.names) (Some g) (file_named n fs)
first_changed n h true g fs gs apart e =
    ap (λ b. cond b (Some (h g)) (file_named n gs)) (apart refl).1 ∙ e ∙ sym (ap (λ b. cond b (Some g) (file_named n fs)) (apart refl).0)
first_changed n h false g fs gs apart e = ap (cond (same_names n g.names) (Some g)) e

named_changed : (n x : Names) (h : File → File) (fs : List File) → same_names n x ≡ false
    → ((g : File) → same_names x g.names ≡ true → same_names n (h g).names ≡ false)
    → file_named n (with_changed x h fs) ≡ file_named n fs
named_changed n x h [] apart h' = refl
named_changed n x h (g ∷ fs) apart h' =
    first_changed n h (same_names x g.names) g fs (with_changed x h fs) (λ is. (both_apart n x g.names apart is, h' g is)) (named_changed n x h fs apart h')

named_behind : (n : Names) (f : File) (fs gs : List File) → file_named n fs ≡ Some f → file_named n (fs ++ gs) ≡ Some f
named_behind n f fs gs h = find-append (λ g. same_names n g.names) fs gs ∙ ap (λ o. option_or o (file_named n gs)) h

named_alike : (a b : Names) (fs : List File) → same_names a b ≡ true → file_named a fs ≡ file_named b fs
named_alike a b [] e = refl
named_alike a b (g ∷ fs) e = ap (λ t. cond t (Some g) (file_named a fs)) (same_self a b g.names e)
    ∙ ap (cond (same_names b g.names) (Some g)) (named_alike a b fs e)

-- names that no file has are others than those of a file
free_apart : (n x : Names) (f : File) (fs : List File) → file_named n fs ≡ Some f → has_file x fs ≡ false → same_names n x ≡ false
free_apart n x f fs there free = elim (cases_Bool (same_names n x)) [
  | inl t ↦ absurd (let no : false ≡ true = sym free ∙ ap is_some (sym (named_alike n x fs t) ∙ there) in cc)
  | inr e ↦ e
]

without_stays : (n x : Names) (fs : List File) → same_names n x ≡ false → file_named n (without_file x fs) ≡ file_named n fs
unfolding without_file
without_stays n x fs apart = named_without n x fs apart

renamed_stays : (n : Names) (d x y u v : ℕ) (fs : List File) → same_names n (names_of d x y) ≡ false → same_names n (names_of d u v) ≡ false
    → file_named n (with_new_names (names_of d x y) u v fs) ≡ file_named n fs
unfolding with_new_names
renamed_stays n d x y u v fs apart free = named_changed n (names_of d x y) _ fs apart (λ g is. free)

-- a step
pub file_stays : (m n : Machine) (j k i at : ℕ) (names : Names) (f : File) → k < slots → i < 16 → channel_in (m.jobs k) i ≡ Reads names at
    → FilesMay m n j → file_named names m.files ≡ Some f
    → file_named names n.files ≡ Some f
file_stays m n j k i at names f slot number on (files_same e) there = ap (file_named names) e ∙ there
file_stays m n j k i at names f slot number on (draft_closed c g is unread e) there =
    ap (file_named names) e
    ∙ closed_stays names g m.files f (other_names g.names names (channels_of m) k i at slot number on unread) there
  where
    closed_stays : (names : Names) (g : File) (fs : List File) (f : File) → same_names names g.names ≡ false → file_named names fs ≡ Some f
        → file_named names (with_file g fs) ≡ Some f
    closed_stays names g fs f apart there = named_behind names f (without_file g.names fs) (g ∷ []) (without_stays names g.names fs apart ∙ there)
file_stays m n j k i at names f slot number on (file_deleted x unread e) there =
    ap (file_named names) e ∙ without_stays names x m.files (other_names x names (channels_of m) k i at slot number on unread) ∙ there
file_stays m n j k i at names f slot number on (file_renamed d x y u v unread free e) there =
    ap (file_named names) e
    ∙ renamed_stays names d x y u v m.files (other_names (names_of d x y) names (channels_of m) k i at slot number on unread)
    (free_apart names (names_of d u v) f m.files there free) ∙ there

-- what a line leaves of a file
abbrev pub FileKept : Names → File → Result Machine Reason → Type 0
FileKept names f (Ok n) = file_named names n.files ≡ Some f
FileKept names f (Err r) = Unit {0}

-- a line
made_stays : (m : Machine) (x names : Names) (f : File) (there room : Bool) → file_named names m.files ≡ Some f
    → FileKept names f (with_file_made_if m x there room)
made_stays m x names f true room h = tt
made_stays m x names f false true h = named_behind names f m.files (record { names = x; words = [] } ∷ []) h
made_stays m x names f false false h = tt

pub file_made_stays : (m : Machine) (x names : Names) (f : File) → file_named names m.files ≡ Some f → FileKept names f (with_file_made m x)
unfolding with_file_made
file_made_stays m x names f h = made_stays m x names f (has_file x m.files) (nat_lt (length m.files) most_files) h

added_stays : (m : Machine) (x names : Names) (w : ℕ) (f : File) → same_names names x ≡ false → file_named names m.files ≡ Some f
    → FileKept names f (with_word_added m x w)
unfolding with_word_added
added_stays m x names w f apart h = go (file_named x m.files)
  where
    put : (full : Bool) → FileKept names f (with_word_added_if m x w full)
    put true = tt
    put false = named_changed names x (longer w) m.files apart (λ g is. both_apart names x g.names apart is) ∙ h

    go : (o : Option File) → FileKept names f (with_word_added_to m x w o)
    go (Some g) = put (is_full m.files (channels_of m) g.words)
    go None = tt

then_stays : (r : Result Machine Reason) (next : Machine → Result Machine Reason) (names : Names) (f : File) → FileKept names f r
    → ((n : Machine) → file_named names n.files ≡ Some f → FileKept names f (next n))
    → FileKept names f (and_then r next)
then_stays (Ok n) next names f h more = more n h
then_stays (Err r) next names f h more = tt

pub words_stay : (ws : List ℕ) (m : Machine) (x names : Names) (f : File) → same_names names x ≡ false → file_named names m.files ≡ Some f
    → FileKept names f (with_words_added m x ws)
words_stay [] m x names f apart h = h
words_stay (w ∷ ws) m x names f apart h =
    then_stays (with_word_added m x w) _ names f (added_stays m x names w f apart h) (λ n k. words_stay ws n x names f apart k)
