-- The files of a store differ in their names; they are few, and so are the blocks in use; and a
-- channel that reads is on a file that there is.
use Rattle.std.specs.Prelude.{◌≡◌, ◌≢◌, ◌≤◌, ◌<◌, ℕ, ◌+◌, Bool, true, false, None, is_some, List, [], ◌∷◌, ◌++◌, length, map, refl}
use Rattle.std.proofs.Common.{sym, ◌∙◌, ap, subst, arith, append_assoc, inl, inr}
use Rattle.std.proofs.lemmas.Bool.{cases_Bool}
use Rattle.std.proofs.lemmas.List.{length-map, map-append}
use Rattle.its_word.specs.Directory.{same_names}
use Rattle.its_records.specs.declared.jobs.Channel.{Channel}
use Rattle.its_records.specs.declared.jobs.Channel.TheVariants.{Reading}
use Rattle.its_links.specs.Lists.{count, hit}
use Rattle.its_links.proofs.CountLaws.{count-append, hit_same}
use Rattle.its_jobs.specs.Table.{Table}
use Rattle.its_files.specs.Blocks.{blocks_used as stored_blocks, blocks}
use Rattle.its_files.specs.Files.{Store, IsStore, entry_at, is_file, names_at, file_at, directory, one_if}
use Rattle.its_plain.specs.Machine.{Names, Machine, Reads}
use Rattle.its_plain.specs.Call.File.{most_files, most_blocks, blocks_used, blocks_of_files, has_file}
use Rattle.its_plain.specs.Operator.Files.{channels_of}
use Rattle.its_shared.specs.Across.{Across, channel_at}
use Rattle.its_shared.specs.Channels.{Shows}
use Rattle.its_shared.specs.Parts.{chan_of}
use Rattle.its_shared.proofs.RoomLaws.{drafts_on, used_are}
use Rattle.its_shared.proofs.StandLaws.{reading_file}
use Rattle.its_shared.proofs.StoreLaws.{found_self, has_named}
use Rattle.its_saved.specs.WellFormed.{AllApart, NoneNamed}

file_of : (n : ℕ) (b : Bool) → n ≡ one_if b → 0 < n → b ≡ true
file_of n true e l = refl
file_of n false e l = absurd (omega arith)

one_few : (b : Bool) → one_if b ≤ 1
one_few true = omega arith
one_few false = omega arith

module _ (s : Store) (whole : IsStore s) where
  named_apart : (id x : ℕ) → id ≢ x → is_file (entry_at s id) ≡ true → is_file (entry_at s x) ≡ true → same_names (names_at s id) (names_at s x) ≡ false
  named_apart id x ne f g = elim (cases_Bool (same_names (names_at s id) (names_at s x))) [
    | inl t ↦ absurd (ne (whole.unique id x f g t))
    | inr t ↦ t
  ]

  none_named : (n : Names) (ids : List ℕ) → ((x : ℕ) → 0 < count x ids → same_names n (names_at s x) ≡ false) → NoneNamed n (map (file_at s) ids)
  none_named n [] h = tt
  none_named n (x ∷ xs) h = (h x (let e = hit_same x in omega arith), none_named n xs (λ y l. h y (omega arith)))

  -- these numbers are those of files, each once
  abbrev Each : List ℕ → Type 0
  Each ids = (id : ℕ) → count id ids ≡ one_if (is_file (entry_at s id))

  before : (ids later : List ℕ) (id x : ℕ) → Each (ids ++ id ∷ later) → 0 < count x ids → same_names (names_at s id) (names_at s x) ≡ false
  before ids later id x h l =
      let a : count x (ids ++ id ∷ later) ≡ count x ids + (hit x id + count x later) = count-append x ids (id ∷ later) in
      let b : count id (ids ++ id ∷ later) ≡ count id ids + (hit id id + count id later) = count-append id ids (id ∷ later) in
      let e = hit_same id in
      let f = file_of (count x (ids ++ id ∷ later)) (is_file (entry_at s x)) (h x) (omega arith) in
      let g = file_of (count id (ids ++ id ∷ later)) (is_file (entry_at s id)) (h id) (omega arith) in
      let o = one_few (is_file (entry_at s id)) in
      let w = h id in
      named_apart id x (λ same. let c : count id ids ≡ count x ids = ap (λ k. count k ids) same in omega arith) g f

  all_apart : (ids later : List ℕ) → Each (ids ++ later) → AllApart (map (file_at s) ids) (map (file_at s) later)
  all_apart ids [] h = tt
  all_apart ids (id ∷ later) h = (
    none_named (names_at s id) ids (λ x l. before ids later id x h l),
    subst (λ fs. AllApart fs (map (file_at s) later)) (map-append (file_at s) ids (id ∷ []))
        (all_apart (ids ++ id ∷ []) later (λ k. ap (λ l. count k l) (append_assoc ids (id ∷ []) later) ∙ h k)),
  )

  pub files_apart : AllApart [] (directory s)
  files_apart = all_apart [] s.order whole.listed

  pub files_few : length (directory s) ≤ most_files
  files_few = let l = length-map s.order (file_at s) in let f = whole.few in omega arith

  -- the blocks of the machine's files and drafts
  module _ (m : Machine) (t : Table) (shows : Shows m s t) (across : Across s t) where
    pub blocks_few : s.mark ≡ None → stored_blocks s.stored ≤ blocks → blocks_used m.files (channels_of m) ≤ most_blocks
    blocks_few unmarked room = subst (λ n. n ≤ most_blocks)
        (used_are s whole unmarked ∙ ap (λ n. blocks_of_files (directory s) + n) (sym (drafts_on s whole unmarked t across))
        ∙ sym (λ i. blocks_used (shows.files i) (shows.chans i))) room

    reads_by : (k n at : ℕ) (names : Names) (c : Channel) → channel_at t k n ≡ c → chan_of s c ≡ Reads names at → has_file names (directory s) ≡ true
    reads_by k n at names (Reading f x) is e =
        let same : names_at s f ≡ names = cc in
        ap (λ (y : Names). has_file y (directory s)) (sym same) ∙ has_named s (names_at s f)
        ∙ ap is_some (found_self s whole f (reading_file s t across k n f x is))
    reads_by k n at names _ is e = cc

    pub read_stands : (k n at : ℕ) (names : Names) → chan_of s (channel_at t k n) ≡ Reads names at → has_file names m.files ≡ true
    read_stands k n at names e = ap (has_file names) shows.files ∙ reads_by k n at names (channel_at t k n) refl e
