-- A slot's core past its last page and address, and how many pages it has.
use Rattle.std.specs.Prelude.{◌≡◌, ◌<◌, ◌≤◌, ◌^◌, ℕ, zero, suc, ◌+◌, ◌*◌, ◌/◌, ◌%◌, false, Option, Some, None, List, [], ◌∷◌, length, map, take, drop, slice_index_or, is_some, count_by, cond, refl}
use Rattle.std.proofs.Common.{sym, ◌∙◌, ap, arith, inl, inr, subst}
use Rattle.std.proofs.lemmas.Bool.{cases_lt, le-ltb}
use Rattle.std.proofs.lemmas.List.{ext_get_or, get_or-take, get_or-drop, length-take, length-drop, length-map}
use Rattle.std.proofs.lemmas.List.Sums.{sum_by-cons}
use Rattle.std.proofs.lemmas.Option.{slice_get_past, same_Some}
use Rattle.its_word.specs.Core.{IsWhole, Page, present, page_of, word_in, stores_in, word_at, can_store, pages_present}
use Rattle.its_word.specs.Limits.{slots}
use Rattle.its_word.proofs.CoreLaws.{in_page, stores_page}
use Rattle.its_core.specs.declared.cores.Mapped.{Mapped}
use Rattle.its_core.specs.declared.cores.Held.{Held}
use Rattle.its_core.specs.Cores.{core_at}
use Rattle.its_links.specs.Lists.{Linked}
use Rattle.its_core.specs.Pool.{frame_words, page_in, core_in, cores_in, IsPool}
use Rattle.its_core.proofs.ListLaws.{length-frame_words}
use Rattle.its_core.proofs.ReadLaws.{core_at_is, page_of_is, place_words}
use Rattle.its_word.specs.Table.{table}
use Rattle.its_word.proofs.TableLaws.{length-table, get_or-table}

page_past : (accs : List ℕ) (places : List (Option Mapped)) (words : List ℕ) (s k : ℕ) → 256 ≤ k → page_of (core_in accs places words s) k ≡ None
unfolding page_of core_in
page_past accs places words s k h =
    let f : ℕ → Option Page = λ j. page_in words (slice_index_or places (256 * s + j) None) in
    let l = length-table 256 f in
    ap present (slice_get_past (table 256 f) k (omega arith))

-- past the last address nothing is there
pub word_past : (accs : List ℕ) (places : List (Option Mapped)) (held : List (Option Held)) (words : List ℕ) (lists : Linked) (s a : ℕ)
    → s < slots → 2 ^ 18 ≤ a
    → word_at (core_at (cores_in accs places held words lists) s) a ≡ None
word_past accs places held words lists s a lt h =
    in_page (core_at (cores_in accs places held words lists) s) a (le-ltb a 16 (omega arith))
    ∙ ap (λ c. word_in (page_of c (a / 1024)) (a % 1024)) (core_at_is accs places held words lists s lt)
    ∙ ap (λ p. word_in p (a % 1024)) (page_past accs places words s (a / 1024) (omega arith))

pub store_past : (accs : List ℕ) (places : List (Option Mapped)) (held : List (Option Held)) (words : List ℕ) (lists : Linked) (s a : ℕ)
    → s < slots → 2 ^ 18 ≤ a
    → can_store (core_at (cores_in accs places held words lists) s) a ≡ false
store_past accs places held words lists s a lt h =
    stores_page (core_at (cores_in accs places held words lists) s) a (le-ltb a 16 (omega arith))
    ∙ ap (λ c. stores_in (page_of c (a / 1024)) (a % 1024)) (core_at_is accs places held words lists s lt)
    ∙ ap (λ p. stores_in p (a % 1024)) (page_past accs places words s (a / 1024) (omega arith))

-- a slot's pages are present if the map has a frame
is_some-page_in : (words : List ℕ) (o : Option Mapped) → is_some (page_in words o) ≡ is_some o
is_some-page_in words (Some m) = refl
is_some-page_in words None = refl

pub count_pages : (words : List ℕ) (xs : List (Option Mapped)) → count_by is_some (map (page_in words) xs) ≡ count_by is_some xs
count_pages words [] = refl
count_pages words (x ∷ xs) =
    sum_by-cons (λ o. cond (is_some o) 1 0) (page_in words x) (map (page_in words) xs)
    ∙ rw (is_some-page_in words x, count_pages words xs) (sym (sum_by-cons (λ o. cond (is_some o) 1 0) x xs))

get_or-pages : (words : List ℕ) (xs : List (Option Mapped)) (k : ℕ)
    → slice_index_or (map (page_in words) xs) k None ≡ page_in words (slice_index_or xs k None)
get_or-pages words [] k = refl
get_or-pages words (x ∷ xs) zero = refl
get_or-pages words (x ∷ xs) (suc k) = get_or-pages words xs k

pages_are : (accs : List ℕ) (places : List (Option Mapped)) (words : List ℕ) (s : ℕ) → 256 * s + 256 ≤ length places
    → (core_in accs places words s).pages ≡ map (page_in words) (take 256 (drop (256 * s) places))
unfolding core_in
pages_are accs places words s h =
    let f : ℕ → Option Page = λ j. page_in words (slice_index_or places (256 * s + j) None) in
    let xs : List (Option Mapped) = take 256 (drop (256 * s) places) in
    let a = length-table 256 f in
    let b = length-take 256 (drop (256 * s) places) in
    let c = length-drop (256 * s) places in
    let d = length-map xs (page_in words) in
    ext_get_or None (table 256 f) (map (page_in words) xs) (omega arith)
    (λ k lt. let i : k < 256 = omega arith in
    get_or-table 256 f k None i
    ∙ ap (page_in words) (sym (get_or-take 256 (drop (256 * s) places) k None i ∙ get_or-drop (256 * s) places k None))
    ∙ sym (get_or-pages words xs k))

pub pages_whole : (accs : List ℕ) (places : List (Option Mapped)) (words : List ℕ) (s : ℕ) → length (core_in accs places words s).pages ≡ 256
unfolding core_in
pages_whole accs places words s = length-table 256 (λ k. page_in words (slice_index_or places (256 * s + k) None))

module _ (accs : List ℕ) (places : List (Option Mapped)) (held : List (Option Held)) (words : List ℕ) (lists : Linked) (mapped : ℕ)
    (pool : IsPool accs places held words lists mapped) where
  number : (s : ℕ) → s < slots → pages_present (core_at (cores_in accs places held words lists) s) ≡ count_by is_some (take 256 (drop (256 * s) places))
  unfolding pages_present
  number s lt =
      let l = pool.places_long in
      ap (λ c. count_by is_some c.pages) (core_at_is accs places held words lists s lt)
      ∙ ap (count_by is_some) (pages_are accs places words s (omega arith))
      ∙ count_pages words (take 256 (drop (256 * s) places))

  pub pages_number : (s a n : ℕ) → s < slots → a ≡ 256 * s → n ≡ 256
      → count_by is_some (take n (drop a places)) ≡ pages_present (core_at (cores_in accs places held words lists) s)
  unfolding pages_present
  pages_number s a n lt e f =
      rw (e, f) (sym (number s lt))

  -- the core of a slot is whole
  accs_whole : (s : ℕ) → s < slots → length (core_in accs places words s).accs ≡ 16
  unfolding core_in
  accs_whole s lt =
      let l = pool.accs_long in
      let a = length-take 16 (drop (16 * s) accs) in
      let b = length-drop (16 * s) accs in
      omega arith

  page_whole : (i : ℕ) (p : Page) → page_in words (slice_index_or places i None) ≡ Some p → length p.words ≡ 1024
  page_whole i p h = go (slice_index_or places i None) refl h
    where
      go : (o : Option Mapped) → slice_index_or places i None ≡ o → page_in words o ≡ Some p → length p.words ≡ 1024
      go None e r = cc
      go (Some m) e r =
          ap (λ q. length q.words) (sym (same_Some (record { words = frame_words words m.frame; writable = m.writable }) p r))
          ∙ length-frame_words words m.frame (place_words accs places held words lists mapped pool i m e)

  pub whole_core : (s : ℕ) → s < slots → IsWhole (core_at (cores_in accs places held words lists) s)
  whole_core s lt = subst IsWhole (sym (core_at_is accs places held words lists s lt)) (record {
    accs = accs_whole s lt;
    pages = pages_whole accs places words s;
    words = λ k p e. elim (cases_lt k 256) [
      | inl less ↦ page_whole (256 * s + k) p (sym (page_of_is accs places words s k less) ∙ e)
      | inr ge ↦ let none = page_past accs places words s k ge in cc
    ];
  })
