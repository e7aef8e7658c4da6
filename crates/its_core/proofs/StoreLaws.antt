-- A word stored in a pool is stored in one core.
use Rattle.std.specs.Prelude.{◌≡◌, ◌≢◌, ◌<◌, ◌≤◌, ◌^◌, ℕ, ◌+◌, ◌*◌, ◌/◌, ◌%◌, false, Option, Some, None, List, map, take, drop, slice_set, slice_index_or, Err, refl}
use Rattle.std.proofs.Common.{sym, ◌∙◌, ap, subst, inl, inr, arith, length-set}
use Rattle.std.proofs.lemmas.Bool.{cases_lt, lt-ltb, le-ltb}
use Rattle.std.proofs.lemmas.List.{get_or-set_other}
use Rattle.its_word.specs.Core.{Core, page_of, page_stored, store, pages_present, pages_mapped, put}
use Rattle.its_word.specs.declared.access.NoAccess.TheVariants.{ReadOnly}
use Rattle.its_word.specs.Limits.{slots}
use Rattle.its_word.specs.Only.{Only}
use Rattle.its_word.proofs.CoreLaws.{store_acc, store_page}
use Rattle.its_word.proofs.PageLaws.{pages_present-store, pages_mapped-only}
use Rattle.its_core.specs.declared.cores.Mapped.{Mapped}
use Rattle.its_core.specs.declared.cores.Held.{Held}
use Rattle.its_links.specs.Lists.{Linked}
use Rattle.its_core.specs.Cores.{Cores, core_at}
use Rattle.its_core.specs.Frames.{Listed}
use Rattle.its_core.specs.Pool.{frame_of, held_frame, page_in, reserved_in, core_in, cores_in, IsPool, IsClear, all_places}
use Rattle.its_core.proofs.ListLaws.{frame_words_set, frame_words_other, accs_set, accs_other, map_alike}
use Rattle.its_core.proofs.ReadLaws.{apart, core_at_is, core_at_past, page_of_is, place_frame, held_frame_at, place_below, can_store_page, word_at_page}
use Rattle.its_word.specs.Table.{table}
use Rattle.its_word.proofs.TableLaws.{table_alike, table_set}

-- cores of two pools that are alike except for one slot
pub only_in : (accs brrs : List ℕ) (places qlaces : List (Option Mapped)) (held gelt : List (Option Held)) (words vords : List ℕ)
    (links minks : Linked) (s : ℕ) (x : Core) → s < slots
    → core_in brrs qlaces vords s ≡ x
    → ((t : ℕ) → t ≢ s → core_in brrs qlaces vords t ≡ core_in accs places words t)
    → Only (core_at (cores_in accs places held words links)) (core_at (cores_in brrs qlaces gelt vords minks)) s x
only_in accs brrs places qlaces held gelt words vords links minks s x h here others = record {
  here = core_at_is brrs qlaces gelt vords minks s h ∙ here;
  others = λ t ne. elim (cases_lt t slots) [
    | inl lt ↦ core_at_is brrs qlaces gelt vords minks t lt ∙ others t ne ∙ sym (core_at_is accs places held words links t lt)
    | inr ge ↦ core_at_past brrs qlaces gelt vords minks t ge ∙ sym (core_at_past accs places held words links t ge)
  ];
}

-- an accumulator
acc_here : (accs : List ℕ) (places : List (Option Mapped)) (words : List ℕ) (s a w : ℕ) → a < 16
    → core_in (slice_set accs (16 * s + a) w) places words s ≡ store (core_in accs places words s) a w
unfolding core_in
acc_here accs places words s a w h =
    ap (λ xs. record { accs = xs; pages = table 256 (λ k. page_in words (slice_index_or places (256 * s + k) None)) }) (accs_set accs s a w)
    ∙ sym (store_acc (core_in accs places words s) a w (lt-ltb a 16 h))

acc_others : (accs : List ℕ) (places : List (Option Mapped)) (words : List ℕ) (s t a w : ℕ) → a < 16 → t ≢ s
    → core_in (slice_set accs (16 * s + a) w) places words t ≡ core_in accs places words t
unfolding core_in
acc_others accs places words s t a w h ne =
    ap (λ xs. record { accs = xs; pages = table 256 (λ k. page_in words (slice_index_or places (256 * t + k) None)) }) (accs_other accs s t a w h ne)

module _ (accs : List ℕ) (places : List (Option Mapped)) (held : List (Option Held)) (words : List ℕ) (links : Linked) (mapped : ℕ)
    (pool : IsPool accs places held words links mapped) where
  pub acc_only : (s a w : ℕ) → s < slots → a < 16 → Only (core_at (cores_in accs places held words links))
      (core_at (cores_in (slice_set accs (16 * s + a) w) places held words links)) s (store (core_at (cores_in accs places held words links) s) a w)
  acc_only s a w lt h =
      only_in accs (slice_set accs (16 * s + a) w) places places held held words words links links s _ lt
      (acc_here accs places words s a w h ∙ ap (λ c. store c a w) (sym (core_at_is accs places held words links s lt)))
      (λ t ne. acc_others accs places words s t a w h ne)

  -- the number of pages stays if one core has as many as before
  pub number_only : (m : Cores) (s : ℕ) (x : Core) → s < slots → Only (core_at (cores_in accs places held words links)) (core_at m) s x
      → pages_present x ≡ pages_present (core_at (cores_in accs places held words links) s) → mapped ≡ pages_mapped (core_at m)
  number_only m s x lt o e =
      let n = pages_mapped-only (core_at (cores_in accs places held words links)) (core_at m) s x o lt in
      let p = pool.number in
      omega arith

  pub acc_pool : (s a w : ℕ) → s < slots → a < 16 → IsPool (slice_set accs (16 * s + a) w) places held words links mapped
  acc_pool s a w lt h = record {
    accs_long = length-set accs (16 * s + a) w ∙ pool.accs_long;
    places_long = pool.places_long;
    held_long = pool.held_long;
    ready = pool.ready;
    nodes = pool.nodes;
    heads = pool.heads;
    listed = pool.listed;
    rows = pool.rows;
    clear = pool.clear;
    most = pool.most;
    count = pool.count;
    number = number_only (cores_in (slice_set accs (16 * s + a) w) places held words links) s _ lt (acc_only s a w lt h) (pages_present-store _ a w);
  }

  -- a word of a page: other pages, and reserved pages, are as before
  page_alike : (p q k w : ℕ) (m : Mapped) → slice_index_or places p None ≡ Some m → k < 1024 → q ≢ p
      → page_in (slice_set words (1024 * m.frame + k) w) (slice_index_or places q None) ≡ page_in words (slice_index_or places q None)
  page_alike p q k w m e h ne = go (slice_index_or places q None) refl
    where
      go : (o : Option Mapped) → slice_index_or places q None ≡ o → page_in (slice_set words (1024 * m.frame + k) w) o ≡ page_in words o
      go None r = refl
      go (Some n) r =
          ap (λ ws. Some (record { words = ws; writable = n.writable }))
          (frame_words_other words m.frame n.frame k w h (λ same. ne
          (apart accs places held words links mapped pool q p m.frame
          (place_frame accs places held words links mapped pool q n r ∙ ap Some same) (place_frame accs places held words links mapped pool p m e))))

  reserved_alike : (p s k w : ℕ) (m : Mapped) → slice_index_or places p None ≡ Some m → k < 1024
      → reserved_in (slice_set words (1024 * m.frame + k) w) (slice_index_or held s None) ≡ reserved_in words (slice_index_or held s None)
  reserved_alike p s k w m e h = go (slice_index_or held s None) refl
    where
      go : (o : Option Held) → slice_index_or held s None ≡ o → reserved_in (slice_set words (1024 * m.frame + k) w) o ≡ reserved_in words o
      go None r = refl
      go (Some n) r =
          ap (λ ws. Some (record { clear = n.clear; words = ws }))
          (frame_words_other words m.frame n.frame k w h (λ same.
          let b = place_below accs places held words links mapped pool p m e in
          let x = apart accs places held words links mapped pool (all_places + s) p m.frame
          (held_frame_at accs places held words links mapped pool s n r ∙ ap Some same) (place_frame accs places held words links mapped pool p m e) in
          omega arith))

  pub page_reserved : (p k w : ℕ) (m : Mapped) → slice_index_or places p None ≡ Some m → k < 1024
      → (cores_in accs places held (slice_set words (1024 * m.frame + k) w) links).reserved ≡ (cores_in accs places held words links).reserved
  unfolding cores_in
  page_reserved p k w m e h = map_alike (reserved_in words) (reserved_in (slice_set words (1024 * m.frame + k) w)) held None
      (λ s lt. reserved_alike p s k w m e h)

  page_stored_is : (s a w : ℕ) (m : Mapped) → a < 2 ^ 18 → slice_index_or places (256 * s + a / 1024) None ≡ Some m
      → page_in (slice_set words (1024 * m.frame + a % 1024) w) (slice_index_or places (256 * s + a / 1024) None) ≡ page_stored
      (page_of (core_in accs places words s) (a / 1024)) (a % 1024) w
  page_stored_is s a w m lt e =
      ap (page_in (slice_set words (1024 * m.frame + a % 1024) w)) e
      ∙ ap (λ ws. Some (record { words = ws; writable = m.writable })) (frame_words_set words m.frame (a % 1024) w)
      ∙ sym (ap (λ p. page_stored p (a % 1024) w) (page_of_is accs places words s (a / 1024) (omega arith) ∙ ap (page_in words) e))

  page_pages : (s a w : ℕ) (m : Mapped) → a < 2 ^ 18 → slice_index_or places (256 * s + a / 1024) None ≡ Some m
      → (core_in accs places (slice_set words (1024 * m.frame + a % 1024) w) s).pages ≡ slice_set (core_in accs places words s).pages
      (a / 1024) (page_stored (page_of (core_in accs places words s) (a / 1024)) (a % 1024) w)
  unfolding core_in
  page_pages s a w m lt e =
      table_set 256 (λ k. page_in words (slice_index_or places (256 * s + k) None))
      (λ k. page_in (slice_set words (1024 * m.frame + a % 1024) w) (slice_index_or places (256 * s + k) None)) (a / 1024) _ (omega arith)
      (page_stored_is s a w m lt e)
      (λ k h ne. page_alike (256 * s + a / 1024) (256 * s + k) (a % 1024) w m e (omega arith) (λ same. ne (omega arith)))

  page_accs : (s i w : ℕ) → (core_in accs places (slice_set words i w) s).accs ≡ (core_in accs places words s).accs
  unfolding core_in
  page_accs s i w = refl

  page_here : (s a w : ℕ) (m : Mapped) → 16 ≤ a → a < 2 ^ 18 → slice_index_or places (256 * s + a / 1024) None ≡ Some m
      → core_in accs places (slice_set words (1024 * m.frame + a % 1024) w) s ≡ store (core_in accs places words s) a w
  page_here s a w m ge lt e =
      let x = page_accs s (1024 * m.frame + a % 1024) w in
      let y = page_pages s a w m lt e in
      (λ i. record { accs = x i; pages = y i }) ∙ sym (store_page (core_in accs places words s) a w (le-ltb a 16 ge))

  page_others : (s t a w : ℕ) (m : Mapped) → a < 2 ^ 18 → slice_index_or places (256 * s + a / 1024) None ≡ Some m → t ≢ s
      → core_in accs places (slice_set words (1024 * m.frame + a % 1024) w) t ≡ core_in accs places words t
  unfolding core_in
  page_others s t a w m lt e ne =
      ap (λ ps. record { accs = take 16 (drop (16 * t) accs); pages = ps })
      (table_alike 256 (λ k. page_in words (slice_index_or places (256 * t + k) None))
      (λ k. page_in (slice_set words (1024 * m.frame + a % 1024) w) (slice_index_or places (256 * t + k) None))
      (λ k h. page_alike (256 * s + a / 1024) (256 * t + k) (a % 1024) w m e (omega arith) (λ same. ne (omega arith))))

  pub page_only : (s a w : ℕ) (m : Mapped) → s < slots → 16 ≤ a → a < 2 ^ 18 → slice_index_or places (256 * s + a / 1024) None ≡ Some m
      → Only (core_at (cores_in accs places held words links))
      (core_at (cores_in accs places held (slice_set words (1024 * m.frame + a % 1024) w) links)) s
      (store (core_at (cores_in accs places held words links) s) a w)
  page_only s a w m lt ge le e =
      only_in accs accs places places held held words (slice_set words (1024 * m.frame + a % 1024) w) links links s _ lt
      (page_here s a w m ge le e ∙ ap (λ c. store c a w) (sym (core_at_is accs places held words links s lt)))
      (λ t ne. page_others s t a w m le e ne)

  clear_alike : (p i k w : ℕ) (m : Mapped) (h : Held) → slice_index_or places p None ≡ Some m → k < 1024
      → slice_index_or held i None ≡ Some h → IsClear words h → IsClear (slice_set words (1024 * m.frame + k) w) h
  clear_alike p i k w m h e lt r c = record {
    most = c.most;
    zeros = λ j less.
        let b = place_below accs places held words links mapped pool p m e in
        let most = c.most in
        let apart : h.frame ≢ m.frame = λ same.
        let x = apart accs places held words links mapped pool (all_places + i) p m.frame
        (held_frame_at accs places held words links mapped pool i h r ∙ ap Some same) (place_frame accs places held words links mapped pool p m e) in
        omega arith in
        get_or-set_other words (1024 * m.frame + k) (1024 * h.frame + j) w 0 (λ same. apart (omega arith)) ∙ c.zeros j less;
  }

  pub page_pool : (s a w : ℕ) (m : Mapped) → s < slots → 16 ≤ a → a < 2 ^ 18 → slice_index_or places (256 * s + a / 1024) None ≡ Some m
      → IsPool accs places held (slice_set words (1024 * m.frame + a % 1024) w) links mapped
  page_pool s a w m lt ge le e = record {
    accs_long = pool.accs_long;
    places_long = pool.places_long;
    held_long = pool.held_long;
    ready = λ x below less. let l = length-set words (1024 * m.frame + a % 1024) w in pool.ready x below (omega arith);
    nodes = pool.nodes;
    heads = pool.heads;
    listed = subst (λ n. Listed (record { lists = links.lists; pages = map frame_of places; reserved = map held_frame held; ready = n }))
        (sym (length-set words (1024 * m.frame + a % 1024) w)) pool.listed;
    rows = pool.rows;
    clear = λ i h r. clear_alike (256 * s + a / 1024) i (a % 1024) w m h e (omega arith) r (pool.clear i h r);
    most = pool.most;
    count = pool.count;
    number = number_only (cores_in accs places held (slice_set words (1024 * m.frame + a % 1024) w) links) s _ lt
        (page_only s a w m lt ge le e) (pages_present-store _ a w);
  }

  pub acc_reserved : (i w : ℕ) → (cores_in (slice_set accs i w) places held words links).reserved ≡ (cores_in accs places held words links).reserved
  unfolding cores_in
  acc_reserved i w = refl

  pub refused_read_only : (s a w : ℕ) (m : Mapped) → s < slots → 16 ≤ a → a < 2 ^ 18
      → slice_index_or places (256 * s + a / 1024) None ≡ Some m → m.writable ≡ false
      → put (core_at (cores_in accs places held words links) s) a w ≡ Err ReadOnly
  refused_read_only s a w m lt ge le e f =
      let x = can_store_page accs places held words links mapped pool s a m lt ge le e ∙ f in
      let y = word_at_page accs places held words links mapped pool s a 0 m lt ge le e in
      rw (x, y) refl

  -- the frames stay
  pub acc_frames : (i w : ℕ) → (cores_in (slice_set accs i w) places held words links).frames ≡ (cores_in accs places held words links).frames
  unfolding cores_in
  acc_frames i w = refl

  pub word_frames : (i w : ℕ) → (cores_in accs places held (slice_set words i w) links).frames ≡ (cores_in accs places held words links).frames
  unfolding cores_in
  word_frames i w = ap (λ n. record { lists = links.lists; pages = map frame_of places; reserved = map held_frame held; ready = n }) (length-set words i w)
