-- The cores of a pool, word by word and page by page.
use Rattle.std.specs.Prelude.{if◌then◌else◌, ◌≡◌, ◌<◌, ◌≤◌, ◌^◌, ℕ, ◌+◌, ◌-◌, ◌*◌, ◌/◌, ◌%◌, Bool, true, false, Option, Some, None, List, [], ◌∷◌, zero, suc, length, map, take, drop, slice_get, slice_index_or, is_some, refl}
use Rattle.std.proofs.Common.{sym, ◌∙◌, ap, inl, inr, arith}
use Rattle.std.proofs.lemmas.Bool.{cases_lt, lt-ltb, le-ltb}
use Rattle.std.proofs.lemmas.List.{get_or-take, get_or-drop, length-take, length-drop, length-map, get_or_past, get_or_append_left, get_or-append_right}
use Rattle.std.proofs.lemmas.Option.{slice_get-get_or}
use Rattle.its_word.specs.Core.{Page, present, page_of, word_in, stores_in, word_at, can_store, no_core}
use Rattle.its_word.specs.Limits.{slots}
use Rattle.its_word.proofs.CoreLaws.{in_accs, in_page, stores_acc, stores_page}
use Rattle.its_word.proofs.PageLaws.{can_store-no_core}
use Rattle.its_core.specs.declared.cores.Mapped.{Mapped}
use Rattle.its_core.specs.declared.cores.Held.{Held}
use Rattle.its_links.specs.Lists.{Linked, count, list_at}
use Rattle.its_core.specs.Cores.{core_at, reserved_at}
use Rattle.its_core.specs.Frames.{Listed, page_frame, reserved_frame, all_frames}
use Rattle.its_core.proofs.FrameLaws.{one_slot, one_page, not_both, one_reserved, page_below, reserved_below, page_not_free, reserved_not_free}
use Rattle.its_core.specs.Pool.{frames_now, frame_of, held_frame, frame_words, page_in, reserved_in, core_in, cores_in, frames_in, IsPool, all_places}
use Rattle.its_core.proofs.ListLaws.{length-frame_words, get_or-frame_words}
use Rattle.its_word.proofs.TableLaws.{get_or-table, get-table, get_or-table_past}

-- the core and the reserved page of a slot
pub core_at_is : (accs : List ℕ) (places : List (Option Mapped)) (held : List (Option Held)) (words : List ℕ) (links : Linked) (s : ℕ)
    → s < slots → core_at (cores_in accs places held words links) s ≡ core_in accs places words s
unfolding core_at cores_in
core_at_is accs places held words links s h = get_or-table slots (core_in accs places words) s no_core h

pub core_at_past : (accs : List ℕ) (places : List (Option Mapped)) (held : List (Option Held)) (words : List ℕ) (links : Linked) (s : ℕ)
    → slots ≤ s → core_at (cores_in accs places held words links) s ≡ no_core
unfolding core_at cores_in
core_at_past accs places held words links s h = get_or-table_past slots (core_in accs places words) s no_core h

pub get_or-map_none : {A B : Type 0} (f : Option A → Option B) → f None ≡ None → (xs : List (Option A)) (k : ℕ)
    → slice_index_or (map f xs) k None ≡ f (slice_index_or xs k None)
get_or-map_none f e [] k = sym e
get_or-map_none f e (x ∷ xs) zero = refl
get_or-map_none f e (x ∷ xs) (suc k) = get_or-map_none f e xs k

reserved_map : (words : List ℕ) (held : List (Option Held)) (s : ℕ)
    → slice_index_or (map (reserved_in words) held) s None ≡ reserved_in words (slice_index_or held s None)
reserved_map words [] s = refl
reserved_map words (h ∷ hs) zero = refl
reserved_map words (h ∷ hs) (suc s) = reserved_map words hs s

pub reserved_at_is : (accs : List ℕ) (places : List (Option Mapped)) (held : List (Option Held)) (words : List ℕ) (links : Linked) (s : ℕ)
    → reserved_at (cores_in accs places held words links) s ≡ reserved_in words (slice_index_or held s None)
unfolding reserved_at cores_in
reserved_at_is accs places held words links s = reserved_map words held s

-- a page, and a word of an accumulator, of a core
pub page_of_is : (accs : List ℕ) (places : List (Option Mapped)) (words : List ℕ) (s k : ℕ) → k < 256
    → page_of (core_in accs places words s) k ≡ page_in words (slice_index_or places (256 * s + k) None)
unfolding page_of core_in
page_of_is accs places words s k h =
    ap present (get-table 256 (λ j. page_in words (slice_index_or places (256 * s + j) None)) k h)
    ∙ there (page_in words (slice_index_or places (256 * s + k) None))
  where
    there : (p : Option Page) → present (Some p) ≡ p
    there (Some p) = refl
    there None = refl

accs_of_is : (accs : List ℕ) (places : List (Option Mapped)) (words : List ℕ) (s a d : ℕ) → 16 * s + 16 ≤ length accs → a < 16
    → slice_get (core_in accs places words s).accs a ≡ Some (slice_index_or accs (16 * s + a) d)
unfolding core_in
accs_of_is accs places words s a d h lt =
    let x = length-take 16 (drop (16 * s) accs) in
    let y = length-drop (16 * s) accs in
    slice_get-get_or (take 16 (drop (16 * s) accs)) a d (omega arith) ∙ ap Some (get_or-take 16 (drop (16 * s) accs) a d lt ∙ get_or-drop (16 * s) accs a d)

-- the frame of a page, and of a reserved page
pub frame_at_place : (places : List (Option Mapped)) (held : List (Option Held)) (p : ℕ) → p < length places
    → slice_index_or (frames_in places held) p None ≡ frame_of (slice_index_or places p None)
unfolding frames_in
frame_at_place places held p h =
    let l = length-map places frame_of in
    get_or_append_left (map frame_of places) (map held_frame held) None p (omega arith) ∙ get_or-map_none frame_of refl places p

pub frame_at_held : (places : List (Option Mapped)) (held : List (Option Held)) (s : ℕ) → length places ≡ all_places
    → slice_index_or (frames_in places held) (all_places + s) None ≡ held_frame (slice_index_or held s None)
unfolding frames_in
frame_at_held places held s h =
    let l = length-map places frame_of in
    get_or-append_right (map frame_of places) (map held_frame held) all_places (all_places + s) None (l ∙ h) (omega arith)
    ∙ ap (λ k. slice_index_or (map held_frame held) k None) (omega arith)
    ∙ get_or-map_none held_frame refl held s

module _ (accs : List ℕ) (places : List (Option Mapped)) (held : List (Option Held)) (words : List ℕ) (links : Linked) (mapped : ℕ)
    (pool : IsPool accs places held words links mapped) where
  -- the accumulators
  pub word_at_acc : (s a d : ℕ) → s < slots → a < 16 → word_at (core_at (cores_in accs places held words links) s) a ≡ Some
      (slice_index_or accs (16 * s + a) d)
  word_at_acc s a d lt h =
      let l = pool.accs_long in
      ap (λ c. word_at c a) (core_at_is accs places held words links s lt)
      ∙ in_accs (core_in accs places words s) a (lt-ltb a 16 h)
      ∙ accs_of_is accs places words s a d (omega arith) h

  pub can_store_acc : (s a : ℕ) → a < 16 → can_store (core_at (cores_in accs places held words links) s) a ≡ true
  can_store_acc s a h = elim (cases_lt s slots) [
    | inl lt ↦ let l = pool.accs_long in ap (λ c. can_store c a) (core_at_is accs places held words links s lt)
        ∙ stores_acc (core_in accs places words s) a (lt-ltb a 16 h) ∙ ap is_some (accs_of_is accs places words s a 0 (omega arith) h)
    | inr ge ↦ ap (λ c. can_store c a) (core_at_past accs places held words links s ge) ∙ can_store-no_core a h
  ]

  -- the frame of a page of a slot
  pub place_below : (p : ℕ) (m : Mapped) → slice_index_or places p None ≡ Some m → p < all_places
  place_below p m e = elim (cases_lt p all_places) [
    | inl lt ↦ lt
    | inr ge ↦ let l = pool.places_long in let n : slice_index_or places p None ≡ None = get_or_past places p None (omega arith) in cc
  ]

  pub place_frame : (p : ℕ) (m : Mapped) → slice_index_or places p None ≡ Some m → slice_index_or (frames_in places held) p None ≡ Some m.frame
  place_frame p m e =
      let l = pool.places_long in let b = place_below p m e in
      frame_at_place places held p (omega arith) ∙ ap frame_of e

  -- the frames as contracts see them
  page_frame_at : (p : ℕ) (m : Mapped) → slice_index_or places p None ≡ Some m
      → page_frame (frames_now places held links words) (p / 256) (p % 256) ≡ Some m.frame
  page_frame_at p m e = ap (λ i. slice_index_or (map frame_of places) i None) (omega arith) ∙ get_or-map_none frame_of refl places p ∙ ap frame_of e

  pub page_frame_is : (s k : ℕ) (m : Mapped) → slice_index_or places (256 * s + k) None ≡ Some m
      → page_frame (frames_now places held links words) s k ≡ Some m.frame
  page_frame_is s k m e = get_or-map_none frame_of refl places (256 * s + k) ∙ ap frame_of e

  pub page_frame_none : (s k : ℕ) → slice_index_or places (256 * s + k) None ≡ None → page_frame (frames_now places held links words) s k ≡ None
  page_frame_none s k e = get_or-map_none frame_of refl places (256 * s + k) ∙ ap frame_of e

  pub reserved_frame_is : (s : ℕ) (h : Held) → slice_index_or held s None ≡ Some h → reserved_frame (frames_now places held links words) s ≡ Some h.frame
  reserved_frame_is s h e = get_or-map_none held_frame refl held s ∙ ap held_frame e

  pub reserved_frame_none : (s : ℕ) → slice_index_or held s None ≡ None → reserved_frame (frames_now places held links words) s ≡ None
  reserved_frame_none s e = get_or-map_none held_frame refl held s ∙ ap held_frame e

  -- the frame of a place is that of a page, or of a reserved page
  in_pages : (p f : ℕ) → p < all_places → slice_index_or (frames_in places held) p None ≡ Some f
      → page_frame (frames_now places held links words) (p / 256) (p % 256) ≡ Some f
  in_pages p f lt e =
      let l = pool.places_long in
      ap (λ i. slice_index_or (map frame_of places) i None) (omega arith) ∙ get_or-map_none frame_of refl places p
      ∙ sym (frame_at_place places held p (omega arith)) ∙ e

  in_reserved : (p f : ℕ) → all_places ≤ p → slice_index_or (frames_in places held) p None ≡ Some f
      → reserved_frame (frames_now places held links words) (p - all_places) ≡ Some f
  in_reserved p f ge e =
      get_or-map_none held_frame refl held (p - all_places)
      ∙ sym (frame_at_held places held (p - all_places) pool.places_long)
      ∙ ap (λ i. slice_index_or (frames_in places held) i None) (omega arith)
      ∙ e

  -- each frame occurs at one place
  pub apart : (p q f : ℕ) → slice_index_or (frames_in places held) p None ≡ Some f → slice_index_or (frames_in places held) q None ≡ Some f → p ≡ q
  apart p q f e d = elim (cases_lt p all_places) [
    | inl lp ↦ elim (cases_lt q all_places) [
      | inl lq ↦
          let a = in_pages p f lp e in
          let b = in_pages q f lq d in
          let s = one_slot (frames_now places held links words) pool.listed (p / 256) (q / 256) (p % 256) (q % 256) f (omega arith)
          (omega arith) (omega arith) (omega arith) a b in
          let c : page_frame (frames_now places held links words) (p / 256) (q % 256) ≡ Some f =
          ap (λ i. page_frame (frames_now places held links words) i (q % 256)) s ∙ b in
          let k = one_page (frames_now places held links words) pool.listed (p / 256) (p % 256) (q % 256) f (omega arith) (omega arith) (omega arith) a c in
          omega arith
      | inr gq ↦ absurd (not_both (frames_now places held links words) pool.listed (p / 256) (p % 256) (q - all_places) f (omega arith)
          (omega arith) (in_pages p f lp e) (in_reserved q f gq d))
    ]
    | inr gp ↦ elim (cases_lt q all_places) [
      | inl lq ↦ absurd (not_both (frames_now places held links words) pool.listed (q / 256) (q % 256) (p - all_places) f (omega arith)
          (omega arith) (in_pages q f lq d) (in_reserved p f gp e))
      | inr gq ↦ let r = one_reserved (frames_now places held links words) pool.listed (p - all_places) (q - all_places) f
          (in_reserved p f gp e) (in_reserved q f gq d) in omega arith
    ]
  ]

  pub frame_below : (p : ℕ) (m : Mapped) → slice_index_or places p None ≡ Some m → m.frame < all_frames
  frame_below p m e =
      let b = place_below p m e in
      page_below (frames_now places held links words) pool.listed (p / 256) (p % 256) m.frame (omega arith) (omega arith) (page_frame_at p m e)

  -- the words of a frame in use are ready
  in_use : (x : ℕ) → x < all_frames → count x (list_at links.lists 0) ≡ 0 → 1024 * x + 1024 ≤ length words
  in_use x lt none = elim (cases_lt (length words) (1024 * x + 1024)) [
    | inl less ↦ let r = pool.ready x lt less in absurd (omega arith)
    | inr ge ↦ ge
  ]

  pub place_words : (p : ℕ) (m : Mapped) → slice_index_or places p None ≡ Some m → 1024 * m.frame + 1024 ≤ length words
  place_words p m e =
      let b = place_below p m e in
      in_use m.frame (frame_below p m e) (page_not_free (frames_now places held links words) pool.listed (p / 256) (p % 256) m.frame
      (omega arith) (omega arith) (page_frame_at p m e))

  -- for `grind`, which needs the call to fit
  pub word_below : (p : ℕ) (m : Mapped) (k : ℕ) → slice_index_or places p None ≡ Some m → k < 1024
      → (slice_index_or places p None ≡ slice_index_or places p None) × (1024 * m.frame + k < length words)
  word_below p m k e h = let b = place_words p m e in (refl, omega arith)

  pub held_frame_at : (s : ℕ) (h : Held) → slice_index_or held s None ≡ Some h → slice_index_or (frames_in places held) (all_places + s) None ≡ Some h.frame
  held_frame_at s h e = frame_at_held places held s pool.places_long ∙ ap held_frame e

  pub held_below : (s : ℕ) (h : Held) → slice_index_or held s None ≡ Some h → h.frame < all_frames
  held_below s h e = reserved_below (frames_now places held links words) pool.listed s h.frame (reserved_frame_is s h e)

  pub held_words : (s : ℕ) (h : Held) → slice_index_or held s None ≡ Some h → 1024 * h.frame + 1024 ≤ length words
  held_words s h e = in_use h.frame (held_below s h e) (reserved_not_free (frames_now places held links words) pool.listed s h.frame
      (reserved_frame_is s h e))

  -- the frames that contracts see
  pub listed_seen : Listed (cores_in accs places held words links).frames
  unfolding cores_in
  listed_seen = pool.listed

  -- a page
  pub page_at : (s k : ℕ) → s < slots → k < 256 → page_of (core_at (cores_in accs places held words links) s) k ≡ page_in words
      (slice_index_or places (256 * s + k) None)
  page_at s k lt h = ap (λ c. page_of c k) (core_at_is accs places held words links s lt) ∙ page_of_is accs places words s k h

  -- the word at an address of a page
  pub word_at_absent : (s a : ℕ) → s < slots → 16 ≤ a → a < 2 ^ 18 → slice_index_or places (256 * s + a / 1024) None ≡ None
      → word_at (core_at (cores_in accs places held words links) s) a ≡ None
  word_at_absent s a lt ge le e =
      in_page (core_at (cores_in accs places held words links) s) a (le-ltb a 16 ge)
      ∙ ap (λ p. word_in p (a % 1024)) (page_at s (a / 1024) lt (omega arith) ∙ ap (page_in words) e)

  word_of_frame : (f k d : ℕ) → 1024 * f + 1024 ≤ length words → k < 1024 → slice_get (frame_words words f) k ≡ Some (slice_index_or words (1024 * f + k) d)
  word_of_frame f k d long h =
      let n = length-frame_words words f long in
      slice_get-get_or (frame_words words f) k d (omega arith) ∙ ap Some (get_or-frame_words words f k d h)

  pub word_at_page : (s a d : ℕ) (m : Mapped) → s < slots → 16 ≤ a → a < 2 ^ 18 → slice_index_or places (256 * s + a / 1024) None ≡ Some m
      → word_at (core_at (cores_in accs places held words links) s) a ≡ Some (slice_index_or words (1024 * m.frame + a % 1024) d)
  word_at_page s a d m lt ge le e =
      in_page (core_at (cores_in accs places held words links) s) a (le-ltb a 16 ge)
      ∙ ap (λ p. word_in p (a % 1024)) (page_at s (a / 1024) lt (omega arith) ∙ ap (page_in words) e)
      ∙ word_of_frame m.frame (a % 1024) d (place_words (256 * s + a / 1024) m e) (omega arith)

  pub can_store_absent : (s a : ℕ) → s < slots → 16 ≤ a → a < 2 ^ 18 → slice_index_or places (256 * s + a / 1024) None ≡ None
      → can_store (core_at (cores_in accs places held words links) s) a ≡ false
  can_store_absent s a lt ge le e =
      stores_page (core_at (cores_in accs places held words links) s) a (le-ltb a 16 ge)
      ∙ ap (λ p. stores_in p (a % 1024)) (page_at s (a / 1024) lt (omega arith) ∙ ap (page_in words) e)

  pub can_store_page : (s a : ℕ) (m : Mapped) → s < slots → 16 ≤ a → a < 2 ^ 18 → slice_index_or places (256 * s + a / 1024) None ≡ Some m
      → can_store (core_at (cores_in accs places held words links) s) a ≡ m.writable
  can_store_page s a m lt ge le e =
      stores_page (core_at (cores_in accs places held words links) s) a (le-ltb a 16 ge)
      ∙ ap (λ p. stores_in p (a % 1024)) (page_at s (a / 1024) lt (omega arith) ∙ ap (page_in words) e)
      ∙ go m.writable (slice_get (frame_words words m.frame) (a % 1024))
      (word_of_frame m.frame (a % 1024) 0 (place_words (256 * s + a / 1024) m e) (omega arith))
    where
      go : (b : Bool) (o : Option ℕ) {w : ℕ} → o ≡ Some w → (if b then is_some o else false) ≡ b
      go true o e = ap is_some e
      go false o e = refl
