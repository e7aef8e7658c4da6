-- A page that a slot reserves, clears, or gives back.
use Rattle.std.specs.Prelude.{◌≡◌, ◌≢◌, ◌<◌, ◌≤◌, ℕ, ◌+◌, ◌-◌, ◌*◌, ◌==◌, true, false, Option, Some, None, List, [], ◌∷◌, ◌++◌, max, length, map, take, drop, replicate, slice_set, slice_index_or, is_some, count_by, option_map, refl}
use Rattle.std.proofs.Common.{sym, ◌∙◌, ap, inl, inr, arith, length-set, subst}
use Rattle.std.proofs.Math.Nat.{le-max_right}
use Rattle.std.proofs.lemmas.Bool.{cases_lt, cases_eq, cond-true, cond-false, eq-eqb, ne_eqb}
use Rattle.std.proofs.lemmas.List.{get_or-set_same, get_or-set_other, set-get_or, map-set, length-map, length_push, length-append, length-replicate}
use Rattle.std.proofs.lemmas.Option.{same_Some}
use Rattle.its_word.specs.Core.{no_core, pages_mapped}
use Rattle.its_word.specs.Limits.{slots}
use Rattle.its_word.specs.Only.{Only}
use Rattle.its_core.specs.declared.cores.Mapped.{Mapped}
use Rattle.its_core.specs.declared.cores.Held.{Held}
use Rattle.its_links.specs.Lists.{Linked, count, list_at, first, rest}
use Rattle.its_links.proofs.CountLaws.{count-append, count_first, hit_same, hit_other}
use Rattle.its_core.specs.Frames.{Listed, all_frames, as_list, free, ready_with, frames_reserve, frames_give_back}
use Rattle.its_core.specs.Cores.{Cores, Reserved, core_at, reserved_at, clear_at, clear_with, cleared, zeroed}
use Rattle.its_core.specs.Pool.{frame_of, held_frame, frame_words, page_in, reserved_in, core_in, cores_in, frames_now, IsPool, IsClear, all_places}
use Rattle.its_core.proofs.ListLaws.{frame_words_more, frame_words_zeroed, frame_words_zeroed_other, get_or-frame_words, zero_stays, get_or-zeroed, length-zeroed}
use Rattle.its_core.proofs.FrameLaws.{count_missing, count_set, free_below, reserve_listed, give_back_listed}
use Rattle.its_core.proofs.ReadLaws.{apart, reserved_frame_is, reserved_frame_none, reserved_at_is, held_frame_at, held_words, place_frame, place_below, place_words}
use Rattle.its_word.proofs.TableLaws.{table_alike}

-- the number of quarters that are clear follows the reserved pages
pub clear_only : (old new : Cores) (s : ℕ) (o : Option Reserved) → Only (reserved_at old) (reserved_at new) s o
    → Only (clear_at old) (clear_at new) s (option_map (λ r. r.clear) o)
clear_only old new s o h = record { here = ap (option_map (λ r. r.clear)) h.here; others = λ k ne. ap (option_map (λ r. r.clear)) (h.others k ne) }

pub cleared_clear : (q : ℕ) (o : Option Reserved) → option_map (λ r. r.clear) (option_map (cleared q) o) ≡ option_map (clear_with q)
    (option_map (λ r. r.clear) o)
cleared_clear q None = refl
cleared_clear q (Some r) = refl

-- the cores, and so the number of pages, do not depend on the reserved pages
pub held_cores : (accs : List ℕ) (places : List (Option Mapped)) (held gelt : List (Option Held)) (words : List ℕ) (links minks : Linked)
    → (cores_in accs places gelt words minks).cores ≡ (cores_in accs places held words links).cores
unfolding cores_in
held_cores accs places held gelt words links minks = refl

held_number : (accs : List ℕ) (places : List (Option Mapped)) (held gelt : List (Option Held)) (words : List ℕ) (links minks : Linked)
    → pages_mapped (core_at (cores_in accs places gelt words minks)) ≡ pages_mapped (core_at (cores_in accs places held words links))
unfolding core_at cores_in
held_number accs places held gelt words links minks = refl

-- the reserved pages, if one slot's is another and the others have the same words
pub reserved_only : (accs : List ℕ) (places qlaces : List (Option Mapped)) (held : List (Option Held)) (words vords : List ℕ)
    (links minks : Linked) (s : ℕ) (o : Option Held) → s < length held
    → ((k : ℕ) → k ≢ s → reserved_in vords (slice_index_or held k None) ≡ reserved_in words (slice_index_or held k None))
    → Only (reserved_at (cores_in accs places held words links)) (reserved_at (cores_in accs qlaces (slice_set held s o) vords minks)) s (reserved_in vords o)
reserved_only accs places qlaces held words vords links minks s o h others = record {
  here = reserved_at_is accs qlaces (slice_set held s o) vords minks s ∙ ap (reserved_in vords) (get_or-set_same held s o None h);
  others = λ k ne.
      reserved_at_is accs qlaces (slice_set held s o) vords minks k
      ∙ ap (reserved_in vords) (get_or-set_other held s k o None ne)
      ∙ others k ne
      ∙ sym (reserved_at_is accs places held words links k);
}

pub held_only : (accs : List ℕ) (places qlaces : List (Option Mapped)) (held : List (Option Held)) (words : List ℕ) (links minks : Linked)
    (s : ℕ) (o : Option Held) → s < length held
    → Only (reserved_at (cores_in accs places held words links)) (reserved_at (cores_in accs qlaces (slice_set held s o) words minks)) s (reserved_in words o)
held_only accs places qlaces held words links minks s o h = reserved_only accs places qlaces held words words links minks s o h (λ k ne. refl)

-- whether a slot has reserved a page
held_has : (accs : List ℕ) (places : List (Option Mapped)) (held : List (Option Held)) (words : List ℕ) (links : Linked) (s : ℕ)
    → is_some (slice_index_or held s None) ≡ is_some (reserved_at (cores_in accs places held words links) s)
held_has accs places held words links s = go (slice_index_or held s None) ∙ ap is_some (sym (reserved_at_is accs places held words links s))
  where
    go : (o : Option Held) → is_some o ≡ is_some (reserved_in words o)
    go None = refl
    go (Some h) = refl

clear_has : (m : Cores) (s : ℕ) → is_some (reserved_at m s) ≡ is_some (clear_at m s)
clear_has m s = go (reserved_at m s)
  where
    go : (o : Option Reserved) → is_some o ≡ is_some (option_map (λ r. r.clear) o)
    go None = refl
    go (Some r) = refl

pub held_clear : (accs : List ℕ) (places : List (Option Mapped)) (held : List (Option Held)) (words : List ℕ) (links : Linked) (s : ℕ)
    → is_some (slice_index_or held s None) ≡ is_some (clear_at (cores_in accs places held words links) s)
held_clear accs places held words links s = held_has accs places held words links s ∙ clear_has (cores_in accs places held words links) s

-- how many words are ready once those below e, the end of frame x, are
pub ready_end : (n e x : ℕ) → e ≡ 1024 * x + 1024 → n + (e - n) ≡ max n (1024 * x + 1024)
ready_end n e x is = omega arith

module _ (accs : List ℕ) (places : List (Option Mapped)) (held : List (Option Held)) (words : List ℕ) (links : Linked) (mapped : ℕ)
    (pool : IsPool accs places held words links mapped) where
  pub held_none : (s : ℕ) → reserved_at (cores_in accs places held words links) s ≡ None → slice_index_or held s None ≡ None
  held_none s h = go (slice_index_or held s None) (sym (reserved_at_is accs places held words links s) ∙ h)
    where
      go : (o : Option Held) → reserved_in words o ≡ None → o ≡ None
      go None e = refl
      go (Some x) e = cc

  -- there is always a free frame for a slot that has none reserved
  pub some_free : (s : ℕ) → s < slots → slice_index_or held s None ≡ None → is_some (first (list_at links.lists 0)) ≡ true
  some_free s lt e =
      let a = pool.held_long in
      let c = pool.most in
      let d = pool.count in
      let f = count_missing held s (omega arith) e in
      go (list_at links.lists 0) (omega arith)
    where
      go : (xs : List ℕ) → 0 < length xs → is_some (first xs) ≡ true
      go [] h = absurd (omega arith)
      go (x ∷ xs) h = refl

  pub some_seen : (s : ℕ) → s < slots → slice_index_or held s None ≡ None → is_some (first (free (cores_in accs places held words links).frames)) ≡ true
  unfolding cores_in
  some_seen s lt e = some_free s lt e

  -- the quarters of a new list of reserved pages are clear if those of the new one are
  clear_set : (s : ℕ) (o : Option Held) (vords : List ℕ) → s < length held → ((h : Held) → o ≡ Some h → IsClear vords h)
      → ((k : ℕ) (h : Held) → k ≢ s → slice_index_or held k None ≡ Some h → IsClear vords h)
      → (k : ℕ) (h : Held) → slice_index_or (slice_set held s o) k None ≡ Some h → IsClear vords h
  clear_set s o vords lt here others k h e = elim (cases_eq k s) [
    | inl same ↦ let x : slice_index_or (slice_set held s o) k None ≡ o = rw same (get_or-set_same held s o None lt) in here h (sym x ∙ e)
    | inr ne ↦ others k h ne (sym (get_or-set_other held s k o None ne) ∙ e)
  ]

  -- a pool with another reserved page of a slot
  held_pool : (s : ℕ) (o : Option Held) (vords : List ℕ) (minks : Linked) → s < slots
      → ((x : ℕ) → x < all_frames → length vords < 1024 * x + 1024 → 0 < count x (list_at minks.lists 0)) → minks.nodes ≡ all_frames
      → length minks.lists ≡ slots + 1
      → Listed (frames_now places (slice_set held s o) minks vords) → ((t : ℕ) → list_at minks.lists (t + 1) ≡ list_at links.lists (t + 1))
      → ((k : ℕ) (h : Held) → slice_index_or (slice_set held s o) k None ≡ Some h → IsClear vords h)
      → mapped ≡ pages_mapped (core_at (cores_in accs places (slice_set held s o) vords minks))
      → length (list_at minks.lists 0) + mapped + count_by is_some (slice_set held s o) ≡ all_frames
      → IsPool accs places (slice_set held s o) vords minks mapped
  held_pool s o vords minks lt ready nodes heads listed lists z n c = record {
    accs_long = pool.accs_long;
    places_long = pool.places_long;
    held_long = length-set held s o ∙ pool.held_long;
    ready = ready;
    nodes = nodes;
    heads = heads;
    listed = listed;
    rows = λ t less. ap length (lists t) ∙ pool.rows t less;
    clear = z;
    number = n;
    most = pool.most;
    count = c;
  }

  none_clear : (vords : List ℕ) (f : ℕ) (h : Held) → Some (record { frame = f; clear = 0 }) ≡ Some h → IsClear vords h
  none_clear vords f h e =
      let P : Held → Type 0 = λ i. IsClear vords i in
      subst P (same_Some (record { frame = f; clear = 0 }) h e) (record { most = omega arith; zeros = λ k lt. absurd (omega arith) })

  -- other words, of which the pages have the same
  abbrev pub KeepsPages : List ℕ → Type 0
  KeepsPages vords = (p : ℕ) (m : Mapped) → slice_index_or places p None ≡ Some m → frame_words vords m.frame ≡ frame_words words m.frame

  page_kept : (vords : List ℕ) → KeepsPages vords → (p : ℕ) → page_in vords (slice_index_or places p None) ≡ page_in words (slice_index_or places p None)
  page_kept vords keeps p = go (slice_index_or places p None) refl
    where
      go : (o : Option Mapped) → slice_index_or places p None ≡ o → page_in vords o ≡ page_in words o
      go None r = refl
      go (Some m) r = ap (λ ws. Some (record { words = ws; writable = m.writable })) (keeps p m r)

  core_kept : (vords : List ℕ) → KeepsPages vords → (t : ℕ) → core_in accs places vords t ≡ core_in accs places words t
  unfolding core_in
  core_kept vords keeps t =
      ap (λ ps. record { accs = take 16 (drop (16 * t) accs); pages = ps })
      (table_alike 256 (λ k. page_in words (slice_index_or places (256 * t + k) None)) (λ k. page_in vords (slice_index_or places (256 * t + k) None))
      (λ k lt. page_kept vords keeps (256 * t + k)))

  cores_kept : (gelt : List (Option Held)) (vords : List ℕ) (minks : Linked) → KeepsPages vords
      → (cores_in accs places gelt vords minks).cores ≡ (cores_in accs places held words links).cores
  unfolding cores_in
  cores_kept gelt vords minks keeps = table_alike slots (core_in accs places words) (core_in accs places vords) (λ t lt. core_kept vords keeps t)

  number_kept : (gelt : List (Option Held)) (vords : List ℕ) (minks : Linked) → KeepsPages vords
      → mapped ≡ pages_mapped (core_at (cores_in accs places gelt vords minks))
  unfolding core_at
  number_kept gelt vords minks keeps = pool.number ∙ sym (ap (λ cs. pages_mapped (λ k. slice_index_or cs k no_core)) (cores_kept gelt vords minks keeps))

  -- and a reserved page
  reserved_kept : (vords : List ℕ) (k : ℕ) → ((g : Held) → slice_index_or held k None ≡ Some g → frame_words vords g.frame ≡ frame_words words g.frame)
      → reserved_in vords (slice_index_or held k None) ≡ reserved_in words (slice_index_or held k None)
  reserved_kept vords k keeps = go (slice_index_or held k None) refl
    where
      go : (o : Option Held) → slice_index_or held k None ≡ o → reserved_in vords o ≡ reserved_in words o
      go None r = refl
      go (Some g) r = ap (λ ws. Some (record { clear = g.clear; words = ws })) (keeps g r)

  clear_kept : (vords : List ℕ) (g : Held) → frame_words vords g.frame ≡ frame_words words g.frame → IsClear words g → IsClear vords g
  clear_kept vords g e c = record {
    most = c.most;
    zeros = λ k less.
        let m = c.most in
        sym (get_or-frame_words vords g.frame k 0 (omega arith)) ∙ ap (λ ws. slice_index_or ws k 0) e
        ∙ get_or-frame_words words g.frame k 0 (omega arith) ∙ c.zeros k less;
  }

  -- the lists after the first free frame was taken, and after a frame was given back
  abbrev pub taken : Linked
  taken = record { nodes = links.nodes; lists = slice_set links.lists 0 (rest (list_at links.lists 0)) }

  abbrev pub given : ℕ → Linked
  given y = record { nodes = links.nodes; lists = slice_set links.lists 0 (list_at links.lists 0 ++ y ∷ []) }

  pub reserve_frames : (n s y : ℕ) → first (list_at links.lists 0) ≡ Some y → length words + n ≡ max (length words) (1024 * y + 1024)
      → (cores_in accs places (slice_set held s (Some (record { frame = y; clear = 0 }))) (words ++ replicate n 0) taken).frames ≡
      frames_reserve s (cores_in accs places held words links).frames
  unfolding cores_in
  reserve_frames n s y e ready =
      let a = length-append words (replicate n 0) in
      let b = length-replicate {A = ℕ} n 0 in
      let long : length (words ++ replicate n 0) ≡ max (length words) (1024 * y + 1024) = a ∙ ap (λ i. length words + i) b ∙ ready in
      ap (λ i. record {
        lists = taken.lists;
        pages = map frame_of places;
        reserved = map held_frame (slice_set held s (Some (record { frame = y; clear = 0 })));
        ready = i;
      }) long
      ∙ ap (λ r. record { lists = taken.lists; pages = map frame_of places; reserved = r; ready = max (length words) (1024 * y + 1024) })
      (map-set held_frame held s (Some (record { frame = y; clear = 0 })))
      ∙ ap (λ o. record {
        lists = taken.lists;
        pages = map frame_of places;
        reserved = slice_set (map held_frame held) s o;
        ready = ready_with (length words) o;
      }) (sym e)

  pub give_frames : (s : ℕ) (h : Held) → slice_index_or held s None ≡ Some h
      → (cores_in accs places (slice_set held s None) words (given h.frame)).frames ≡ frames_give_back s (cores_in accs places held words links).frames
  unfolding cores_in
  give_frames s h e =
      ap (λ r. record {
        lists = slice_set links.lists 0 (list_at links.lists 0 ++ h.frame ∷ []);
        pages = map frame_of places;
        reserved = r;
        ready = length words;
      }) (map-set held_frame held s None)
      ∙ ap (λ o. record {
        lists = slice_set links.lists 0 (list_at links.lists 0 ++ as_list o);
        pages = map frame_of places;
        reserved = slice_set (map held_frame held) s None;
        ready = length words;
      })
      (sym (reserved_frame_is accs places held words links mapped pool s h e))

  same_frames : (gelt : List (Option Held)) (vords : List ℕ) (minks : Linked) → Listed (cores_in accs places gelt vords minks).frames
      → Listed (frames_now places gelt minks vords)
  unfolding cores_in
  same_frames gelt vords minks l = l

  reserve_seen : (s y : ℕ) → s < slots → slice_index_or held s None ≡ None → first (list_at links.lists 0) ≡ Some y
      → Listed (frames_reserve s (cores_in accs places held words links).frames)
  unfolding cores_in
  reserve_seen s y lt none e =
      let hl = pool.held_long in
      let ml = length-map held held_frame in
      reserve_listed (frames_now places held links words) pool.listed pool.heads s y (omega arith) e
      (reserved_frame_none accs places held words links mapped pool s none)

  give_seen : (s : ℕ) → s < slots → Listed (frames_give_back s (cores_in accs places held words links).frames)
  unfolding cores_in
  give_seen s lt =
      let hl = pool.held_long in
      let ml = length-map held held_frame in
      give_back_listed (frames_now places held links words) pool.listed pool.heads s (omega arith)

  -- the first free frame is one of the frames
  pub first_below : (y : ℕ) → first (list_at links.lists 0) ≡ Some y → y < all_frames
  first_below y is =
      let h = hit_same y in
      let c = count_first y y (list_at links.lists 0) is in
      free_below (frames_now places held links words) pool.listed y (omega arith)

  -- words that become ready are none of a page, nor of a reserved page
  pages_ready : (n : ℕ) → KeepsPages (words ++ replicate n 0)
  pages_ready n p m e = frame_words_more words (replicate n 0) m.frame (place_words accs places held words links mapped pool p m e)

  held_ready : (n k : ℕ) (g : Held) → slice_index_or held k None ≡ Some g → frame_words (words ++ replicate n 0) g.frame ≡ frame_words words g.frame
  held_ready n k g e = frame_words_more words (replicate n 0) g.frame (held_words accs places held words links mapped pool k g e)

  pub ready_cores : (gelt : List (Option Held)) (n : ℕ) (minks : Linked)
      → (cores_in accs places gelt (words ++ replicate n 0) minks).cores ≡ (cores_in accs places held words links).cores
  ready_cores gelt n minks = cores_kept gelt (words ++ replicate n 0) minks (pages_ready n)

  pub ready_only : (n : ℕ) (minks : Linked) (s : ℕ) (o : Option Held) → s < slots
      → Only (reserved_at (cores_in accs places held words links))
      (reserved_at (cores_in accs places (slice_set held s o) (words ++ replicate n 0) minks)) s (reserved_in (words ++ replicate n 0) o)
  ready_only n minks s o lt =
      let hl = pool.held_long in
      reserved_only accs places places held words (words ++ replicate n 0) links minks s o (omega arith)
      (λ k ne. reserved_kept (words ++ replicate n 0) k (held_ready n k))

  -- a free frame is ready, except for the one that is taken
  still_ready : (n y x : ℕ) → first (list_at links.lists 0) ≡ Some y → 1024 * y + 1024 ≤ length words + n → x < all_frames
      → length (words ++ replicate n 0) < 1024 * x + 1024 → 0 < count x (list_at taken.lists 0)
  still_ready n y x is long below less =
      let a = length-append words (replicate n 0) in
      let b = length-replicate {A = ℕ} n 0 in
      let hl = pool.heads in
      let r = pool.ready x below (omega arith) in
      let c = count_first x y (list_at links.lists 0) is in
      let h = hit_other x y (λ q. omega arith) in
      let z = ap (count x) (get_or-set_same links.lists 0 (rest (list_at links.lists 0)) [] (omega arith)) in
      omega arith

  pub reserve_pool : (n s y : ℕ) → s < slots → slice_index_or held s None ≡ None → first (list_at links.lists 0) ≡ Some y
      → length words + n ≡ max (length words) (1024 * y + 1024)
      → IsPool accs places (slice_set held s (Some (record { frame = y; clear = 0 }))) (words ++ replicate n 0) taken mapped
  reserve_pool n s y lt e is ready =
      let long : 1024 * y + 1024 ≤ length words + n = subst (λ i. 1024 * y + 1024 ≤ i) (sym ready) (le-max_right (length words) (1024 * y + 1024)) in
      let hl = pool.held_long in
      let nl = pool.heads in
      let h : Held = record { frame = y; clear = 0 } in
      let vords = words ++ replicate n 0 in
      let c = pool.count in
      let free = list_at links.lists 0 in
      let v = count_set is_some held s (Some h) None false (omega arith) (ap is_some e) in
      let u = ap length (get_or-set_same links.lists 0 (rest free) [] (omega arith)) in
      let w = length_rest free y is in
      held_pool s (Some h) vords taken lt (λ x below less. still_ready n y x is long below less) pool.nodes (length-set links.lists 0 (rest free) ∙ nl)
      (same_frames (slice_set held s (Some h)) vords taken (subst Listed (sym (reserve_frames n s y is ready)) (reserve_seen s y lt e is)))
      (λ t. get_or-set_other links.lists 0 (t + 1) (rest free) [] (λ q. omega arith))
      (clear_set s (Some h) vords (omega arith) (λ i r. none_clear vords y i r) (λ k i ne r. clear_kept vords i (held_ready n k i r) (pool.clear k i r)))
      (number_kept (slice_set held s (Some h)) vords taken (pages_ready n))
      (omega arith)
    where
      length_rest : (xs : List ℕ) (x : ℕ) → first xs ≡ Some x → length (rest xs) + 1 ≡ length xs
      length_rest [] x f = absurd (cc)
      length_rest (z ∷ zs) x f = omega arith

  pub give_pool : (s : ℕ) (h : Held) → s < slots → slice_index_or held s None ≡ Some h
      → IsPool accs places (slice_set held s None) words (given h.frame) mapped
  give_pool s h lt e =
      let hl = pool.held_long in
      let nl = pool.heads in
      let c = pool.count in
      let free = list_at links.lists 0 in
      let v = count_set is_some held s None None true (omega arith) (ap is_some e) in
      let u = ap length (get_or-set_same links.lists 0 (free ++ h.frame ∷ []) [] (omega arith)) in
      let w = length_push free h.frame in
      held_pool s None words (given h.frame) lt
      (λ x below less.
      let r = pool.ready x below less in
      let a = count-append x free (h.frame ∷ []) in
      let z = ap (count x) (get_or-set_same links.lists 0 (free ++ h.frame ∷ []) [] (omega arith)) in
      omega arith)
      pool.nodes (length-set links.lists 0 (free ++ h.frame ∷ []) ∙ nl)
      (same_frames (slice_set held s None) words (given h.frame) (subst Listed (sym (give_frames s h e)) (give_seen s lt)))
      (λ t. get_or-set_other links.lists 0 (t + 1) (free ++ h.frame ∷ []) [] (λ q. omega arith))
      (clear_set s None words (omega arith) (λ i r. cc) (λ k i ne r. pool.clear k i r))
      (pool.number ∙ sym (held_number accs places held (slice_set held s None) words links (given h.frame)))
      (omega arith)

  -- the reserved page that a slot has
  pub held_some : (s : ℕ) (h : Held) → slice_index_or held s None ≡ Some h
      → reserved_at (cores_in accs places held words links) s ≡ Some (record { clear = h.clear; words = frame_words words h.frame })
  held_some s h e = reserved_at_is accs places held words links s ∙ ap (reserved_in words) e

  pub set_only : (minks : Linked) (s : ℕ) (o : Option Held) → s < slots
      → Only (reserved_at (cores_in accs places held words links)) (reserved_at (cores_in accs places (slice_set held s o) words minks)) s
      (reserved_in words o)
  set_only minks s o lt = let hl = pool.held_long in held_only accs places places held words links minks s o (omega arith)

  pub held_is_some : (s : ℕ) → is_some (reserved_at (cores_in accs places held words links) s) ≡ true → is_some (slice_index_or held s None) ≡ true
  held_is_some s h = held_has accs places held words links s ∙ h

  -- a quarter of a reserved page is cleared: pages, and other reserved pages, are as before
  pages_zeroed : (s i : ℕ) (h : Held) → slice_index_or held s None ≡ Some h → i + 256 ≤ 1024 → KeepsPages (zeroed (1024 * h.frame + i) 256 words)
  pages_zeroed s i h e le p m r =
      let pb = place_below accs places held words links mapped pool p m r in
      frame_words_zeroed_other words h.frame m.frame i 256 (held_words accs places held words links mapped pool s h e)
      (place_words accs places held words links mapped pool p m r) le (λ same.
      let x = apart accs places held words links mapped pool p (all_places + s) h.frame
      (place_frame accs places held words links mapped pool p m r ∙ ap Some same) (held_frame_at accs places held words links mapped pool s h e) in
      omega arith)

  held_zeroed : (s i k : ℕ) (h g : Held) → slice_index_or held s None ≡ Some h → i + 256 ≤ 1024 → k ≢ s
      → slice_index_or held k None ≡ Some g → frame_words (zeroed (1024 * h.frame + i) 256 words) g.frame ≡ frame_words words g.frame
  held_zeroed s i k h g e le ne r =
      frame_words_zeroed_other words h.frame g.frame i 256 (held_words accs places held words links mapped pool s h e)
      (held_words accs places held words links mapped pool k g r) le (λ same.
      let x = apart accs places held words links mapped pool (all_places + k) (all_places + s) h.frame
      (held_frame_at accs places held words links mapped pool k g r ∙ ap Some same) (held_frame_at accs places held words links mapped pool s h e) in
      ne (omega arith))

  pub clear_cores : (gelt : List (Option Held)) (s i : ℕ) (h : Held) → slice_index_or held s None ≡ Some h → i + 256 ≤ 1024
      → (cores_in accs places gelt (zeroed (1024 * h.frame + i) 256 words) links).cores ≡ (cores_in accs places held words links).cores
  clear_cores gelt s i h e le = cores_kept gelt (zeroed (1024 * h.frame + i) 256 words) links (pages_zeroed s i h e le)

  pub clear_quarter_only : (s q : ℕ) (h : Held) → s < slots → q < 4 → slice_index_or held s None ≡ Some h
      → Only (reserved_at (cores_in accs places held words links))
      (reserved_at (cores_in accs places (slice_set held s (Some (record { frame = h.frame; clear = clear_with q h.clear })))
      (zeroed (1024 * h.frame + 256 * q) 256 words) links)) s
      (option_map (cleared q) (reserved_at (cores_in accs places held words links) s))
  clear_quarter_only s q h lt ql e =
      let hl = pool.held_long in
      let n : Option Held = Some (record { frame = h.frame; clear = clear_with q h.clear }) in
      let ws = zeroed (1024 * h.frame + 256 * q) 256 words in
      let o = reserved_only accs places places held words ws links links s n (omega arith)
      (λ k ne. reserved_kept ws k (λ g r. held_zeroed s (256 * q) k h g e (omega arith) ne r)) in
      record {
        here =
            o.here
            ∙ ap (λ xs. Some (record { clear = clear_with q h.clear; words = xs }))
            (frame_words_zeroed words h.frame (256 * q) 256 (held_words accs places held words links mapped pool s h e) (omega arith))
            ∙ sym (ap (option_map (cleared q)) (held_some s h e));
        others = o.others;
      }

  quarter_clear : (s q : ℕ) (h g : Held) → q < 4 → slice_index_or held s None ≡ Some h
      → Some (record { frame = h.frame; clear = clear_with q h.clear }) ≡ Some g
      → IsClear (zeroed (1024 * h.frame + 256 * q) 256 words) g
  quarter_clear s q h g ql e r =
      let a = held_words accs places held words links mapped pool s h e in
      let c = pool.clear s h e in
      let cm = c.most in
      let z : (k : ℕ) → k < 256 * h.clear → slice_index_or (zeroed (1024 * h.frame + 256 * q) 256 words) (1024 * h.frame + k) 0 ≡ 0 =
      λ k less. zero_stays words (1024 * h.frame + 256 * q) 256 (1024 * h.frame + k) (omega arith) (c.zeros k less) in
      let P : Held → Type 0 = λ x. IsClear (zeroed (1024 * h.frame + 256 * q) 256 words) x in
      subst P (same_Some (record { frame = h.frame; clear = clear_with q h.clear }) g r) (elim (cases_eq h.clear q) [
        | inl same ↦
            let w : clear_with q h.clear ≡ h.clear + 1 = cond-true (h.clear == q) (h.clear + 1) h.clear (eq-eqb h.clear q same) in
            record {
              most = omega arith;
              zeros = λ k less. elim (cases_lt k (256 * h.clear)) [
                | inl old ↦ z k old
                | inr new ↦
                    let j = k - 256 * q in
                    let b : 1024 * h.frame + k ≡ 1024 * h.frame + 256 * q + j = omega arith in
                    rw b (get_or-zeroed (1024 * h.frame + 256 * q) 256 j 0 words (omega arith) (omega arith))
              ];
            }
        | inr ne ↦
            let w : clear_with q h.clear ≡ h.clear = cond-false (h.clear == q) (h.clear + 1) h.clear (ne_eqb h.clear q ne) in
            record { most = omega arith; zeros = λ k less. z k (omega arith) }
      ])

  -- a reserved page keeps its frame
  quarter_frames_now : (vords : List ℕ) (s : ℕ) (h : Held) (c : ℕ) → length vords ≡ length words → slice_index_or held s None ≡ Some h
      → frames_now places (slice_set held s (Some (record { frame = h.frame; clear = c }))) links vords ≡ frames_now places held links words
  quarter_frames_now vords s h c long e =
      ap (λ n. record {
        lists = links.lists;
        pages = map frame_of places;
        reserved = map held_frame (slice_set held s (Some (record { frame = h.frame; clear = c })));
        ready = n;
      }) long
      ∙ ap (λ r. record { lists = links.lists; pages = map frame_of places; reserved = r; ready = length words })
      (map-set held_frame held s (Some (record { frame = h.frame; clear = c }))
      ∙ ap (λ o. slice_set (map held_frame held) s o) (sym (reserved_frame_is accs places held words links mapped pool s h e))
      ∙ set-get_or (map held_frame held) s None)

  pub clear_quarter_pool : (s q : ℕ) (h : Held) → s < slots → q < 4 → slice_index_or held s None ≡ Some h
      → IsPool accs places (slice_set held s (Some (record { frame = h.frame; clear = clear_with q h.clear })))
      (zeroed (1024 * h.frame + 256 * q) 256 words) links mapped
  clear_quarter_pool s q h lt ql e =
      let hl = pool.held_long in
      let a = held_words accs places held words links mapped pool s h e in
      let n : Option Held = Some (record { frame = h.frame; clear = clear_with q h.clear }) in
      let ws = zeroed (1024 * h.frame + 256 * q) 256 words in
      let v = count_set is_some held s n None true (omega arith) (ap is_some e) in
      let c = pool.count in
      held_pool s n ws links lt (λ x below less. let z = length-zeroed (1024 * h.frame + 256 * q) 256 words (omega arith) in pool.ready x
      below (omega arith)) pool.nodes pool.heads
      (subst Listed (sym (quarter_frames_now ws s h (clear_with q h.clear)
      (length-zeroed (1024 * h.frame + 256 * q) 256 words (omega arith)) e)) pool.listed) (λ t. refl)
      (clear_set s n ws (omega arith) (λ g r. quarter_clear s q h g ql e r)
      (λ k g ne r. clear_kept ws g (held_zeroed s (256 * q) k h g e (omega arith) ne r) (pool.clear k g r)))
      (number_kept (slice_set held s n) ws links (pages_zeroed s (256 * q) h e (omega arith)))
      (omega arith)

  pub quarter_frames : (vords : List ℕ) (s c : ℕ) (h : Held) → length vords ≡ length words → slice_index_or held s None ≡ Some h
      → (cores_in accs places (slice_set held s (Some (record { frame = h.frame; clear = c }))) vords links).frames ≡
      (cores_in accs places held words links).frames
  unfolding cores_in
  quarter_frames vords s c h long e = quarter_frames_now vords s h c long e
