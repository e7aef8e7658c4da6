-- A page that a slot gets, loses, or has protected.
use Rattle.std.specs.Prelude.{◌≡◌, ◌≢◌, ◌<◌, ◌≤◌, ℕ, ◌+◌, ◌-◌, ◌*◌, Bool, true, false, cond, Option, Some, None, List, [], ◌∷◌, ◌++◌, length, map, take, drop, slice_set, slice_index_or, is_some, count_by, option_map, refl}
use Rattle.std.proofs.Common.{sym, ◌∙◌, ap, inl, inr, arith, length-set, subst}
use Rattle.std.proofs.lemmas.Bool.{cases_eq}
use Rattle.std.proofs.lemmas.List.{get_or-set_same, get_or-set_other, set-get_or, map-set, length-map, length_push}
use Rattle.std.proofs.lemmas.Option.{same_Some}
use Rattle.its_word.specs.Core.{page_of, with_page, zero_page, marked, pages_mapped}
use Rattle.its_word.specs.Limits.{slots, most_pages}
use Rattle.its_word.specs.Only.{Only}
use Rattle.its_word.proofs.PageLaws.{one_if, pages_present-with_page, pages_mapped-only}
use Rattle.its_core.specs.declared.cores.Mapped.{Mapped}
use Rattle.its_core.specs.declared.cores.Held.{Held}
use Rattle.its_links.specs.Lists.{Linked, count, list_at, times, without}
use Rattle.its_links.proofs.CountLaws.{count-append, without_one, length-without, count-le-times, two-le-times}
use Rattle.its_core.specs.Frames.{Listed, as_list, without_frame, row, frames_map, frames_unmap}
use Rattle.its_core.specs.Cores.{Reserved, core_at, reserved_at, clear_at}
use Rattle.its_core.specs.Pool.{frame_of, held_frame, page_in, core_in, cores_in, frames_now, IsPool}
use Rattle.its_core.proofs.ListLaws.{frame_words_zero}
use Rattle.its_core.proofs.FrameLaws.{count_set, length-row, get_or-row, row-set, row-other, page_in_list, page_stands, reserved_stands, unmap_listed, map_listed}
use Rattle.its_core.proofs.ReadLaws.{page_frame_is, page_frame_none, reserved_frame_is, listed_seen, core_at_is, page_at, page_of_is, held_words}
use Rattle.its_core.proofs.StoreLaws.{only_in}
use Rattle.its_core.proofs.HeldLaws.{held_some}
use Rattle.its_core.proofs.SlotLaws.{pages_whole}
use Rattle.its_word.proofs.TableLaws.{table_alike, table_set}

place_pages : (accs : List ℕ) (places : List (Option Mapped)) (words : List ℕ) (s k : ℕ) (o : Option Mapped) → k < 256 → 256 * s + k < length places
    → (core_in accs (slice_set places (256 * s + k) o) words s).pages ≡ slice_set (core_in accs places words s).pages k (page_in words o)
unfolding core_in
place_pages accs places words s k o h lt =
    table_set 256 (λ j. page_in words (slice_index_or places (256 * s + j) None))
    (λ j. page_in words (slice_index_or (slice_set places (256 * s + k) o) (256 * s + j) None)) k (page_in words o) h
    (ap (page_in words) (get_or-set_same places (256 * s + k) o None lt))
    (λ j less ne. ap (page_in words) (get_or-set_other places (256 * s + k) (256 * s + j) o None (λ same. ne (omega arith))))

place_accs : (accs : List ℕ) (places qlaces : List (Option Mapped)) (words : List ℕ) (s : ℕ)
    → (core_in accs qlaces words s).accs ≡ (core_in accs places words s).accs
unfolding core_in
place_accs accs places qlaces words s = refl

place_here : (accs : List ℕ) (places : List (Option Mapped)) (words : List ℕ) (s k : ℕ) (o : Option Mapped) → k < 256 → 256 * s + k < length places
    → core_in accs (slice_set places (256 * s + k) o) words s ≡ with_page (core_in accs places words s) k (page_in words o)
unfolding with_page
place_here accs places words s k o h lt =
    let x = place_accs accs places (slice_set places (256 * s + k) o) words s in
    let y = place_pages accs places words s k o h lt in
    λ i. record { accs = x i; pages = y i }

place_others : (accs : List ℕ) (places : List (Option Mapped)) (words : List ℕ) (s t k : ℕ) (o : Option Mapped) → k < 256 → t ≢ s
    → core_in accs (slice_set places (256 * s + k) o) words t ≡ core_in accs places words t
unfolding core_in
place_others accs places words s t k o h ne =
    ap (λ ps. record { accs = take 16 (drop (16 * t) accs); pages = ps })
    (table_alike 256 (λ j. page_in words (slice_index_or places (256 * t + j) None))
    (λ j. page_in words (slice_index_or (slice_set places (256 * s + k) o) (256 * t + j) None))
    (λ j less. ap (page_in words) (get_or-set_other places (256 * s + k) (256 * t + j) o None (λ same. ne (omega arith)))))

pub place_only : (accs : List ℕ) (places : List (Option Mapped)) (held gelt : List (Option Held)) (words : List ℕ) (links minks : Linked)
    (s k : ℕ) (o : Option Mapped) → s < slots → k < 256 → 256 * s + k < length places
    → Only (core_at (cores_in accs places held words links)) (core_at (cores_in accs (slice_set places (256 * s + k) o) gelt words minks)) s
    (with_page (core_at (cores_in accs places held words links) s) k (page_in words o))
place_only accs places held gelt words links minks s k o lt h long =
    only_in accs accs places (slice_set places (256 * s + k) o) held gelt words words links minks s _ lt
    (place_here accs places words s k o h long ∙ ap (λ c. with_page c k (page_in words o)) (sym (core_at_is accs places held words links s lt)))
    (λ t ne. place_others accs places words s t k o h ne)

pub place_reserved : (accs : List ℕ) (places qlaces : List (Option Mapped)) (held : List (Option Held)) (words : List ℕ)
    (links minks : Linked) → (cores_in accs qlaces held words minks).reserved ≡ (cores_in accs places held words links).reserved
unfolding cores_in
place_reserved accs places qlaces held words links minks = refl

module _ (accs : List ℕ) (places : List (Option Mapped)) (held : List (Option Held)) (words : List ℕ) (links : Linked) (mapped : ℕ)
    (pool : IsPool accs places held words links mapped) where
  -- one page more or less in one core, and in all
  number_set : (gelt : List (Option Held)) (minks : Linked) (s k : ℕ) (o : Option Mapped) → s < slots → k < 256
      → pages_mapped (core_at (cores_in accs (slice_set places (256 * s + k) o) gelt words minks)) + one_if
      (page_in words (slice_index_or places (256 * s + k) None)) ≡ mapped + one_if (page_in words o)
  number_set gelt minks s k o lt h =
      let pl = pool.places_long in
      let c = core_at (cores_in accs places held words links) s in
      let only = place_only accs places held gelt words links minks s k o lt h (omega arith) in
      let m = pages_mapped-only _ _ s _ only lt in
      let l : length c.pages ≡ 256 = ap (λ d. length d.pages) (core_at_is accs places held words links s lt) ∙ pages_whole accs places words s in
      let p = pages_present-with_page c k (page_in words o) (omega arith) in
      let at : one_if (page_of c k) ≡ one_if (page_in words (slice_index_or places (256 * s + k) None)) =
      ap one_if (page_at accs places held words links mapped pool s k lt h) in
      let n = pool.number in
      omega arith

  -- how many pages a slot has, after one was set
  row_here : (s k : ℕ) (o : Option Mapped) (b : Bool) → k < 256 → 256 * s + 256 ≤ length places → is_some (slice_index_or places (256 * s + k) None) ≡ b
      → count_by is_some (row (slice_set places (256 * s + k) o) s) + cond {A = ℕ} b 1 0 ≡ count_by is_some (row places s) + cond {A = ℕ} (is_some o) 1 0
  row_here s k o b h long e =
      let l = length-row places s long in
      let a = count_set is_some (row places s) k o None b (omega arith) (ap is_some (get_or-row places s k h) ∙ e) in
      let r = ap (count_by is_some) (row-set places s k o) in
      omega arith

  row_others : (s t k : ℕ) (o : Option Mapped) → k < 256 → t ≢ s
      → count_by is_some (row (slice_set places (256 * s + k) o) t) ≡ count_by is_some (row places t)
  row_others s t k o h ne = ap (count_by is_some) (row-other places s t k o h ne)

  -- the lists after page k of slot s, with frame y, was taken from it
  abbrev pub unmapped : ℕ → ℕ → Linked
  unmapped s y = record {
    nodes = links.nodes;
    lists = slice_set (slice_set links.lists (s + 1) (without y (list_at links.lists (s + 1)))) 0
        (list_at links.lists 0 ++ y ∷ []);
  }

  pub unmap_frames : (s k : ℕ) (m : Mapped) → slice_index_or places (256 * s + k) None ≡ Some m
      → (cores_in accs (slice_set places (256 * s + k) None) held words (unmapped s m.frame)).frames ≡ frames_unmap s k
      (cores_in accs places held words links).frames
  unfolding cores_in
  unmap_frames s k m e =
      ap (λ p. record { lists = (unmapped s m.frame).lists; pages = p; reserved = map held_frame held; ready = length words })
      (map-set frame_of places (256 * s + k) None)
      ∙ ap (λ o. record {
        lists = slice_set (slice_set links.lists (s + 1) (without_frame o (list_at links.lists (s + 1)))) 0 (list_at links.lists 0 ++ as_list o);
        pages = slice_set (map frame_of places) (256 * s + k) None;
        reserved = map held_frame held;
        ready = length words;
      }) (sym (page_frame_is accs places held words links mapped pool s k m e))

  unmap_seen : (s k : ℕ) (m : Mapped) → s < slots → k < 256 → slice_index_or places (256 * s + k) None ≡ Some m
      → Listed (frames_unmap s k (cores_in accs places held words links).frames)
  unfolding cores_in
  unmap_seen s k m lt h e =
      let pl = pool.places_long in
      let ml = length-map places frame_of in
      unmap_listed (frames_now places held links words) pool.listed pool.heads s k m.frame lt h (omega arith)
      (page_frame_is accs places held words links mapped pool s k m e)

  seen_now : (qlaces : List (Option Mapped)) (gelt : List (Option Held)) (minks : Linked)
      → Listed (cores_in accs qlaces gelt words minks).frames → Listed (frames_now qlaces gelt minks words)
  unfolding cores_in
  seen_now qlaces gelt minks l = l

  -- the frame leaves no other list
  unlinked_is : (s k : ℕ) (m : Mapped) → s < slots → k < 256 → slice_index_or places (256 * s + k) None ≡ Some m
      → record {
        nodes = links.nodes;
        lists = slice_set (map (without m.frame) links.lists) 0
            (list_at (map (without m.frame) links.lists) 0 ++ m.frame ∷ []);
      } ≡ unmapped s m.frame
  unlinked_is s k m lt h e =
      let hl = pool.heads in
      let f = page_frame_is accs places held words links mapped pool s k m e in
      let i = page_in_list (frames_now places held links words) pool.listed s k m.frame lt h f in
      let o = page_stands (frames_now places held links words) pool.listed s k m.frame lt h f in
      let l = without m.frame (list_at links.lists (s + 1)) in
      let one = without_one m.frame links.lists (s + 1) (omega arith)
      (λ j ne. let two = two-le-times m.frame links.lists (s + 1) j (λ q. ne (sym q)) in omega arith) in
      ap (λ ls. record { nodes = links.nodes; lists = slice_set ls 0 (list_at ls 0 ++ m.frame ∷ []) }) one
      ∙ ap (λ g. record { nodes = links.nodes; lists = slice_set (slice_set links.lists (s + 1) l) 0 (g ++ m.frame ∷ []) })
      (get_or-set_other links.lists (s + 1) 0 l [] (λ q. omega arith))

  pub unlinked_at : (s k : ℕ) (m : Mapped) → s < slots → k < 256 → slice_index_or places (256 * s + k) None ≡ Some m
      → (u w : Linked) → u ≡ record { nodes = links.nodes; lists = map (without m.frame) links.lists }
      → w ≡ record { nodes = u.nodes; lists = slice_set u.lists 0 (list_at u.lists 0 ++ m.frame ∷ []) } → w ≡ unmapped s m.frame
  unlinked_at s k m lt h e u w eu ew = ew ∙ ap (λ v. record {
    nodes = v.nodes;
    lists = slice_set v.lists 0 (list_at v.lists 0 ++ m.frame ∷ []);
  }) eu ∙ unlinked_is s k m lt h e

  pub frame_linked : (s k : ℕ) (m : Mapped) → s < slots → k < 256 → slice_index_or places (256 * s + k) None ≡ Some m → times m.frame links.lists ≡ 1
  frame_linked s k m lt h e = page_stands (frames_now places held links words) pool.listed s k m.frame lt h
      (page_frame_is accs places held words links mapped pool s k m e)

  pub unmap_pool : (s k : ℕ) (m : Mapped) → s < slots → k < 256 → slice_index_or places (256 * s + k) None ≡ Some m
      → (0 < mapped) × IsPool accs (slice_set places (256 * s + k) None) held words (unmapped s m.frame) (mapped - 1)
  unmap_pool s k m lt h e =
      let pl = pool.places_long in
      let hl = pool.heads in
      let n = number_set held (unmapped s m.frame) s k None lt h in
      let there : one_if (page_in words (slice_index_or places (256 * s + k) None)) ≡ 1 = ap (λ o. one_if (page_in words o)) e in
      let c = pool.count in
      let most = pool.most in
      let free = list_at links.lists 0 in
      let own = list_at links.lists (s + 1) in
      let mid = slice_set links.lists (s + 1) (without m.frame own) in
      let ml = length-set links.lists (s + 1) (without m.frame own) in
      let nl = length-set mid 0 (free ++ m.frame ∷ []) in
      let u = ap length (get_or-set_same mid 0 (free ++ m.frame ∷ []) [] (omega arith)) in
      let w = length_push free m.frame in (
        omega arith,
        record {
          accs_long = pool.accs_long;
          places_long = length-set places (256 * s + k) None ∙ pl;
          held_long = pool.held_long;
          ready = λ x below less. let r = pool.ready x below less in let a = count-append x free (m.frame ∷ []) in let z =
              ap (count x) (get_or-set_same mid 0 (free ++ m.frame ∷ []) [] (omega arith)) in omega arith;
          nodes = pool.nodes;
          heads = nl ∙ ml ∙ hl;
          listed = seen_now (slice_set places (256 * s + k) None) held (unmapped s m.frame)
              (subst Listed (sym (unmap_frames s k m e)) (unmap_seen s k m lt h e));
          rows = λ t less. elim (cases_eq t s) [
            | inl q ↦
                let P : ℕ → Type 0 = λ v. length (list_at (slice_set mid 0 (free ++ m.frame ∷ [])) (v + 1)) ≡ count_by is_some
                (row (slice_set places (256 * s + k) None) v) in
                let a = ap length (get_or-set_other mid 0 (s + 1) (free ++ m.frame ∷ []) [] (λ z. omega arith)
                ∙ get_or-set_same links.lists (s + 1) (without m.frame own) [] (omega arith)) in
                let d = length-without m.frame own in
                let f = page_frame_is accs places held words links mapped pool s k m e in
                let i = page_in_list (frames_now places held links words) pool.listed s k m.frame lt h f in
                let o = page_stands (frames_now places held links words) pool.listed s k m.frame lt h f in
                let le = count-le-times m.frame links.lists (s + 1) in
                let r = row_here s k None true h (omega arith) (ap is_some e) in
                let rs = pool.rows s lt in
                let here : P s = omega arith in
                subst P (sym q) here
            | inr ne ↦
                ap length (get_or-set_other mid 0 (t + 1) (free ++ m.frame ∷ []) [] (λ z. omega arith)
                ∙ get_or-set_other links.lists (s + 1) (t + 1) (without m.frame own) [] (λ z. ne (omega arith)))
                ∙ pool.rows t less
                ∙ sym (row_others s t k None h ne)
          ];
          clear = pool.clear;
          number = omega arith;
          most = omega arith;
          count = omega arith;
        },
      )

  -- a page that is protected keeps its frame
  pub protect_frames : (s k : ℕ) (m : Mapped) (w : Bool) → slice_index_or places (256 * s + k) None ≡ Some m
      → (cores_in accs (slice_set places (256 * s + k) (Some (record { frame = m.frame; writable = w }))) held words links).frames ≡
      (cores_in accs places held words links).frames
  unfolding cores_in
  protect_frames s k m w e =
      ap (λ p. record { lists = links.lists; pages = p; reserved = map held_frame held; ready = length words })
      (map-set frame_of places (256 * s + k) (Some (record { frame = m.frame; writable = w }))
      ∙ ap (λ o. slice_set (map frame_of places) (256 * s + k) o) (sym (page_frame_is accs places held words links mapped pool s k m e))
      ∙ set-get_or (map frame_of places) (256 * s + k) None)

  pub protect_pool : (s k : ℕ) (m : Mapped) (w : Bool) → s < slots → k < 256 → slice_index_or places (256 * s + k) None ≡ Some m
      → IsPool accs (slice_set places (256 * s + k) (Some (record { frame = m.frame; writable = w }))) held words links mapped
  protect_pool s k m w lt h e =
      let pl = pool.places_long in
      let o : Option Mapped = Some (record { frame = m.frame; writable = w }) in
      let n = number_set held links s k o lt h in
      let there : one_if (page_in words (slice_index_or places (256 * s + k) None)) ≡ 1 = ap (λ q. one_if (page_in words q)) e in
      record {
        accs_long = pool.accs_long;
        places_long = length-set places (256 * s + k) o ∙ pl;
        held_long = pool.held_long;
        ready = pool.ready;
        nodes = pool.nodes;
        heads = pool.heads;
        listed = seen_now (slice_set places (256 * s + k) o) held links
            (subst Listed (sym (protect_frames s k m w e)) (listed_seen accs places held words links mapped pool));
        rows = λ t less. pool.rows t less ∙ elim (cases_eq t s) [
          | inl q ↦
              let P : ℕ → Type 0 = λ v. count_by is_some (row places v) ≡ count_by is_some (row (slice_set places (256 * s + k) o) v) in
              let r = row_here s k o true h (omega arith) (ap is_some e) in
              let here : P s = omega arith in
              subst P (sym q) here
          | inr ne ↦ sym (row_others s t k o h ne)
        ];
        clear = pool.clear;
        number = omega arith;
        most = pool.most;
        count = pool.count;
      }

  -- a page is present if its core says so
  pub place_is_some : (s k : ℕ) → s < slots → k < 256 → is_some (page_of (core_at (cores_in accs places held words links) s) k) ≡ true
      → is_some (slice_index_or places (256 * s + k) None) ≡ true
  place_is_some s k lt h r = go (slice_index_or places (256 * s + k) None) (sym (ap is_some (page_at accs places held words links mapped pool s k lt h)) ∙ r)
    where
      go : (o : Option Mapped) → is_some (page_in words o) ≡ true → is_some o ≡ true
      go None e = e
      go (Some x) e = refl

  pub place_none : (s k : ℕ) → s < slots → k < 256 → page_of (core_at (cores_in accs places held words links) s) k ≡ None
      → slice_index_or places (256 * s + k) None ≡ None
  place_none s k lt h r = go (slice_index_or places (256 * s + k) None) (sym (page_at accs places held words links mapped pool s k lt h) ∙ r)
    where
      go : (o : Option Mapped) → page_in words o ≡ None → o ≡ None
      go None e = refl
      go (Some x) e = cc

  pub marked_is : (s k : ℕ) (m : Mapped) (w : Bool) → s < slots → k < 256 → slice_index_or places (256 * s + k) None ≡ Some m
      → page_in words (Some (record { frame = m.frame; writable = w })) ≡ marked (page_of (core_at (cores_in accs places held words links) s) k) w
  marked_is s k m w lt h e = sym (ap (λ p. marked p w) (page_at accs places held words links mapped pool s k lt h ∙ ap (page_in words) e))

  -- a reserved page whose four quarters are clear becomes a page
  abbrev pub mapped_to : ℕ → ℕ → Linked
  mapped_to t y = record { nodes = links.nodes; lists = slice_set links.lists (t + 1) (list_at links.lists (t + 1) ++ y ∷ []) }

  pub map_frames : (s t k : ℕ) (h : Held) → slice_index_or held s None ≡ Some h
      → (cores_in accs (slice_set places (256 * t + k) (Some (record { frame = h.frame; writable = true }))) (slice_set held s None) words
      (mapped_to t h.frame)).frames
      ≡ frames_map s t k (cores_in accs places held words links).frames
  unfolding cores_in
  map_frames s t k h e =
      ap (λ p. record {
        lists = (mapped_to t h.frame).lists;
        pages = p;
        reserved = map held_frame (slice_set held s None);
        ready = length words;
      }) (map-set frame_of places (256 * t + k) (Some (record { frame = h.frame; writable = true })))
      ∙ ap (λ r. record {
        lists = (mapped_to t h.frame).lists;
        pages = slice_set (map frame_of places) (256 * t + k) (Some h.frame);
        reserved = r;
        ready = length words;
      }) (map-set held_frame held s None)
      ∙ ap (λ o. record {
        lists = slice_set links.lists (t + 1) (list_at links.lists (t + 1) ++ as_list o);
        pages = slice_set (map frame_of places) (256 * t + k) o;
        reserved = slice_set (map held_frame held) s None;
        ready = length words;
      }) (sym (reserved_frame_is accs places held words links mapped pool s h e))

  map_seen : (s t k : ℕ) → s < slots → t < slots → k < 256 → slice_index_or places (256 * t + k) None ≡ None
      → Listed (frames_map s t k (cores_in accs places held words links).frames)
  unfolding cores_in
  map_seen s t k lt tl kl none =
      let pl = pool.places_long in
      let hl = pool.held_long in
      let ml = length-map places frame_of in
      let nl = length-map held held_frame in
      map_listed (frames_now places held links words) pool.listed pool.heads s t k (omega arith) tl kl (omega arith)
      (page_frame_none accs places held words links mapped pool t k none)

  pub frame_unlinked : (s : ℕ) (h : Held) → slice_index_or held s None ≡ Some h → times h.frame links.lists ≡ 0
  frame_unlinked s h e = reserved_stands (frames_now places held links words) pool.listed s h.frame
      (reserved_frame_is accs places held words links mapped pool s h e)

  pub map_pool : (s t k : ℕ) (h : Held) → s < slots → t < slots → k < 256 → slice_index_or held s None ≡ Some h
      → slice_index_or places (256 * t + k) None ≡ None → mapped < most_pages
      → IsPool accs (slice_set places (256 * t + k) (Some (record { frame = h.frame; writable = true }))) (slice_set held s None) words
      (mapped_to t h.frame) (mapped + 1)
  map_pool s t k h sl tl kl e none few =
      let pl = pool.places_long in
      let hl = pool.held_long in
      let nl = pool.heads in
      let o : Option Mapped = Some (record { frame = h.frame; writable = true }) in
      let n = number_set (slice_set held s None) (mapped_to t h.frame) t k o tl kl in
      let there : one_if (page_in words (slice_index_or places (256 * t + k) None)) ≡ 0 = ap (λ q. one_if (page_in words q)) none in
      let v = count_set is_some held s None None true (omega arith) (ap is_some e) in
      let c = pool.count in
      let own = list_at links.lists (t + 1) in
      let new = own ++ h.frame ∷ [] in
      let u = ap length (get_or-set_other links.lists (t + 1) 0 new [] (λ z. omega arith)) in
      let w = length_push own h.frame in
      record {
        accs_long = pool.accs_long;
        places_long = length-set places (256 * t + k) o ∙ pl;
        held_long = length-set held s None ∙ hl;
        ready = λ x below less. let r = pool.ready x below less in let z =
            ap (count x) (get_or-set_other links.lists (t + 1) 0 new [] (λ q. omega arith)) in omega arith;
        nodes = pool.nodes;
        heads = length-set links.lists (t + 1) new ∙ nl;
        listed = seen_now (slice_set places (256 * t + k) o) (slice_set held s None) (mapped_to t h.frame)
            (subst Listed (sym (map_frames s t k h e)) (map_seen s t k sl tl kl none));
        rows = λ i less. elim (cases_eq i t) [
          | inl q ↦
              let P : ℕ → Type 0 = λ j. length (list_at (slice_set links.lists (t + 1) new) (j + 1)) ≡ count_by is_some
              (row (slice_set places (256 * t + k) o) j) in
              let a = ap length (get_or-set_same links.lists (t + 1) new [] (omega arith)) in
              let r = row_here t k o false kl (omega arith) (ap is_some none) in
              let rs = pool.rows t tl in
              let here : P t = omega arith in
              subst P (sym q) here
          | inr ne ↦ ap length (get_or-set_other links.lists (t + 1) (i + 1) new [] (λ z. ne (omega arith))) ∙ pool.rows i less
              ∙ sym (row_others t i k o kl ne)
        ];
        clear = λ i g r. elim (cases_eq i s) [
          | inl same ↦ let x : slice_index_or (slice_set held s None) i None ≡ None = rw same (get_or-set_same held s None None (omega arith)) in cc
          | inr ne ↦ pool.clear i g (sym (get_or-set_other held s i None None ne) ∙ r)
        ];
        number = omega arith;
        most = omega arith;
        count = omega arith;
      }

  -- and is one of zeros
  pub zero_page_is : (s : ℕ) (h : Held) → slice_index_or held s None ≡ Some h → h.clear ≡ 4
      → page_in words (Some (record { frame = h.frame; writable = true })) ≡ Some zero_page
  unfolding zero_page
  zero_page_is s h e four =
      let c = pool.clear s h e in
      ap (λ ws. Some (record { words = ws; writable = true }))
      (frame_words_zero words h.frame 1024 refl (held_words accs places held words links mapped pool s h e) (λ k less. c.zeros k (omega arith)))

  -- how many quarters are clear
  pub clear_is : (s n : ℕ) (h : Held) → slice_index_or held s None ≡ Some h → clear_at (cores_in accs places held words links) s ≡ Some n → h.clear ≡ n
  clear_is s n h e r = same_Some h.clear n (sym (ap (option_map (λ x. x.clear)) (held_some accs places held words links mapped pool s h e)) ∙ r)

  pub clear_is_some : (s n : ℕ) → clear_at (cores_in accs places held words links) s ≡ Some n
      → is_some (reserved_at (cores_in accs places held words links) s) ≡ true
  clear_is_some s n r = go (reserved_at (cores_in accs places held words links) s) r
    where
      go : (o : Option Reserved) → option_map (λ x. x.clear) o ≡ Some n → is_some o ≡ true
      go None e = cc
      go (Some x) e = refl

  -- the page that was mapped is there
  pub mapped_there : (gelt : List (Option Held)) (minks : Linked) (t k : ℕ) (o : Option Mapped) → t < slots → k < 256
      → page_of (core_at (cores_in accs (slice_set places (256 * t + k) o) gelt words minks) t) k ≡ page_in words o
  mapped_there gelt minks t k o lt h =
      let pl = pool.places_long in
      ap (λ c. page_of c k) (core_at_is accs (slice_set places (256 * t + k) o) gelt words minks t lt)
      ∙ page_of_is accs (slice_set places (256 * t + k) o) words t k h
      ∙ ap (page_in words) (get_or-set_same places (256 * t + k) o None (omega arith))
