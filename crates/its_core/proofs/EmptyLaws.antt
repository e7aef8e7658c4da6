-- The pool with no page in use, and a slot that has lost all.
use Rattle.std.specs.Prelude.{◌≡◌, ◌≢◌, ◌<◌, ◌≤◌, ℕ, zero, suc, ◌+◌, ◌-◌, ◌*◌, Bool, false, cond, Option, None, List, [], ◌∷◌, ◌++◌, length, map, take, drop, replicate, slice_set, slice_index_or, is_some, count_by, refl}
use Rattle.std.specs.List.{range_with_len}
use Rattle.std.proofs.Common.{sym, ◌∙◌, ap, inl, inr, arith, subst, length-set}
use Rattle.std.proofs.lemmas.Bool.{cases_lt, cases_eq, cases_order}
use Rattle.std.proofs.lemmas.List.{ext_get_or, get_or-set_same, get_or-set_other, set-set, set-get_or, get_or_past, get_or-take, get_or-drop, length-take, length-drop, length-replicate, length-map, length-append, map-id, append-nil, take-append-drop, take_more, take_all, get_or_read}
use Rattle.std.proofs.lemmas.List.Folds.{sum_by-replicate}
use Rattle.std.proofs.lemmas.List.Sums.{sum_by-append}
use Rattle.std.proofs.lemmas.List.FromFn.{length-range_with_len, map-range_with_len_more}
use Rattle.its_links.specs.Lists.{Linked, list_at, hit, count, times, no_lists}
use Rattle.its_links.proofs.CountLaws.{count-append, hit_same, hit_other, times-set, length-no_lists, list_at-no_lists, times-no_lists}
use Rattle.its_word.specs.Core.{pages_present, pages_mapped, no_core}
use Rattle.its_word.specs.Limits.{slots}
use Rattle.its_word.specs.Only.{Only}
use Rattle.its_word.proofs.PageLaws.{get_or-copies, pages_mapped-none, pages_mapped-only, pages_present-no_core}
use Rattle.its_core.specs.declared.cores.Mapped.{Mapped}
use Rattle.its_core.specs.declared.cores.Held.{Held}
use Rattle.its_core.specs.Cores.{core_at, zeroed, IsEmpty}
use Rattle.its_core.specs.Frames.{Listed, NoFrames, all_frames, standing, row, emptied, numbers, frames_drop_all}
use Rattle.its_core.specs.Pool.{frame_of, held_frame, page_in, reserved_in, core_in, cores_in, frames_now, IsPool, all_accs, all_places}
use Rattle.its_core.proofs.ListLaws.{length-zeroed, get_or-zeroed, get_or-zeroed_below, get_or-zeroed_past}
use Rattle.its_core.proofs.FrameLaws.{standing_none, count_none, length-row, get_or-row, length-emptied, get_or-emptied, get_or-emptied_below, get_or-emptied_past, row-emptied_here, row-emptied_other, map-emptied, drop_all_listed}
use Rattle.its_core.proofs.ReadLaws.{core_at_is, core_at_past, reserved_at_is, get_or-map_none}
use Rattle.its_word.specs.Table.{filled, table}
use Rattle.its_word.proofs.TableLaws.{length-table, get_or-table, table_alike, length-filled, get_or-filled}
use Rattle.its_core.proofs.SlotLaws.{count_pages}

part_copies : {X : Type 0} (n i : ℕ) (xs : List X) (x : X) → i + n ≤ length xs → ((k : ℕ) → k < n → slice_index_or xs (i + k) x ≡ x)
    → take n (drop i xs) ≡ replicate n x
part_copies n i xs x long each =
    let a = length-take n (drop i xs) in
    let b = length-drop i xs in
    let c = length-replicate n x in
    ext_get_or x (take n (drop i xs)) (replicate n x) (omega arith)
    (λ k less. get_or-take n (drop i xs) k x (omega arith) ∙ get_or-drop i xs k x ∙ each k (omega arith) ∙ sym (get_or-copies n k x))

table_copies : {X : Type 0} (n : ℕ) (f : ℕ → X) (x : X) → ((k : ℕ) → k < n → f k ≡ x) → table n f ≡ replicate n x
table_copies n f x each =
    let a = length-table n f in
    let c = length-replicate n x in
    ext_get_or x (table n f) (replicate n x) (omega arith)
    (λ k less. get_or-table n f k x (omega arith) ∙ each k (omega arith) ∙ sym (get_or-copies n k x))

-- a core with accumulators of zeros and no page
pub core_none : (accs : List ℕ) (places : List (Option Mapped)) (words : List ℕ) (s : ℕ) → 16 * s + 16 ≤ length accs
    → ((k : ℕ) → k < 16 → slice_index_or accs (16 * s + k) 0 ≡ 0) → ((k : ℕ) → k < 256 → slice_index_or places (256 * s + k) None ≡ None)
    → core_in accs places words s ≡ no_core
unfolding core_in no_core
core_none accs places words s long zeros none =
    let x = part_copies 16 (16 * s) accs 0 long zeros in
    let y = table_copies 256 (λ k. page_in words (slice_index_or places (256 * s + k) None)) None (λ k h. ap (page_in words) (none k h)) in
    λ i. record { accs = x i; pages = y i }

count_filled : {X : Type 0} (p : X → Bool) (n : ℕ) (x : X) → p x ≡ false → count_by p (filled n x) ≡ 0
unfolding filled
count_filled p n x e =
    let a = sum_by-replicate (λ y. cond {A = ℕ} (p y) 1 0) n x in
    let b : cond {A = ℕ} (p x) 1 0 ≡ 0 = ap (λ c. cond {A = ℕ} c 1 0) e in
    a ∙ ap (λ k. n * k) b ∙ omega arith

-- the numbers below n
count-range : (x a n : ℕ) → (x < a → count x (range_with_len a n) ≡ 0) × (a + n ≤ x → count x (range_with_len a n) ≡ 0)
    × (a ≤ x → x < a + n → count x (range_with_len a n) ≡ 1)
count-range x a zero = (λ h. refl, λ h. refl, λ h k. absurd (omega arith))
count-range x a (suc n) =
    let r = count-range x (a + 1) n in
    elim (cases_order x a) [
      | inl e ↦
          let h = hit_same x in
          let k = ap (λ z. hit x z) e in
          let z = r.0 (omega arith) in
          (λ lt. absurd (omega arith), λ le. absurd (omega arith), λ le lt. omega arith)
      | inr o ↦
          let h = hit_other x a (λ q. elim o [ inl lt ↦ omega arith | inr gt ↦ omega arith ]) in (
            λ lt. let z = r.0 (omega arith) in omega arith,
            λ le. let z = r.1 (omega arith) in omega arith,
            λ le lt. elim o [
              | inl less ↦ absurd (omega arith)
              | inr more ↦ let z = r.2 (omega arith) (omega arith) in omega arith
            ],
          )
    ]

count-numbers : (x n : ℕ) → x < n → count x (numbers n) ≡ 1
unfolding numbers
count-numbers x n lt = (count-range x 0 n).2 (omega arith) (omega arith)

pub count-numbers_past : (x n : ℕ) → n ≤ x → count x (numbers n) ≡ 0
unfolding numbers
count-numbers_past x n le = (count-range x 0 n).1 (omega arith)

length-numbers : (n : ℕ) → length (numbers n) ≡ n
unfolding numbers
length-numbers n = length-range_with_len 0 n

pub numbers_none : numbers 0 ≡ []
unfolding numbers
numbers_none = refl

pub numbers_more : (n : ℕ) → numbers n ++ n ∷ [] ≡ numbers (n + 1)
unfolding numbers
numbers_more n = sym (sym (map-id (range_with_len 0 (n + 1))) ∙ map-range_with_len_more (λ (x : ℕ). x) 0 n n (omega arith)
    ∙ ap (λ xs. xs ++ n ∷ []) (map-id (range_with_len 0 n)))

-- all frames are free
abbrev pub all_free : Linked
all_free = record { nodes = all_frames; lists = slice_set (no_lists (slots + 1)) 0 (numbers all_frames) }

-- a loop that frees one after another
abbrev pub freed : ℕ → Linked
freed n = record { nodes = all_frames; lists = slice_set (no_lists (slots + 1)) 0 (numbers n) }

pub free_none : freed 0 ≡ record { nodes = all_frames; lists = no_lists (slots + 1) }
free_none = ap (λ ls. record { nodes = all_frames; lists = ls })
    (ap (λ l. slice_set (no_lists (slots + 1)) 0 l) (numbers_none ∙ sym (list_at-no_lists (slots + 1) 0)) ∙ set-get_or (no_lists (slots + 1)) 0 [])

pub free_long : (n : ℕ) → 0 < length (freed n).lists
free_long n = let l = length-no_lists (slots + 1) in let s = length-set (no_lists (slots + 1)) 0 (numbers n) in omega arith

pub free_apart : (n : ℕ) → times n (freed n).lists ≡ 0
free_apart n =
    let l = length-no_lists (slots + 1) in
    let a = times-set n (no_lists (slots + 1)) 0 (numbers n) (omega arith) in
    let b = times-no_lists n (slots + 1) in
    let c = count-numbers_past n n (omega arith) in
    omega arith

pub free_more : (n : ℕ) → record { nodes = all_frames; lists = slice_set (freed n).lists 0 (list_at (freed n).lists 0 ++ n ∷ []) } ≡ freed (n + 1)
free_more n = let l = length-no_lists (slots + 1) in ap (λ ls. record { nodes = all_frames; lists = ls })
    (set-set (no_lists (slots + 1)) 0 (numbers n) (list_at (freed n).lists 0 ++ n ∷ [])
    ∙ ap (λ xs. slice_set (no_lists (slots + 1)) 0 xs)
    (ap (λ xs. xs ++ n ∷ []) (get_or-set_same (no_lists (slots + 1)) 0 (numbers n) [] (omega arith)) ∙ numbers_more n))

free_list : list_at all_free.lists 0 ≡ numbers all_frames
free_list = let l = length-no_lists (slots + 1) in get_or-set_same (no_lists (slots + 1)) 0 (numbers all_frames) [] (omega arith)

other_list : (s : ℕ) → list_at all_free.lists (s + 1) ≡ []
other_list s = get_or-set_other (no_lists (slots + 1)) 0 (s + 1) (numbers all_frames) [] (λ q. omega arith) ∙ list_at-no_lists (slots + 1) (s + 1)

times_free : (x : ℕ) → times x all_free.lists ≡ count x (numbers all_frames)
times_free x =
    let l = length-no_lists (slots + 1) in
    let a = times-set x (no_lists (slots + 1)) 0 (numbers all_frames) (omega arith) in
    let b = times-no_lists x (slots + 1) in
    let c = ap (λ xs. count x xs) (list_at-no_lists (slots + 1) 0) in
    omega arith

frames_filled : (n i : ℕ) → slice_index_or (map frame_of (filled n None)) i None ≡ None
frames_filled n i = get_or-map_none frame_of refl (filled n None) i ∙ ap frame_of (get_or-filled n i None)

held_filled : (n i : ℕ) → slice_index_or (map held_frame (filled n None)) i None ≡ None
held_filled n i = get_or-map_none held_frame refl (filled n None) i ∙ ap held_frame (get_or-filled n i None)

row_none : {X : Type 0} (os : List (Option X)) (s : ℕ) → 256 * s + 256 ≤ length os → ((i : ℕ) → slice_index_or os i None ≡ None) → (i : ℕ)
    → slice_index_or (row os s) i None ≡ None
row_none os s h none i =
    let l = length-row os s h in
    elim (cases_lt i 256) [ inl lt ↦ get_or-row os s i lt ∙ none (256 * s + i) | inr ge ↦ get_or_past (row os s) i None (omega arith) ]

listed_none : (b c : ℕ) → b ≡ all_places → Listed (frames_now (filled b None) (filled c None) all_free [])
listed_none b c bi =
    let lb = length-filled {X = Option Mapped} b None in
    let lm = length-map (filled b None) frame_of in
    let none : (x : ℕ) → standing x (map held_frame (filled c None)) ≡ 0 = λ x. standing_none x (map held_frame (filled c None)) (held_filled c) in
    record {
      mapped = λ s x lt.
          let e = ap (λ xs. count x xs) (other_list s) in
          let z = standing_none x (row (map frame_of (filled b None)) s) (row_none (map frame_of (filled b None)) s (omega arith) (frames_filled b)) in
          omega arith;
      each = λ x lt. let a = none x in let t = times_free x in let n = count-numbers x all_frames lt in omega arith;
      none = λ x ge. let a = none x in let t = times_free x in let n = count-numbers_past x all_frames ge in omega arith;
    }

no_frames : (a b c : ℕ) → NoFrames (cores_in (filled a 0) (filled b None) (filled c None) [] all_free).frames
unfolding cores_in
no_frames a b c = record {
  free_in_order = free_list;
  no_lists = other_list;
  no_pages = λ s k. frames_filled b (256 * s + k);
  none_reserved = held_filled c;
  none_ready = refl;
}

pub empty : (a b c : ℕ) → a ≡ all_accs → IsEmpty (cores_in (filled a 0) (filled b None) (filled c None) [] all_free)
empty a b c e = record {
  cores = λ k. elim (cases_lt k slots) [
    | inl lt ↦
        let l = length-filled {X = ℕ} a 0 in
        core_at_is (filled a 0) (filled b None) (filled c None) [] all_free k lt
        ∙ core_none (filled a 0) (filled b None) [] k (omega arith) (λ j h. get_or-filled a (16 * k + j) 0) (λ j h. get_or-filled b (256 * k + j) None)
    | inr ge ↦ core_at_past (filled a 0) (filled b None) (filled c None) [] all_free k ge
  ];
  reserved = λ k. reserved_at_is (filled a 0) (filled b None) (filled c None) [] all_free k ∙ ap (reserved_in []) (get_or-filled c k None);
  frames = no_frames a b c;
}

pub empty_pool : (a b c : ℕ) → a ≡ all_accs → b ≡ all_places → c ≡ slots → IsPool (filled a 0) (filled b None) (filled c None) [] all_free 0
empty_pool a b c ai bi ci =
    let y = count_filled {X = Option Held} is_some c None refl in
    let lb = length-filled {X = Option Mapped} b None in
    let f = ap length free_list in
    let n = length-numbers all_frames in
    record {
      accs_long = length-filled a 0 ∙ ai;
      places_long = length-filled b None ∙ bi;
      held_long = length-filled c None ∙ ci;
      ready = λ x lt less. let z = ap (count x) free_list in let n = count-numbers x all_frames lt in omega arith;
      nodes = refl;
      heads = length-set (no_lists (slots + 1)) 0 (numbers all_frames) ∙ length-no_lists (slots + 1);
      listed = listed_none b c bi;
      rows = λ s lt. ap length (other_list s) ∙ sym (count_none (row (filled b None) s)
          (row_none (filled b None) s (omega arith) (λ i. get_or-filled b i None)));
      clear = λ s h r. let z = get_or-filled {X = Option Held} c s None in cc;
      number = sym (pages_mapped-none (core_at (cores_in (filled a 0) (filled b None) (filled c None) [] all_free)) (empty a b c ai).cores);
      most = omega arith;
      count = omega arith;
    }

-- a slot without pages, whose accumulators are cleared
zeroed_others : (accs : List ℕ) (places : List (Option Mapped)) (words : List ℕ) (s t : ℕ) → 16 * s + 16 ≤ length accs
    → 16 * t + 16 ≤ length accs → t ≢ s → core_in (zeroed (16 * s) 16 accs) places words t ≡ core_in accs places words t
unfolding core_in
zeroed_others accs places words s t ls lt ne =
    let a = length-zeroed (16 * s) 16 accs ls in
    let b = length-take 16 (drop (16 * t) accs) in
    let c = length-drop (16 * t) accs in
    let d = length-take 16 (drop (16 * t) (zeroed (16 * s) 16 accs)) in
    let e = length-drop (16 * t) (zeroed (16 * s) 16 accs) in
    ap (λ xs. record { accs = xs; pages = table 256 (λ k. page_in words (slice_index_or places (256 * t + k) None)) })
    (ext_get_or 0 (take 16 (drop (16 * t) (zeroed (16 * s) 16 accs))) (take 16 (drop (16 * t) accs)) (omega arith)
    (λ k less.
    get_or-take 16 (drop (16 * t) (zeroed (16 * s) 16 accs)) k 0 (omega arith)
    ∙ get_or-drop (16 * t) (zeroed (16 * s) 16 accs) k 0
    ∙ elim (cases_order t s) [
      | inl e ↦ absurd (ne e)
      | inr o ↦ elim o [
        | inl under ↦ get_or-zeroed_below (16 * s) 16 (16 * t + k) 0 accs ls (omega arith)
        | inr over ↦ get_or-zeroed_past (16 * s) 16 (16 * t + k) 0 accs ls (omega arith)
      ]
    ]
    ∙ sym (get_or-take 16 (drop (16 * t) accs) k 0 (omega arith) ∙ get_or-drop (16 * t) accs k 0)))

emptied_others : (accs : List ℕ) (places : List (Option Mapped)) (words : List ℕ) (s t : ℕ) → 256 * s + 256 ≤ length places → t ≢ s
    → core_in accs (emptied (256 * s) 256 places) words t ≡ core_in accs places words t
unfolding core_in
emptied_others accs places words s t h ne =
    ap (λ ps. record { accs = take 16 (drop (16 * t) accs); pages = ps })
    (table_alike 256 (λ k. page_in words (slice_index_or places (256 * t + k) None))
    (λ k. page_in words (slice_index_or (emptied (256 * s) 256 places) (256 * t + k) None))
    (λ k lt. ap (page_in words) (elim (cases_order t s) [
      | inl e ↦ absurd (ne e)
      | inr o ↦ elim o [
        | inl less ↦ get_or-emptied_below (256 * s) 256 (256 * t + k) places h (omega arith)
        | inr more ↦ get_or-emptied_past (256 * s) 256 (256 * t + k) places h (omega arith)
      ]
    ])))

pages_row : (accs : List ℕ) (places : List (Option Mapped)) (words : List ℕ) (s : ℕ) → 256 * s + 256 ≤ length places
    → pages_present (core_in accs places words s) ≡ count_by is_some (row places s)
unfolding core_in pages_present
pages_row accs places words s h =
    let f = λ (k : ℕ). page_in words (slice_index_or places (256 * s + k) None) in
    let a = length-table 256 f in
    let b = length-row places s h in
    let c = length-map (row places s) (page_in words) in
    ap (count_by is_some) (ext_get_or None (table 256 f) (map (page_in words) (row places s)) (omega arith) (λ k lt.
    get_or-table 256 f k None (omega arith)
    ∙ ap (page_in words) (sym (get_or-row places s k (omega arith)))
    ∙ sym (get_or-map_none (page_in words) refl (row places s) k)))
    ∙ count_pages words (row places s)

module _ (accs : List ℕ) (places : List (Option Mapped)) (held : List (Option Held)) (words : List ℕ) (links : Linked) (mapped : ℕ)
    (pool : IsPool accs places held words links mapped) where
  pub dropped_only : (minks : Linked) (s : ℕ) → s < slots
      → Only (core_at (cores_in accs places held words links))
      (core_at (cores_in (zeroed (16 * s) 16 accs) (emptied (256 * s) 256 places) held words minks)) s no_core
  dropped_only minks s lt =
      let al = pool.accs_long in
      let pl = pool.places_long in
      let zl = length-zeroed (16 * s) 16 accs (omega arith) in
      record {
        here =
            core_at_is (zeroed (16 * s) 16 accs) (emptied (256 * s) 256 places) held words minks s lt
            ∙ core_none (zeroed (16 * s) 16 accs) (emptied (256 * s) 256 places) words s (omega arith)
            (λ k h. get_or-zeroed (16 * s) 16 k 0 accs (omega arith) h)
            (λ k h. get_or-emptied (256 * s) 256 k places (omega arith) h);
        others = λ t ne. elim (cases_lt t slots) [
          | inl less ↦
              core_at_is (zeroed (16 * s) 16 accs) (emptied (256 * s) 256 places) held words minks t less
              ∙ zeroed_others accs (emptied (256 * s) 256 places) words s t (omega arith) (omega arith) ne
              ∙ emptied_others accs places words s t (omega arith) ne
              ∙ sym (core_at_is accs places held words links t less)
          | inr ge ↦ core_at_past (zeroed (16 * s) 16 accs) (emptied (256 * s) 256 places) held words minks t ge
              ∙ sym (core_at_past accs places held words links t ge)
        ];
      }

  -- the lists after all pages were taken from slot s
  abbrev pub dropped : ℕ → Linked
  dropped s = record { nodes = links.nodes; lists = slice_set (slice_set links.lists 0 (list_at links.lists 0 ++ list_at links.lists (s + 1))) (s + 1) [] }

  pub drop_frames : (brrs : List ℕ) (s : ℕ) → (cores_in brrs (emptied (256 * s) 256 places) held words (dropped s)).frames ≡ frames_drop_all
      s (cores_in accs places held words links).frames
  unfolding cores_in
  drop_frames brrs s = ap (λ p. record { lists = (dropped s).lists; pages = p; reserved = map held_frame held; ready = length words })
      (map-emptied frame_of refl (256 * s) 256 places)

  drop_seen : (s : ℕ) → s < slots → Listed (frames_drop_all s (cores_in accs places held words links).frames)
  unfolding cores_in
  drop_seen s lt =
      let pl = pool.places_long in
      let ml = length-map places frame_of in
      drop_all_listed (frames_now places held links words) pool.listed pool.heads s lt (omega arith)

  seen_now : (brrs : List ℕ) (qlaces : List (Option Mapped)) (minks : Linked) → Listed (cores_in brrs qlaces held words minks).frames
      → Listed (frames_now qlaces held minks words)
  unfolding cores_in
  seen_now brrs qlaces minks l = l

  pub dropped_number : (minks : Linked) (s : ℕ) → s < slots
      → pages_mapped (core_at (cores_in (zeroed (16 * s) 16 accs) (emptied (256 * s) 256 places) held words minks)) + count_by is_some (row places s) ≡ mapped
  dropped_number minks s lt =
      let pl = pool.places_long in
      let m = pages_mapped-only _ _ s no_core (dropped_only minks s lt) lt in
      let z = pages_present-no_core in
      let p = ap pages_present (core_at_is accs places held words links s lt) ∙ pages_row accs places words s (omega arith) in
      let n = pool.number in
      omega arith

  pub dropped_pool : (s : ℕ) → s < slots → IsPool (zeroed (16 * s) 16 accs) (emptied (256 * s) 256 places) held words (dropped s)
      (mapped - count_by is_some (row places s))
  dropped_pool s lt =
      let al = pool.accs_long in
      let pl = pool.places_long in
      let hl = pool.heads in
      let free = list_at links.lists 0 in
      let own = list_at links.lists (s + 1) in
      let mid = slice_set links.lists 0 (free ++ own) in
      let ml = length-set links.lists 0 (free ++ own) in
      let n = dropped_number (dropped s) s lt in
      let r = pool.rows s lt in
      let c = pool.count in
      let u = ap length (get_or-set_other mid (s + 1) 0 [] [] (λ z. omega arith) ∙ get_or-set_same links.lists 0 (free ++ own) [] (omega arith)) in
      let w = length-append free own in
      let most = pool.most in
      record {
        accs_long = length-zeroed (16 * s) 16 accs (omega arith) ∙ al;
        places_long = length-emptied (256 * s) 256 places (omega arith) ∙ pl;
        held_long = pool.held_long;
        ready = λ x below less. let r = pool.ready x below less in let a = count-append x free own in let z =
            ap (count x) (get_or-set_other mid (s + 1) 0 [] [] (λ q. omega arith)
            ∙ get_or-set_same links.lists 0 (free ++ own) [] (omega arith)) in omega arith;
        nodes = pool.nodes;
        heads = length-set mid (s + 1) [] ∙ ml ∙ hl;
        listed = seen_now (zeroed (16 * s) 16 accs) (emptied (256 * s) 256 places) (dropped s)
            (subst Listed (sym (drop_frames (zeroed (16 * s) 16 accs) s)) (drop_seen s lt));
        rows = λ t less. elim (cases_eq t s) [
          | inl q ↦
              let P : ℕ → Type 0 = λ v. length (list_at (slice_set mid (s + 1) []) (v + 1)) ≡ count_by is_some (row (emptied (256 * s) 256 places) v) in
              let a = ap length (get_or-set_same mid (s + 1) [] [] (omega arith)) in
              let z = count_none (row (emptied (256 * s) 256 places) s) (λ i. row-emptied_here places s i (omega arith)) in
              let here : P s = omega arith in
              subst P (sym q) here
          | inr ne ↦
              ap length (get_or-set_other mid (s + 1) (t + 1) [] [] (λ z. ne (omega arith))
              ∙ get_or-set_other links.lists 0 (t + 1) (free ++ own) [] (λ z. omega arith))
              ∙ pool.rows t less
              ∙ sym (ap (count_by is_some) (row-emptied_other places s t (omega arith) (omega arith) ne))
        ];
        clear = pool.clear;
        number = omega arith;
        most = omega arith;
        count = omega arith;
      }

  pub dropped_reserved : (brrs : List ℕ) (qlaces : List (Option Mapped)) (minks : Linked)
      → (cores_in brrs qlaces held words minks).reserved ≡ (cores_in accs places held words links).reserved
  unfolding cores_in
  dropped_reserved brrs qlaces minks = refl

-- a loop that takes one page after another out of the map
pub emptied_none : {X : Type 0} (i : ℕ) (os : List (Option X)) → emptied i 0 os ≡ os
unfolding emptied
emptied_none i os =
    ap (λ xs. xs ++ drop (i + 0) os) (append-nil (take i os)) ∙ ap (λ j. take i os ++ drop j os) (omega arith) ∙ take-append-drop i os

pub emptied_more : {X : Type 0} (i n : ℕ) (os : List (Option X)) → i + n < length os → slice_set (emptied i n os) (i + n) None ≡ emptied i (n + 1) os
emptied_more i n os h =
    let a = length-emptied i n os (omega arith) in
    let b = length-emptied i (n + 1) os (omega arith) in
    let c = length-set (emptied i n os) (i + n) None in
    ext_get_or None (slice_set (emptied i n os) (i + n) None) (emptied i (n + 1) os) (omega arith) (λ k less. elim (cases_eq k (i + n)) [
      | inl e ↦
          let x : slice_index_or (slice_set (emptied i n os) (i + n) None) k None ≡ None =
          rw e (get_or-set_same (emptied i n os) (i + n) None None (omega arith)) in
          let y : slice_index_or (emptied i (n + 1) os) k None ≡ None = rw e (get_or-emptied i (n + 1) n os (omega arith) (omega arith)) in
          x ∙ sym y
      | inr ne ↦ get_or-set_other (emptied i n os) (i + n) k None None ne ∙ elim (cases_lt k i) [
        | inl before ↦ get_or-emptied_below i n k os (omega arith) before ∙ sym (get_or-emptied_below i (n + 1) k os (omega arith) before)
        | inr from ↦ elim (cases_lt k (i + n)) [
          | inl in_it ↦
              let j = k - i in
              let e : k ≡ i + j = omega arith in
              let x : slice_index_or (emptied i n os) k None ≡ None = rw e (get_or-emptied i n j os (omega arith) (omega arith)) in
              let y : slice_index_or (emptied i (n + 1) os) k None ≡ None = rw e (get_or-emptied i (n + 1) j os (omega arith) (omega arith)) in
              x ∙ sym y
          | inr past ↦ get_or-emptied_past i n k os (omega arith) past ∙ sym (get_or-emptied_past i (n + 1) k os (omega arith) (omega arith))
        ]
      ]
    ])

-- and counts them
count_more : (places : List (Option Mapped)) (s n : ℕ) → 256 * s + 256 ≤ length places → n < 256
    → count_by is_some (take (n + 1) (row places s)) ≡ count_by is_some (take n (row places s)) + cond {A = ℕ}
    (is_some (slice_index_or (emptied (256 * s) n places) (256 * s + n) None)) 1 0
count_more places s n h lt =
    let l = length-row places s h in
    let e = get_or-emptied_past (256 * s) n (256 * s + n) places (omega arith) (omega arith) ∙ sym (get_or-row places s n lt) in
    let p : Option Mapped → ℕ = λ o. cond (is_some o) 1 0 in
    let t = ap (count_by is_some) (take_more (row places s) n None (omega arith)) in
    let a = sum_by-append p (take n (row places s)) (slice_index_or (row places s) n None ∷ []) in
    let q = ap p e in
    t ∙ a ∙ omega arith

pub count_step : (places : List (Option Mapped)) (s n : ℕ) (o : Option Mapped) (b : Bool) (number : ℕ) → 256 * s + 256 ≤ length places
    → n < 256 → o ≡ slice_index_or (emptied (256 * s) n places) (256 * s + n) o → is_some o ≡ b
    → number ≡ count_by is_some (take n (row places s)) → number + cond {A = ℕ} b 1 0 ≡ count_by is_some (take (n + 1) (row places s))
count_step places s n o b number h lt read is e =
    let l = length-emptied (256 * s) n places (omega arith) in
    let r = get_or_read (emptied (256 * s) n places) (256 * s + n) o (omega arith) read None in
    let c = ap (λ p. cond {A = ℕ} (is_some p) 1 0) (sym r) in
    let d = ap (λ t. cond {A = ℕ} t 1 0) is in
    let m = count_more places s n h lt in
    omega arith

pub count_all : (places : List (Option Mapped)) (s : ℕ) → 256 * s + 256 ≤ length places
    → count_by is_some (take 256 (row places s)) ≡ count_by is_some (row places s)
count_all places s h = let l = length-row places s h in ap (count_by is_some) (take_all 256 (row places s) (omega arith))
