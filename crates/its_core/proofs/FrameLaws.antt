-- Frames that go from one list to another, and how many there are.
use Rattle.std.specs.Prelude.{◌≡◌, ◌≢◌, ◌<◌, ◌≤◌, ℕ, zero, suc, ◌+◌, ◌-◌, ◌*◌, Bool, true, false, cond, Option, Some, None, List, [], ◌∷◌, ◌++◌, length, map, take, drop, replicate, slice_set, slice_index_or, is_some, count_by, refl}
use Rattle.std.proofs.Common.{sym, ◌∙◌, ap, inl, inr, arith, length-set, subst}
use Rattle.std.proofs.lemmas.Bool.{cases_lt, cases_eq, cases_order}
use Rattle.std.proofs.lemmas.List.{get_or-set_same, get_or-set_other, get_or_past, get_or-take, get_or-drop, length-take, length-drop, length-append, length-replicate, get_or_append_left, get_or-append_right, get_or-replicate, ext_get_or, map-append, take-map, drop-map}
use Rattle.std.proofs.lemmas.List.Sums.{sum_by-set, sum_by-cons, count_by-le-length}
use Rattle.its_links.specs.Lists.{list_at, count, times, first, rest}
use Rattle.its_links.proofs.CountLaws.{hit_same, count-append, count-le-times, two-le-times, times-set, count_first, count-without}
use Rattle.its_word.specs.Limits.{slots}
use Rattle.its_core.specs.Frames.{Frames, Listed, free, mapped_by, page_frame, reserved_frame, is_frame, standing, row, emptied, as_list, without_frame, all_frames, frames_reserve, frames_give_back, frames_map, frames_unmap, frames_drop_all}
use Rattle.its_core.proofs.ListLaws.{part_set, part_set_before, part_set_past}

-- how often a frame occurs
pub standing-set : (x : ℕ) (os : List (Option ℕ)) (i : ℕ) (o : Option ℕ) → i < length os
    → standing x (slice_set os i o) + is_frame x (slice_index_or os i None) ≡ standing x os + is_frame x o
standing-set x [] i o lt = absurd (omega arith)
standing-set x (p ∷ ps) zero o lt = omega arith
standing-set x (p ∷ ps) (suc i) o lt = let r = standing-set x ps i o (omega arith) in omega arith

pub standing_at : (x : ℕ) (os : List (Option ℕ)) (i : ℕ) → slice_index_or os i None ≡ Some x → 1 ≤ standing x os
standing_at x [] i e = absurd (cc)
standing_at x (p ∷ ps) zero e = let h = ap (is_frame x) e in let s = hit_same x in omega arith
standing_at x (p ∷ ps) (suc i) e = let r = standing_at x ps i e in omega arith

standing_two : (x : ℕ) (os : List (Option ℕ)) (i j : ℕ) → i ≢ j → slice_index_or os i None ≡ Some x → slice_index_or os j None ≡ Some x → 2 ≤ standing x os
standing_two x [] i j ne e f = absurd (cc)
standing_two x (p ∷ ps) zero zero ne e f = absurd (ne refl)
standing_two x (p ∷ ps) zero (suc j) ne e f = let h = ap (is_frame x) e in let s = hit_same x in let r = standing_at x ps j f in omega arith
standing_two x (p ∷ ps) (suc i) zero ne e f = let h = ap (is_frame x) f in let s = hit_same x in let r = standing_at x ps i e in omega arith
standing_two x (p ∷ ps) (suc i) (suc j) ne e f = let r = standing_two x ps i j (λ q. ne (ap suc q)) e f in omega arith

pub standing_none : (x : ℕ) (os : List (Option ℕ)) → ((i : ℕ) → slice_index_or os i None ≡ None) → standing x os ≡ 0
standing_none x [] h = refl
standing_none x (p ∷ ps) h = let e = ap (is_frame x) (h 0) in let r = standing_none x ps (λ i. h (suc i)) in omega arith

pub count_none : {X : Type 0} (os : List (Option X)) → ((i : ℕ) → slice_index_or os i None ≡ None) → count_by is_some os ≡ 0
count_none [] h = refl
count_none (p ∷ ps) h =
    let a = sum_by-cons (λ o. cond (is_some o) 1 0) p ps in
    let e : cond {A = ℕ} (is_some p) 1 0 ≡ 0 = ap (λ o. cond {A = ℕ} (is_some o) 1 0) (h 0) in
    let r = count_none ps (λ i. h (suc i)) in
    omega arith

-- the places of the pages of a slot
pub length-row : {X : Type 0} (os : List (Option X)) (s : ℕ) → 256 * s + 256 ≤ length os → length (row os s) ≡ 256
unfolding row
length-row os s h = let a = length-take 256 (drop (256 * s) os) in let b = length-drop (256 * s) os in omega arith

pub get_or-row : {X : Type 0} (os : List (Option X)) (s k : ℕ) → k < 256 → slice_index_or (row os s) k None ≡ slice_index_or os (256 * s + k) None
unfolding row
get_or-row os s k h = get_or-take 256 (drop (256 * s) os) k None h ∙ get_or-drop (256 * s) os k None

pub row-set : {X : Type 0} (os : List (Option X)) (s k : ℕ) (o : Option X) → row (slice_set os (256 * s + k) o) s ≡ slice_set (row os s) k o
unfolding row
row-set os s k o = part_set 256 (256 * s) k os o

pub row-other : {X : Type 0} (os : List (Option X)) (s t k : ℕ) (o : Option X) → k < 256 → t ≢ s → row (slice_set os (256 * s + k) o) t ≡ row os t
unfolding row
row-other os s t k o h ne = elim (cases_order t s) [
  | inl e ↦ absurd (ne e)
  | inr o' ↦ elim o' [
    | inl lt ↦ part_set_past 256 (256 * t) (256 * s + k) os o (omega arith)
    | inr gt ↦ part_set_before 256 (256 * t) (256 * s + k) os o (omega arith)
  ]
]

-- places that are emptied
pub length-emptied : {X : Type 0} (i n : ℕ) (os : List (Option X)) → i + n ≤ length os → length (emptied i n os) ≡ length os
unfolding emptied
length-emptied {X = X} i n os h =
    let a = length-append (take i os ++ replicate n None) (drop (i + n) os) in
    let b = length-append (take i os) (replicate n None) in
    let c = length-take i os in
    let d = length-drop (i + n) os in
    let e = length-replicate {A = Option X} n None in
    omega arith

pub get_or-emptied : {X : Type 0} (i n k : ℕ) (os : List (Option X)) → i + n ≤ length os → k < n → slice_index_or (emptied i n os) (i + k) None ≡ None
unfolding emptied
get_or-emptied {X = X} i n k os h lt =
    let c = length-take i os in
    let e = length-replicate {A = Option X} n None in
    let b = length-append (take i os) (replicate n None) in
    let l : length (take i os) ≡ i = omega arith in
    get_or_append_left (take i os ++ replicate n None) (drop (i + n) os) None (i + k) (omega arith)
    ∙ get_or-append_right (take i os) (replicate n None) i (i + k) None l (omega arith)
    ∙ get_or-replicate n (i + k - i) None None (omega arith)

pub get_or-emptied_below : {X : Type 0} (i n k : ℕ) (os : List (Option X)) → i + n ≤ length os → k < i
    → slice_index_or (emptied i n os) k None ≡ slice_index_or os k None
unfolding emptied
get_or-emptied_below i n k os h lt =
    let c = length-take i os in
    let b = length-append (take i os) (replicate n None) in
    get_or_append_left (take i os ++ replicate n None) (drop (i + n) os) None k (omega arith)
    ∙ get_or_append_left (take i os) (replicate n None) None k (omega arith)
    ∙ get_or-take i os k None lt

pub get_or-emptied_past : {X : Type 0} (i n k : ℕ) (os : List (Option X)) → i + n ≤ length os → i + n ≤ k
    → slice_index_or (emptied i n os) k None ≡ slice_index_or os k None
unfolding emptied
get_or-emptied_past {X = X} i n k os h le =
    let c = length-take i os in
    let e = length-replicate {A = Option X} n None in
    let b = length-append (take i os) (replicate n None) in
    let l : length (take i os ++ replicate n None) ≡ i + n = omega arith in
    get_or-append_right (take i os ++ replicate n None) (drop (i + n) os) (i + n) k None l le
    ∙ get_or-drop (i + n) os (k - (i + n)) None
    ∙ ap (λ j. slice_index_or os j None) (omega arith)

pub row-emptied_here : {X : Type 0} (os : List (Option X)) (s i : ℕ) → 256 * s + 256 ≤ length os
    → slice_index_or (row (emptied (256 * s) 256 os) s) i None ≡ None
row-emptied_here os s i h =
    let a = length-emptied (256 * s) 256 os h in
    let b = length-row (emptied (256 * s) 256 os) s (omega arith) in
    elim (cases_lt i 256) [
      | inl lt ↦ get_or-row (emptied (256 * s) 256 os) s i lt ∙ get_or-emptied (256 * s) 256 i os h lt
      | inr ge ↦ get_or_past (row (emptied (256 * s) 256 os) s) i None (omega arith)
    ]

pub row-emptied_other : {X : Type 0} (os : List (Option X)) (s t : ℕ) → 256 * s + 256 ≤ length os → 256 * t + 256 ≤ length os → t ≢ s
    → row (emptied (256 * s) 256 os) t ≡ row os t
row-emptied_other os s t hs ht ne =
    let a = length-emptied (256 * s) 256 os hs in
    let b = length-row (emptied (256 * s) 256 os) t (omega arith) in
    let c = length-row os t ht in
    ext_get_or None (row (emptied (256 * s) 256 os) t) (row os t) (omega arith) (λ k less.
    get_or-row (emptied (256 * s) 256 os) t k (omega arith)
    ∙ elim (cases_order t s) [
      | inl e ↦ absurd (ne e)
      | inr o ↦ elim o [
        | inl lt ↦ get_or-emptied_below (256 * s) 256 (256 * t + k) os hs (omega arith)
        | inr gt ↦ get_or-emptied_past (256 * s) 256 (256 * t + k) os hs (omega arith)
      ]
    ]
    ∙ sym (get_or-row os t k (omega arith)))

map-replicate_none : {X Y : Type 0} (f : Option X → Option Y) → f None ≡ None → (n : ℕ) → map f (replicate n None) ≡ replicate n None
map-replicate_none f e zero = refl
map-replicate_none f e (suc n) = let r = map-replicate_none f e n in cc

pub map-emptied : {X Y : Type 0} (f : Option X → Option Y) → f None ≡ None → (i n : ℕ) (os : List (Option X))
    → map f (emptied i n os) ≡ emptied i n (map f os)
unfolding emptied
map-emptied f e i n os =
    map-append f (take i os ++ replicate n None) (drop (i + n) os)
    ∙ ap (λ xs. xs ++ map f (drop (i + n) os)) (map-append f (take i os) (replicate n None)
    ∙ ap (λ xs. map f (take i os) ++ xs) (map-replicate_none f e n) ∙ ap (λ xs. xs ++ replicate n None) (sym (take-map f i os)))
    ∙ ap (λ xs. take i (map f os) ++ replicate n None ++ xs) (sym (drop-map f (i + n) os))

pub count-as_list : (x : ℕ) (o : Option ℕ) → count x (as_list o) ≡ is_frame x o
count-as_list x None = refl
count-as_list x (Some y) = omega arith

-- the frames of pages and of reserved pages
module _ (f : Frames) (l : Listed f) where
  pub standing_most : (x : ℕ) → times x f.lists + standing x f.reserved ≤ 1
  standing_most x = elim (cases_lt x all_frames) [
    | inl lt ↦ let e = l.each x lt in omega arith
    | inr ge ↦ let e = l.none x ge in omega arith
  ]

  pub standing_below : (x : ℕ) → 0 < times x f.lists + standing x f.reserved → x < all_frames
  standing_below x h = elim (cases_lt x all_frames) [
    | inl lt ↦ lt
    | inr ge ↦ let e = l.none x ge in absurd (omega arith)
  ]

  -- a page's frame is in the list of its slot
  pub page_in_list : (s k x : ℕ) → s < slots → k < 256 → page_frame f s k ≡ Some x → 1 ≤ count x (mapped_by f s)
  page_in_list s k x lt h e = let m = l.mapped s x lt in let r = standing_at x (row f.pages s) k (get_or-row f.pages s k h ∙ e) in omega arith

  pub page_stands : (s k x : ℕ) → s < slots → k < 256 → page_frame f s k ≡ Some x → times x f.lists ≡ 1
  page_stands s k x lt h e =
      let p = page_in_list s k x lt h e in
      let c = count-le-times x f.lists (s + 1) in
      let m = standing_most x in
      omega arith

  pub reserved_stands : (s x : ℕ) → reserved_frame f s ≡ Some x → times x f.lists ≡ 0
  reserved_stands s x e = let r = standing_at x f.reserved s e in let m = standing_most x in omega arith

  -- a frame in use is not free
  pub page_not_free : (s k x : ℕ) → s < slots → k < 256 → page_frame f s k ≡ Some x → count x (free f) ≡ 0
  page_not_free s k x lt h e =
      let p = page_in_list s k x lt h e in
      let o = page_stands s k x lt h e in
      let two = two-le-times x f.lists 0 (s + 1) (λ q. omega arith) in
      omega arith

  pub reserved_not_free : (s x : ℕ) → reserved_frame f s ≡ Some x → count x (free f) ≡ 0
  reserved_not_free s x e = let o = reserved_stands s x e in let c = count-le-times x f.lists 0 in omega arith

  pub free_below : (x : ℕ) → 0 < count x (free f) → x < all_frames
  free_below x h = let c = count-le-times x f.lists 0 in standing_below x (omega arith)

  pub page_below : (s k x : ℕ) → s < slots → k < 256 → page_frame f s k ≡ Some x → x < all_frames
  page_below s k x lt h e = let p = page_stands s k x lt h e in standing_below x (omega arith)

  pub reserved_below : (s x : ℕ) → reserved_frame f s ≡ Some x → x < all_frames
  reserved_below s x e = let r = standing_at x f.reserved s e in standing_below x (omega arith)

  -- no two pages have one frame
  pub one_slot : (s t k j x : ℕ) → s < slots → t < slots → k < 256 → j < 256 → page_frame f s k ≡ Some x → page_frame f t j ≡ Some x → s ≡ t
  one_slot s t k j x ls lt hk hj e d = elim (cases_eq s t) [
    | inl q ↦ q
    | inr ne ↦
        let p = page_in_list s k x ls hk e in
        let q = page_in_list t j x lt hj d in
        let two = two-le-times x f.lists (s + 1) (t + 1) (λ r. ne (omega arith)) in
        let m = standing_most x in
        absurd (omega arith)
  ]

  pub one_page : (s k j x : ℕ) → s < slots → k < 256 → j < 256 → page_frame f s k ≡ Some x → page_frame f s j ≡ Some x → k ≡ j
  one_page s k j x ls hk hj e d = elim (cases_eq k j) [
    | inl q ↦ q
    | inr ne ↦
        let r = standing_two x (row f.pages s) k j ne (get_or-row f.pages s k hk ∙ e) (get_or-row f.pages s j hj ∙ d) in
        let m = l.mapped s x ls in
        let c = count-le-times x f.lists (s + 1) in
        let o = standing_most x in
        absurd (omega arith)
  ]

  pub not_both : (s k t x : ℕ) → s < slots → k < 256 → page_frame f s k ≡ Some x → reserved_frame f t ≡ Some x → ⊥
  not_both s k t x ls hk e d = let p = page_stands s k x ls hk e in let r = reserved_stands t x d in omega arith

  pub one_reserved : (s t x : ℕ) → reserved_frame f s ≡ Some x → reserved_frame f t ≡ Some x → s ≡ t
  one_reserved s t x e d = elim (cases_eq s t) [
    | inl q ↦ q
    | inr ne ↦ let r = standing_two x f.reserved s t ne e d in let m = standing_most x in absurd (omega arith)
  ]

  -- what stays of the lists if each frame occurs as often as before
  relisted : (g : Frames) → ((x : ℕ) → times x g.lists + standing x g.reserved ≡ times x f.lists + standing x f.reserved)
      → ((s x : ℕ) → s < slots → count x (mapped_by g s) ≡ standing x (row g.pages s)) → Listed g
  relisted g same m = record { mapped = m; each = λ x lt. same x ∙ l.each x lt; none = λ x ge. same x ∙ l.none x ge }

  kept : (gs : List (List ℕ)) (s x : ℕ) → s < slots → list_at gs (s + 1) ≡ mapped_by f s → count x (list_at gs (s + 1)) ≡ standing x (row f.pages s)
  kept gs s x lt e = ap (λ xs. count x xs) e ∙ l.mapped s x lt

  module _ (heads : length f.lists ≡ slots + 1) where
    pub reserve_listed : (s y : ℕ) → s < length f.reserved → first (free f) ≡ Some y → reserved_frame f s ≡ None → Listed (frames_reserve s f)
    reserve_listed s y lt e none =
        relisted (frames_reserve s f)
        (λ x.
        let a = times-set x f.lists 0 (rest (free f)) (omega arith) in
        let b = count_first x y (free f) e in
        let c = standing-set x f.reserved s (first (free f)) lt in
        let d = ap (is_frame x) e in
        let z = ap (is_frame x) none in
        omega arith)
        (λ t x less. kept (slice_set f.lists 0 (rest (free f))) t x less (get_or-set_other f.lists 0 (t + 1) (rest (free f)) [] (λ q. omega arith)))

    pub give_back_listed : (s : ℕ) → s < length f.reserved → Listed (frames_give_back s f)
    give_back_listed s lt =
        relisted (frames_give_back s f)
        (λ x.
        let a = times-set x f.lists 0 (free f ++ as_list (reserved_frame f s)) (omega arith) in
        let b = count-append x (free f) (as_list (reserved_frame f s)) in
        let c = count-as_list x (reserved_frame f s) in
        let d = standing-set x f.reserved s None lt in
        omega arith)
        (λ t x less. kept (slice_set f.lists 0 (free f ++ as_list (reserved_frame f s))) t x less
        (get_or-set_other f.lists 0 (t + 1) (free f ++ as_list (reserved_frame f s)) [] (λ q. omega arith)))

    pub map_listed : (s t k : ℕ) → s < length f.reserved → t < slots → k < 256 → 256 * t + 256 ≤ length f.pages → page_frame f t k ≡ None
        → Listed (frames_map s t k f)
    map_listed s t k lt tl kl long none =
        let r = reserved_frame f s in
        let new = mapped_by f t ++ as_list r in
        relisted (frames_map s t k f)
        (λ x.
        let a = times-set x f.lists (t + 1) new (omega arith) in
        let b = count-append x (mapped_by f t) (as_list r) in
        let c = count-as_list x r in
        let d = standing-set x f.reserved s None lt in
        omega arith)
        (λ u x less. elim (cases_eq u t) [
          | inl q ↦
              let P : ℕ → Type 0 = λ v. count x (list_at (slice_set f.lists (t + 1) new) (v + 1)) ≡ standing x (row (slice_set f.pages (256 * t + k) r) v) in
              let long' = length-row f.pages t long in
              let a = ap (λ xs. count x xs) (get_or-set_same f.lists (t + 1) new [] (omega arith)) in
              let b = count-append x (mapped_by f t) (as_list r) in
              let c = count-as_list x r in
              let m = l.mapped t x tl in
              let w = ap (λ os. standing x os) (row-set f.pages t k r) in
              let st = standing-set x (row f.pages t) k r (omega arith) in
              let z = ap (is_frame x) (get_or-row f.pages t k kl ∙ none) in
              let here : P t = omega arith in
              subst P (sym q) here
          | inr ne ↦
              kept (slice_set f.lists (t + 1) new) u x less (get_or-set_other f.lists (t + 1) (u + 1) new [] (λ q. ne (omega arith)))
              ∙ ap (λ os. standing x os) (sym (row-other f.pages t u k r kl ne))
        ])

    pub unmap_listed : (s k y : ℕ) → s < slots → k < 256 → 256 * s + 256 ≤ length f.pages → page_frame f s k ≡ Some y → Listed (frames_unmap s k f)
    unmap_listed s k y sl kl long e =
        let o = page_frame f s k in
        let old = mapped_by f s in
        let new = without_frame o old in
        let mid = slice_set f.lists (s + 1) new in
        let end = free f ++ as_list o in
        let p = page_in_list s k y sl kl e in
        let q = page_stands s k y sl kl e in
        let le = count-le-times y f.lists (s + 1) in
        let less : (x : ℕ) → count x new + is_frame x o ≡ count x old = λ x.
        let a = ap (λ w. count x (without_frame w old)) e in
        let b = ap (is_frame x) e in
        let c = count-without x y old (omega arith) in
        omega arith in
        let ml = length-set f.lists (s + 1) new in
        relisted (frames_unmap s k f)
        (λ x.
        let a = times-set x f.lists (s + 1) new (omega arith) in
        let b = times-set x mid 0 end (omega arith) in
        let c = ap (λ xs. count x xs) (get_or-set_other f.lists (s + 1) 0 new [] (λ w. omega arith)) in
        let d = count-append x (free f) (as_list o) in
        let g = count-as_list x o in
        let h = less x in
        omega arith)
        (λ u x at. elim (cases_eq u s) [
          | inl w ↦
              let P : ℕ → Type 0 = λ v. count x (list_at (slice_set mid 0 end) (v + 1)) ≡ standing x (row (slice_set f.pages (256 * s + k) None) v) in
              let long' = length-row f.pages s long in
              let a = ap (λ xs. count x xs) (get_or-set_other mid 0 (s + 1) end [] (λ w. omega arith)
              ∙ get_or-set_same f.lists (s + 1) new [] (omega arith)) in
              let h = less x in
              let m = l.mapped s x sl in
              let r = ap (λ os. standing x os) (row-set f.pages s k None) in
              let st = standing-set x (row f.pages s) k None (omega arith) in
              let z = ap (is_frame x) (get_or-row f.pages s k kl) in
              let here : P s = omega arith in
              subst P (sym w) here
          | inr ne ↦
              kept (slice_set mid 0 end) u x at (get_or-set_other mid 0 (u + 1) end [] (λ w. omega arith)
              ∙ get_or-set_other f.lists (s + 1) (u + 1) new [] (λ w. ne (omega arith)))
              ∙ ap (λ os. standing x os) (sym (row-other f.pages s u k None kl ne))
        ])

    pub drop_all_listed : (s : ℕ) → s < slots → length f.pages ≡ 256 * slots → Listed (frames_drop_all s f)
    drop_all_listed s sl long =
        let old = mapped_by f s in
        let end = free f ++ old in
        let mid = slice_set f.lists 0 end in
        let ml = length-set f.lists 0 end in
        relisted (frames_drop_all s f)
        (λ x.
        let a = times-set x f.lists 0 end (omega arith) in
        let b = times-set x mid (s + 1) [] (omega arith) in
        let c = ap (λ xs. count x xs) (get_or-set_other f.lists 0 (s + 1) end [] (λ w. omega arith)) in
        let d = count-append x (free f) old in
        omega arith)
        (λ u x at. elim (cases_eq u s) [
          | inl w ↦
              let P : ℕ → Type 0 = λ v. count x (list_at (slice_set mid (s + 1) []) (v + 1)) ≡ standing x (row (emptied (256 * s) 256 f.pages) v) in
              let a = ap (λ xs. count x xs) (get_or-set_same mid (s + 1) [] [] (omega arith)) in
              let z = standing_none x (row (emptied (256 * s) 256 f.pages) s) (λ i. row-emptied_here f.pages s i (omega arith)) in
              let here : P s = omega arith in
              subst P (sym w) here
          | inr ne ↦
              kept (slice_set mid (s + 1) []) u x at (get_or-set_other mid (s + 1) (u + 1) [] [] (λ w. ne (omega arith))
              ∙ get_or-set_other f.lists 0 (u + 1) end [] (λ w. omega arith))
              ∙ ap (λ os. standing x os) (sym (row-emptied_other f.pages s u (omega arith) (omega arith) ne))
        ])

-- how many there are, after one was set
pub count_set : {X : Type 0} (p : X → Bool) (xs : List X) (i : ℕ) (y d : X) (b : Bool) → i < length xs → p (slice_index_or xs i d) ≡ b
    → count_by p (slice_set xs i y) + cond {A = ℕ} b 1 0 ≡ count_by p xs + cond {A = ℕ} (p y) 1 0
count_set p xs i y d b h e = rw (← e) (sum_by-set (λ x. cond (p x) 1 0) xs i y d h)

at_most : (b : Bool) → cond {A = ℕ} b 1 0 ≤ 1
at_most true = omega arith
at_most false = omega arith

-- if one is missing, there are fewer than there could be
pub count_missing : {X : Type 0} (xs : List (Option X)) (i : ℕ) → i < length xs → slice_index_or xs i None ≡ None → count_by is_some xs < length xs
count_missing [] i h e = absurd (omega arith)
count_missing (x ∷ xs) zero h e =
    let a = sum_by-cons (λ o. cond (is_some o) 1 0) x xs in
    let b = count_by-le-length is_some xs in
    let c : is_some x ≡ false = ap is_some e in
    let d : cond {A = ℕ} (is_some x) 1 0 ≡ 0 = ap (λ b. cond {A = ℕ} b 1 0) c in
    omega arith
count_missing (x ∷ xs) (suc i) h e =
    let a = sum_by-cons (λ o. cond (is_some o) 1 0) x xs in
    let r = count_missing xs i (omega arith) e in
    let d : cond {A = ℕ} (is_some x) 1 0 ≤ 1 = at_most (is_some x) in
    omega arith
