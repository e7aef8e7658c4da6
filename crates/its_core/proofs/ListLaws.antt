-- Lists that are built by index, and the words of a frame.
use Rattle.std.specs.Prelude.{◌≡◌, ◌≢◌, ◌<◌, ◌≤◌, ℕ, zero, suc, ◌+◌, ◌-◌, ◌*◌, List, [], ◌∷◌, ◌++◌, length, map, take, drop, slice_set, slice_index_or, replicate, refl}
use Rattle.std.proofs.Common.{sym, ◌∙◌, ap, inl, inr, arith, length-set}
use Rattle.std.proofs.lemmas.Bool.{cases_eq, cases_lt, cases_order}
use Rattle.std.proofs.lemmas.List.{ext_get_or, get_or-set_same, get_or-set_other, get_or-take, get_or-drop, length-take, length-drop, length-append, length-replicate, get_or-replicate, get_or_append_left, get_or-append_right, drop-set-add, drop-set-lt, take-set-le, append-nil, take-append-drop}
use Rattle.its_core.specs.Pool.{frame_words}
use Rattle.its_core.specs.Cores.{zeroed}

-- the words of a frame
pub length-frame_words : (words : List ℕ) (f : ℕ) → 1024 * f + 1024 ≤ length words → length (frame_words words f) ≡ 1024
unfolding frame_words
length-frame_words words f h =
    let a = length-take 1024 (drop (1024 * f) words) in
    let b = length-drop (1024 * f) words in
    omega arith

pub get_or-frame_words : (words : List ℕ) (f k d : ℕ) → k < 1024 → slice_index_or (frame_words words f) k d ≡ slice_index_or words (1024 * f + k) d
unfolding frame_words
get_or-frame_words words f k d h = get_or-take 1024 (drop (1024 * f) words) k d h ∙ get_or-drop (1024 * f) words k d

-- it is the same if words follow
pub frame_words_more : (words more : List ℕ) (f : ℕ) → 1024 * f + 1024 ≤ length words → frame_words (words ++ more) f ≡ frame_words words f
frame_words_more words more f h =
    let a = length-append words more in
    let b = length-frame_words words f h in
    let c = length-frame_words (words ++ more) f (omega arith) in
    ext_get_or 0 (frame_words (words ++ more) f) (frame_words words f) (omega arith)
    (λ k less. let lt : k < 1024 = omega arith in
    get_or-frame_words (words ++ more) f k 0 lt
    ∙ get_or_append_left words more 0 (1024 * f + k) (omega arith)
    ∙ sym (get_or-frame_words words f k 0 lt))

-- a list with some of its numbers cleared
pub length-zeroed : (i n : ℕ) (ws : List ℕ) → i + n ≤ length ws → length (zeroed i n ws) ≡ length ws
unfolding zeroed
length-zeroed i n ws h =
    let a = length-append (take i ws ++ replicate n 0) (drop (i + n) ws) in
    let b = length-append (take i ws) (replicate n 0) in
    let c = length-take i ws in
    let d = length-drop (i + n) ws in
    let e = length-replicate {A = ℕ} n 0 in
    omega arith

pub get_or-zeroed_below : (i n k d : ℕ) (ws : List ℕ) → i + n ≤ length ws → k < i → slice_index_or (zeroed i n ws) k d ≡ slice_index_or ws k d
unfolding zeroed
get_or-zeroed_below i n k d ws h lt =
    let c = length-take i ws in
    let b = length-append (take i ws) (replicate n 0) in
    get_or_append_left (take i ws ++ replicate n 0) (drop (i + n) ws) d k (omega arith)
    ∙ get_or_append_left (take i ws) (replicate n 0) d k (omega arith)
    ∙ get_or-take i ws k d lt

pub get_or-zeroed : (i n k d : ℕ) (ws : List ℕ) → i + n ≤ length ws → k < n → slice_index_or (zeroed i n ws) (i + k) d ≡ 0
unfolding zeroed
get_or-zeroed i n k d ws h lt =
    let c = length-take i ws in
    let e = length-replicate {A = ℕ} n 0 in
    let b = length-append (take i ws) (replicate n 0) in
    let l : length (take i ws) ≡ i = omega arith in
    get_or_append_left (take i ws ++ replicate n 0) (drop (i + n) ws) d (i + k) (omega arith)
    ∙ get_or-append_right (take i ws) (replicate n 0) i (i + k) d l (omega arith)
    ∙ get_or-replicate n (i + k - i) 0 d (omega arith)

pub get_or-zeroed_past : (i n k d : ℕ) (ws : List ℕ) → i + n ≤ length ws → i + n ≤ k → slice_index_or (zeroed i n ws) k d ≡ slice_index_or ws k d
unfolding zeroed
get_or-zeroed_past i n k d ws h le =
    let c = length-take i ws in
    let e = length-replicate {A = ℕ} n 0 in
    let b = length-append (take i ws) (replicate n 0) in
    let l : length (take i ws ++ replicate n 0) ≡ i + n = omega arith in
    get_or-append_right (take i ws ++ replicate n 0) (drop (i + n) ws) (i + n) k d l le
    ∙ get_or-drop (i + n) ws (k - (i + n)) d
    ∙ ap (λ j. slice_index_or ws j d) (omega arith)

-- a part of a list, after an element was set in it and elsewhere
take_set : {X : Type 0} (n : ℕ) (xs : List X) (i : ℕ) (x : X) → take n (slice_set xs i x) ≡ slice_set (take n xs) i x
take_set zero xs i x = refl
take_set (suc n) [] i x = refl
take_set (suc n) (y ∷ ys) zero x = refl
take_set (suc n) (y ∷ ys) (suc i) x = ap (λ zs. y ∷ zs) (take_set n ys i x)

pub part_set : {X : Type 0} (n i k : ℕ) (xs : List X) (x : X) → take n (drop i (slice_set xs (i + k) x)) ≡ slice_set (take n (drop i xs)) k x
part_set n i k xs x = ap (λ ys. take n ys) (drop-set-add i xs k x) ∙ take_set n (drop i xs) k x

pub part_set_before : {X : Type 0} (n i k : ℕ) (xs : List X) (x : X) → k < i → take n (drop i (slice_set xs k x)) ≡ take n (drop i xs)
part_set_before n i k xs x h = ap (λ ys. take n ys) (drop-set-lt i xs k x h)

pub part_set_past : {X : Type 0} (n i k : ℕ) (xs : List X) (x : X) → i + n ≤ k → take n (drop i (slice_set xs k x)) ≡ take n (drop i xs)
part_set_past n i k xs x h =
    let j = k - i in
    let e : k ≡ i + j = omega arith in
    rw e (ap (λ ys. take n ys) (drop-set-add i xs j x) ∙ take-set-le n (drop i xs) j x (omega arith))

pub frame_words_set : (words : List ℕ) (f k w : ℕ) → frame_words (slice_set words (1024 * f + k) w) f ≡ slice_set (frame_words words f) k w
unfolding frame_words
frame_words_set words f k w = part_set 1024 (1024 * f) k words w

pub frame_words_other : (words : List ℕ) (f g k w : ℕ) → k < 1024 → g ≢ f → frame_words (slice_set words (1024 * f + k) w) g ≡ frame_words words g
unfolding frame_words
frame_words_other words f g k w h ne = elim (cases_order g f) [
  | inl e ↦ absurd (ne e)
  | inr o ↦ elim o [
    | inl lt ↦ part_set_past 1024 (1024 * g) (1024 * f + k) words w (omega arith)
    | inr gt ↦ part_set_before 1024 (1024 * g) (1024 * f + k) words w (omega arith)
  ]
]

pub accs_set : (accs : List ℕ) (s a w : ℕ) → take 16 (drop (16 * s) (slice_set accs (16 * s + a) w)) ≡ slice_set (take 16 (drop (16 * s) accs)) a w
accs_set accs s a w = part_set 16 (16 * s) a accs w

pub accs_other : (accs : List ℕ) (s t a w : ℕ) → a < 16 → t ≢ s → take 16 (drop (16 * t) (slice_set accs (16 * s + a) w)) ≡ take 16 (drop (16 * t) accs)
accs_other accs s t a w h ne = elim (cases_order t s) [
  | inl e ↦ absurd (ne e)
  | inr o ↦ elim o [
    | inl lt ↦ part_set_past 16 (16 * t) (16 * s + a) accs w (omega arith)
    | inr gt ↦ part_set_before 16 (16 * t) (16 * s + a) accs w (omega arith)
  ]
]

-- two lists that a map gives are alike if it gives the same at each element
pub map_alike : {X Y : Type 0} (f g : X → Y) (xs : List X) (d : X)
    → ((k : ℕ) → k < length xs → g (slice_index_or xs k d) ≡ f (slice_index_or xs k d)) → map g xs ≡ map f xs
map_alike f g [] d h = refl
map_alike f g (x ∷ xs) d h =
    let e : g x ≡ f x = h 0 (omega arith) in
    let r : map g xs ≡ map f xs = map_alike f g xs d (λ k lt. h (suc k) (omega arith)) in
    cc

-- a frame, after a part of it or of another was cleared
pub frame_words_zeroed : (words : List ℕ) (f i n : ℕ) → 1024 * f + 1024 ≤ length words → i + n ≤ 1024
    → frame_words (zeroed (1024 * f + i) n words) f ≡ zeroed i n (frame_words words f)
frame_words_zeroed words f i n long h =
    let lz = length-zeroed (1024 * f + i) n words (omega arith) in
    let la = length-frame_words words f long in
    let lb = length-frame_words (zeroed (1024 * f + i) n words) f (omega arith) in
    let lc = length-zeroed i n (frame_words words f) (omega arith) in
    ext_get_or 0 (frame_words (zeroed (1024 * f + i) n words) f) (zeroed i n (frame_words words f)) (omega arith)
    (λ j less. let jl : j < 1024 = omega arith in get_or-frame_words (zeroed (1024 * f + i) n words) f j 0 jl ∙ elim (cases_lt j i) [
      | inl before ↦
          get_or-zeroed_below (1024 * f + i) n (1024 * f + j) 0 words (omega arith) (omega arith)
          ∙ sym (get_or-zeroed_below i n j 0 (frame_words words f) (omega arith) before ∙ get_or-frame_words words f j 0 jl)
      | inr from ↦ elim (cases_lt j (i + n)) [
        | inl in_it ↦
            let k = j - i in
            let a : 1024 * f + j ≡ 1024 * f + i + k = omega arith in
            let b : j ≡ i + k = omega arith in
            let x : slice_index_or (zeroed (1024 * f + i) n words) (1024 * f + j) 0 ≡ 0 =
            rw a (get_or-zeroed (1024 * f + i) n k 0 words (omega arith) (omega arith)) in
            let y : slice_index_or (zeroed i n (frame_words words f)) j 0 ≡ 0 =
            rw b (get_or-zeroed i n k 0 (frame_words words f) (omega arith) (omega arith)) in
            x ∙ sym y
        | inr past ↦
            get_or-zeroed_past (1024 * f + i) n (1024 * f + j) 0 words (omega arith) (omega arith)
            ∙ sym (get_or-zeroed_past i n j 0 (frame_words words f) (omega arith) past ∙ get_or-frame_words words f j 0 jl)
      ]
    ])

pub frame_words_zeroed_other : (words : List ℕ) (f g i n : ℕ) → 1024 * f + 1024 ≤ length words → 1024 * g + 1024 ≤ length words
    → i + n ≤ 1024 → g ≢ f → frame_words (zeroed (1024 * f + i) n words) g ≡ frame_words words g
frame_words_zeroed_other words f g i n long other h ne =
    let lz = length-zeroed (1024 * f + i) n words (omega arith) in
    let la = length-frame_words words g other in
    let lb = length-frame_words (zeroed (1024 * f + i) n words) g (omega arith) in
    ext_get_or 0 (frame_words (zeroed (1024 * f + i) n words) g) (frame_words words g) (omega arith)
    (λ j less. let jl : j < 1024 = omega arith in
    get_or-frame_words (zeroed (1024 * f + i) n words) g j 0 jl
    ∙ elim (cases_order g f) [
      | inl e ↦ absurd (ne e)
      | inr o ↦ elim o [
        | inl lt ↦ get_or-zeroed_below (1024 * f + i) n (1024 * g + j) 0 words (omega arith) (omega arith)
        | inr gt ↦ get_or-zeroed_past (1024 * f + i) n (1024 * g + j) 0 words (omega arith) (omega arith)
      ]
    ]
    ∙ sym (get_or-frame_words words g j 0 jl))

-- a 0 stays one
pub zero_stays : (words : List ℕ) (i n k : ℕ) → i + n ≤ length words → slice_index_or words k 0 ≡ 0 → slice_index_or (zeroed i n words) k 0 ≡ 0
zero_stays words i n k long e = elim (cases_lt k i) [
  | inl before ↦ get_or-zeroed_below i n k 0 words long before ∙ e
  | inr from ↦ elim (cases_lt k (i + n)) [
    | inl in_it ↦ let j = k - i in let b : k ≡ i + j = omega arith in rw b (get_or-zeroed i n j 0 words long (omega arith))
    | inr past ↦ get_or-zeroed_past i n k 0 words long past ∙ e
  ]
]

-- a frame of zeros
pub frame_words_zero : (words : List ℕ) (f n : ℕ) → n ≡ 1024 → 1024 * f + 1024 ≤ length words
    → ((k : ℕ) → k < 1024 → slice_index_or words (1024 * f + k) 0 ≡ 0) → frame_words words f ≡ replicate n 0
frame_words_zero words f n e long zeros =
    let la = length-frame_words words f long in
    let lb = length-replicate {A = ℕ} n 0 in
    ext_get_or 0 (frame_words words f) (replicate n 0) (omega arith)
    (λ j less. get_or-frame_words words f j 0 (omega arith) ∙ zeros j (omega arith) ∙ sym (get_or-replicate n j 0 0 (omega arith)))

-- a loop that clears one number after another
pub zeroed_none : (i : ℕ) (ws : List ℕ) → zeroed i 0 ws ≡ ws
unfolding zeroed
zeroed_none i ws =
    ap (λ xs. xs ++ drop (i + 0) ws) (append-nil (take i ws)) ∙ ap (λ j. take i ws ++ drop j ws) (omega arith) ∙ take-append-drop i ws

pub zeroed_more : (i n : ℕ) (ws : List ℕ) → i + n < length ws → slice_set (zeroed i n ws) (i + n) 0 ≡ zeroed i (n + 1) ws
zeroed_more i n ws h =
    let a = length-zeroed i n ws (omega arith) in
    let b = length-zeroed i (n + 1) ws (omega arith) in
    let c = length-set (zeroed i n ws) (i + n) 0 in
    ext_get_or 0 (slice_set (zeroed i n ws) (i + n) 0) (zeroed i (n + 1) ws) (omega arith)
    (λ k less. elim (cases_eq k (i + n)) [
      | inl e ↦
          let x : slice_index_or (slice_set (zeroed i n ws) (i + n) 0) k 0 ≡ 0 = rw e (get_or-set_same (zeroed i n ws) (i + n) 0 0 (omega arith)) in
          let y : slice_index_or (zeroed i (n + 1) ws) k 0 ≡ 0 = rw e (get_or-zeroed i (n + 1) n 0 ws (omega arith) (omega arith)) in
          x ∙ sym y
      | inr ne ↦ get_or-set_other (zeroed i n ws) (i + n) k 0 0 ne ∙ elim (cases_lt k i) [
        | inl before ↦ get_or-zeroed_below i n k 0 ws (omega arith) before ∙ sym (get_or-zeroed_below i (n + 1) k 0 ws (omega arith) before)
        | inr from ↦ elim (cases_lt k (i + n)) [
          | inl in_it ↦
              let j = k - i in
              let e : k ≡ i + j = omega arith in
              let x : slice_index_or (zeroed i n ws) k 0 ≡ 0 = rw e (get_or-zeroed i n j 0 ws (omega arith) (omega arith)) in
              let y : slice_index_or (zeroed i (n + 1) ws) k 0 ≡ 0 = rw e (get_or-zeroed i (n + 1) j 0 ws (omega arith) (omega arith)) in
              x ∙ sym y
          | inr past ↦ get_or-zeroed_past i n k 0 ws (omega arith) past ∙ sym (get_or-zeroed_past i (n + 1) k 0 ws (omega arith) (omega arith))
        ]
      ]
    ])
