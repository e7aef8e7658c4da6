-- Words that are appended and given up, block by block.
use Rattle.std.specs.Prelude.{◌≡◌, ◌≢◌, ◌<◌, ◌≤◌, ℕ, ◌+◌, ◌-◌, ◌*◌, ◌/◌, ◌%◌, true, false, eqb, Option, Some, None, List, [], ◌∷◌, ◌++◌, length, take, replicate, sum_by, slice_get, slice_set, slice_index_or, refl}
use Rattle.std.proofs.Common.{sym, ◌∙◌, ap, subst, inl, inr, arith, length-set, length-append}
use Rattle.std.proofs.lemmas.Bool.{cases_eq, cases_lt, cases_Bool, eqb-true, eqb-false, eq-eqb, ne_eqb, and_from, and_left, and_right}
use Rattle.std.proofs.lemmas.List.{get_or-set_same, get_or-set_other, get_or_append_left, get_or-append_right, get_or_past, length-replicate, length_push, nil_from_length}
use Rattle.std.proofs.lemmas.List.Sums.{sum_by-set}
use Rattle.std.proofs.lemmas.Option.{slice_get-get_or, slice_get_past, slice_get_within, get_or_from_slice_get}
use Rattle.its_links.specs.Lists.{Linked, list_at, times, first, rest}
use Rattle.its_files.specs.Blocks.{text_at, free_blocks, blocks_of, blocks_for, blocks_used, words_left, room_behind, needs_block, is_full, with_block, with_growth, with_word_appended, after_giving_up, word_in, block_ready, text_of, stored_in, PlaceIn, IsBlocks, numbers}
use Rattle.its_files.specs.declared.blocks.Place.{Place}
use Rattle.its_files.proofs.ListLaws.{sum_alike, push_last, push_before}
use Rattle.its_files.proofs.ChainLaws.{apart, take_first, rest_first}
use Rattle.its_word.specs.Table.{table}
use Rattle.its_word.proofs.PageLaws.{get_or-copies}
use Rattle.its_word.proofs.TableLaws.{length-table, get_or-table, get-table, table_alike, table_set, table_more}

-- what is read from a store
pub text_is : (words : List ℕ) (ls : List (List ℕ)) (lengths : List ℕ) (id : ℕ) → id < numbers
    → text_at (stored_in words ls lengths).texts id ≡ text_of words (blocks_of ls id) (slice_index_or lengths id 0)
unfolding stored_in
text_is words ls lengths id h = get_or-table numbers _ id [] h

pub length_is : (words : List ℕ) (ls : List (List ℕ)) (lengths : List ℕ) (id : ℕ) → id < numbers
    → length (text_at (stored_in words ls lengths).texts id) ≡ slice_index_or lengths id 0
length_is words ls lengths id h = ap (λ t. length t) (text_is words ls lengths id h) ∙ length-table _ _

pub chains_are : (words : List ℕ) (ls : List (List ℕ)) (lengths : List ℕ) → (stored_in words ls lengths).chains ≡ ls
unfolding stored_in
chains_are words ls lengths = refl

pub used_is : (words : List ℕ) (ls : List (List ℕ)) (lengths : List ℕ) → length lengths ≡ numbers
    → blocks_used (stored_in words ls lengths) ≡ sum_by blocks_for lengths
unfolding stored_in
used_is words ls lengths long =
    sum_alike (λ t. blocks_for (length t)) blocks_for (table numbers (λ k. text_of words (blocks_of ls k) (slice_index_or lengths k 0))) lengths [] 0
    (length-table numbers (λ k. text_of words (blocks_of ls k) (slice_index_or lengths k 0)) ∙ sym long)
    (λ k less. let l = length-table numbers (λ k. text_of words (blocks_of ls k) (slice_index_or lengths k 0)) in
    ap (λ t. blocks_for (length t)) (get_or-table numbers (λ k. text_of words (blocks_of ls k) (slice_index_or lengths k 0)) k [] (omega arith))
    ∙ ap (λ m. blocks_for m) (length-table (slice_index_or lengths k 0) (word_in words (blocks_of ls k))))

-- lists of blocks of which one has room for a word more
pub record Grown (ls ms : List (List ℕ)) (id n b : ℕ) : Type 0 where
  pub heads : length ms ≡ numbers + 1
  pub here : slice_get (blocks_of ms id) (n / 128) ≡ Some b
  pub long : length (blocks_of ms id) ≡ blocks_for (n + 1)
  pub before : (i : ℕ) → i < length (blocks_of ls id) → slice_get (blocks_of ms id) i ≡ slice_get (blocks_of ls id) i
  pub others : (k : ℕ) → k ≢ id → blocks_of ms k ≡ blocks_of ls k
  pub free : length (free_blocks ms) + blocks_for (n + 1) ≡ length (free_blocks ls) + blocks_for n

-- if no block is needed
pub grown_same : (ls : List (List ℕ)) (id n b : ℕ) → length ls ≡ numbers + 1 → needs_block n ≡ false
    → length (blocks_of ls id) ≡ blocks_for n → slice_get (blocks_of ls id) (length (blocks_of ls id) - 1) ≡ Some b → Grown ls ls id n b
grown_same ls id n b heads need long at =
    let some : n % 128 ≢ 0 = eqb-false (n % 128) 0 need in
    let i : length (blocks_of ls id) - 1 ≡ n / 128 = omega arith in
    record {
      heads = heads;
      here = rw (← i) at;
      long = omega arith;
      before = λ i lt. refl;
      others = λ k ne. refl;
      free = omega arith;
    }

-- if one is needed
pub grown_new : (ls ms : List (List ℕ)) (id n b : ℕ) → length ls ≡ numbers + 1 → id < numbers → needs_block n ≡ true
    → length (blocks_of ls id) ≡ blocks_for n → first (free_blocks ls) ≡ Some b → ms ≡ with_block ls id → Grown ls ms id n b
unfolding with_block
grown_new ls ms id n b heads lt need long at e =
    let none : n % 128 ≡ 0 = eqb-true (n % 128) 0 need in
    let ks = slice_set ls 0 (rest (free_blocks ls)) in
    let l = length-set ls 0 (rest (free_blocks ls)) in
    let m = length-set ks (id + 1) (blocks_of ls id ++ take 1 (free_blocks ls)) in
    let here : blocks_of ms id ≡ blocks_of ls id ++ b ∷ [] =
    ap (λ xs. blocks_of xs id) e ∙ get_or-set_same ks (id + 1) (blocks_of ls id ++ take 1 (free_blocks ls)) [] (omega arith)
    ∙ ap (λ xs. blocks_of ls id ++ xs) (take_first (free_blocks ls) b at) in
    let free : free_blocks ms ≡ rest (free_blocks ls) =
    ap (λ xs. free_blocks xs) e ∙ get_or-set_other ks (id + 1) 0 (blocks_of ls id ++ take 1 (free_blocks ls)) [] (omega arith)
    ∙ get_or-set_same ls 0 (rest (free_blocks ls)) [] (omega arith) in
    let p = length_push (blocks_of ls id) b in
    let q = ap (λ xs. length xs) here in
    let r = rest_first (free_blocks ls) b at in
    let f = ap (λ xs. length xs) free in
    record {
      heads = ap (λ xs. length xs) e ∙ m ∙ l ∙ heads;
      here = ap (λ xs. slice_get xs (n / 128)) here ∙ push_last (blocks_of ls id) b (n / 128) (omega arith);
      long = omega arith;
      before = λ i less. ap (λ xs. slice_get xs i) here ∙ push_before (blocks_of ls id) b i less;
      others = λ k ne.
          ap (λ xs. blocks_of xs k) e
          ∙ get_or-set_other ks (id + 1) (k + 1) (blocks_of ls id ++ take 1 (free_blocks ls)) [] (λ s. ne (omega arith))
          ∙ get_or-set_other ls 0 (k + 1) (rest (free_blocks ls)) [] (omega arith);
      free = omega arith;
    }

-- a word of another place stays
pub other_word : (words : List ℕ) (ms : List (List ℕ)) (id n b w k j : ℕ) → (times b ms ≤ 1)
    → slice_get (blocks_of ms id) (n / 128) ≡ Some b → (k ≡ id → j ≢ n) → j < 128 * length (blocks_of ms k)
    → word_in (slice_set words (128 * b + n % 128) w) (blocks_of ms k) j ≡ word_in words (blocks_of ms k) j
unfolding word_in
other_word words ms id n b w k j once here ne within =
    let c = slice_index_or (blocks_of ms k) (j / 128) 0 in
    let at : slice_get (blocks_of ms k) (j / 128) ≡ Some c = slice_get-get_or (blocks_of ms k) (j / 128) 0 (omega arith) in
    get_or-set_other words (128 * b + n % 128) (128 * c + j % 128) w 0
    (λ e. let same : c ≡ b = omega arith in
    let s = apart ms b (k + 1) (id + 1) (j / 128) (n / 128) once (at ∙ ap Some same) here in
    let p = s.list in
    let q = s.place in
    ne (omega arith) (omega arith))

-- words that are made ready are zeros, as are those that are not ready
zeros_behind : (words : List ℕ) (m i : ℕ) → slice_index_or (words ++ replicate m 0) i 0 ≡ slice_index_or words i 0
zeros_behind words m i = elim (cases_lt i (length words)) [
  | inl lt ↦ get_or_append_left words (replicate m 0) 0 i lt
  | inr ge ↦ get_or-append_right words (replicate m 0) (length words) i 0 refl ge ∙ get_or-copies m (i - length words) 0 ∙ sym (get_or_past words i 0 ge)
]

ready_view : (words : List ℕ) (m : ℕ) (ls : List (List ℕ)) (lengths : List ℕ) → stored_in (words ++ replicate m 0) ls lengths ≡ stored_in words ls lengths
unfolding stored_in word_in
ready_view words m ls lengths =
    λ t. record {
      texts = table numbers (λ id. table (slice_index_or lengths id 0)
          (λ k. zeros_behind words m (128 * slice_index_or (blocks_of ls id) (k / 128) 0 + k % 128) t));
      chains = ls;
    }

ready_blocks : (words lengths lasts : List ℕ) (most room m free : ℕ) (place : Option Place) (links : Linked) → room ≡ most
    → IsBlocks words most lengths lasts free place links → IsBlocks (words ++ replicate m 0) room lengths lasts free place links
ready_blocks words lengths lasts most room m free place links e h = record {
  most_is = e ∙ h.most_is;
  lengths_long = h.lengths_long;
  lasts_long = h.lasts_long;
  heads = h.heads;
  nodes = h.nodes;
  free_is = h.free_is;
  fits = h.fits;
  last = h.last;
  ready = λ id i b at. let r = h.ready id i b at in let a = length-append words (replicate m 0) in omega arith;
  kept = h.kept;
  used = h.used;
}

module _ (words : List ℕ) (most : ℕ) (lengths lasts : List ℕ) (free : ℕ) (place : Option Place) (nodes knots : ℕ) (ls ms : List (List ℕ))
    (id n b w : ℕ) (h : IsBlocks words most lengths lasts free place (record { nodes = nodes; lists = ls })) (knots_are : knots ≡ nodes)
    (lt : id < numbers) (n_is : n ≡ slice_index_or lengths id 0) (g : Grown ls ms id n b) (once : (x : ℕ) → times x ms ≤ 1)
    (made : 128 * b + 128 ≤ length words) where
  length_here : slice_index_or (slice_set lengths id (n + 1)) id 0 ≡ n + 1
  length_here = let l = h.lengths_long in get_or-set_same lengths id (n + 1) 0 (omega arith)

  length_other : (k : ℕ) → k ≢ id → slice_index_or (slice_set lengths id (n + 1)) k 0 ≡ slice_index_or lengths k 0
  length_other k ne = get_or-set_other lengths id k (n + 1) 0 ne

  fits : (k : ℕ) → k < numbers → length (blocks_of ms k) ≡ blocks_for (slice_index_or (slice_set lengths id (n + 1)) k 0)
  fits k kl = elim (cases_eq k id) [
    | inl e ↦ let l = length_here in let a = g.long in rw e (omega arith)
    | inr ne ↦ let l = length_other k ne in let a = ap (λ xs. length xs) (g.others k ne) in let f = h.fits k kl in omega arith
  ]

  last_at : (k : ℕ) → k < numbers → 0 < length (blocks_of ms k)
      → slice_get (blocks_of ms k) (length (blocks_of ms k) - 1) ≡ Some (slice_index_or (slice_set lasts id b) k 0)
  last_at k kl some = elim (cases_eq k id) [
    | inl e ↦
        let l = h.lasts_long in
        let a = g.long in
        let i : length (blocks_of ms id) - 1 ≡ n / 128 = omega arith in
        let v : slice_index_or (slice_set lasts id b) id 0 ≡ b = get_or-set_same lasts id b 0 (omega arith) in
        rw e (rw (i, v) g.here)
    | inr ne ↦
        let v : slice_index_or (slice_set lasts id b) k 0 ≡ slice_index_or lasts k 0 = get_or-set_other lasts id k b 0 ne in
        let o = g.others k ne in
        let q = ap (λ xs. length xs) o in
        rw (o, v) (h.last k kl (omega arith))
  ]

  kept_in : (p : Option Place) → PlaceIn ls p → PlaceIn ms p
  kept_in None e = e
  kept_in (Some p) e = elim (cases_eq p.id id) [
    | inl same ↦
        let e' : slice_get (blocks_of ls id) p.index ≡ Some p.block = rw (← same) e in
        let r : slice_get (blocks_of ms id) p.index ≡ Some p.block = g.before p.index (slice_get_within (blocks_of ls id) p.index p.block e') ∙ e' in
        rw same r
    | inr ne ↦ let o = g.others p.id ne in rw o e
  ]

  ready_in : (k i c : ℕ) → slice_get (blocks_of ms k) i ≡ Some c → 128 * c + 128 ≤ length (slice_set words (128 * b + n % 128) w)
  ready_in k i c at =
      let l = length-set words (128 * b + n % 128) w in
      elim (cases_eq k id) [
        | inl e ↦
            let at' : slice_get (blocks_of ms id) i ≡ Some c = ap (λ j. slice_get (blocks_of ms j) i) (sym e) ∙ at in
            elim (cases_lt i (length (blocks_of ls id))) [
              | inl less ↦ let r = h.ready id i c (sym (g.before i less) ∙ at') in omega arith
              | inr ge ↦
                  let within = slice_get_within (blocks_of ms id) i c at' in
                  let long = g.long in
                  let f = h.fits id lt in
                  let m = ap (λ j. blocks_for j) n_is in
                  let last : i ≡ n / 128 = omega arith in
                  let same : Some c ≡ Some b = sym at' ∙ ap (λ j. slice_get (blocks_of ms id) j) last ∙ g.here in
                  let s : c ≡ b = cc in
                  omega arith
            ]
        | inr ne ↦ let r = h.ready k i c (ap (λ xs. slice_get xs i) (sym (g.others k ne)) ∙ at) in omega arith
      ]

  appended_blocks : (left : ℕ) → left + blocks_for (n + 1) ≡ free + blocks_for n
      → IsBlocks (slice_set words (128 * b + n % 128) w) most (slice_set lengths id (n + 1)) (slice_set lasts id b) left place
      (record { nodes = knots; lists = ms })
  appended_blocks left left_is = record {
    most_is = h.most_is;
    lengths_long = length-set lengths id (n + 1) ∙ h.lengths_long;
    lasts_long = length-set lasts id b ∙ h.lasts_long;
    heads = g.heads;
    nodes = knots_are ∙ h.nodes;
    free_is = let e = h.free_is in let u = g.free in omega arith;
    fits = fits;
    last = last_at;
    ready = ready_in;
    kept = kept_in place h.kept;
    used =
        let l = h.lengths_long in
        let s = sum_by-set blocks_for lengths id (n + 1) 0 (omega arith) in
        let f = g.free in
        let u = h.used in
        let m = ap (λ k. blocks_for k) n_is in
        omega arith;
  }

  text_here : text_of (slice_set words (128 * b + n % 128) w) (blocks_of ms id) (n + 1) ≡ text_of words (blocks_of ls id) n ++ w ∷ []
  unfolding word_in
  text_here =
      let f = h.fits id lt in
      let gl = g.long in
      let m = ap (λ k. blocks_for k) n_is in
      table_more n (word_in words (blocks_of ls id)) (word_in (slice_set words (128 * b + n % 128) w) (blocks_of ms id)) w
      (ap (λ c. slice_index_or (slice_set words (128 * b + n % 128) w) (128 * c + n % 128) 0) (get_or_from_slice_get (blocks_of ms id) (n / 128) b 0 g.here)
      ∙ get_or-set_same words (128 * b + n % 128) w 0 (omega arith))
      (λ j less.
      other_word words ms id n b w id j (once b) g.here (λ _. omega arith) (omega arith)
      ∙ ap (λ c. slice_index_or words (128 * c + j % 128) 0)
      (get_or_from_slice_get (blocks_of ms id) (j / 128) (slice_index_or (blocks_of ls id) (j / 128) 0) 0
      (g.before (j / 128) (omega arith) ∙ slice_get-get_or (blocks_of ls id) (j / 128) 0 (omega arith))))

  text_other : (k : ℕ) → k < numbers → k ≢ id → text_of (slice_set words (128 * b + n % 128) w) (blocks_of ms k)
      (slice_index_or (slice_set lengths id (n + 1)) k 0) ≡ text_of words (blocks_of ls k) (slice_index_or lengths k 0)
  text_other k kl ne =
      let f = fits k kl in
      let o = length_other k ne in
      ap (λ m. text_of (slice_set words (128 * b + n % 128) w) (blocks_of ms k) m) o
      ∙ table_alike (slice_index_or lengths k 0) (word_in words (blocks_of ms k)) (word_in (slice_set words (128 * b + n % 128) w) (blocks_of ms k))
      (λ j less. other_word words ms id n b w k j (once b) g.here (λ same. absurd (ne same)) (omega arith))
      ∙ ap (λ xs. text_of words xs (slice_index_or lengths k 0)) (g.others k ne)

  appended_texts : (stored_in (slice_set words (128 * b + n % 128) w) ms (slice_set lengths id (n + 1))).texts ≡ slice_set
      (stored_in words ls lengths).texts id (text_at (stored_in words ls lengths).texts id ++ w ∷ [])
  unfolding stored_in
  appended_texts =
      let f : ℕ → List ℕ = λ k. text_of words (blocks_of ls k) (slice_index_or lengths k 0) in
      let t : List ℕ → List (List ℕ) = λ x. slice_set (table numbers f) id (x ++ w ∷ []) in
      table_set numbers f (λ k. text_of (slice_set words (128 * b + n % 128) w) (blocks_of ms k)
      (slice_index_or (slice_set lengths id (n + 1)) k 0)) id (text_of words (blocks_of ls id) n ++ w ∷ []) lt
      (ap (λ m. text_of (slice_set words (128 * b + n % 128) w) (blocks_of ms id) m) length_here ∙ text_here)
      text_other
      ∙ ap t (ap (λ m. text_of words (blocks_of ls id) m) n_is ∙ sym (get_or-table numbers f id [] lt))

  appended_view : ms ≡ with_growth (needs_block n) ls id → stored_in (slice_set words (128 * b + n % 128) w) ms
      (slice_set lengths id (n + 1)) ≡ with_word_appended (stored_in words ls lengths) id w
  appended_view ms_are =
      let c : (stored_in (slice_set words (128 * b + n % 128) w) ms (slice_set lengths id (n + 1))).chains ≡
      (with_word_appended (stored_in words ls lengths) id w).chains =
      chains_are (slice_set words (128 * b + n % 128) w) ms (slice_set lengths id (n + 1)) ∙ ms_are
      ∙ ap (λ m. with_growth (needs_block m) ls id) (n_is ∙ sym (length_is words ls lengths id lt))
      ∙ ap (λ xs. with_growth (needs_block (length (text_at (stored_in words ls lengths).texts id))) xs id) (sym (chains_are words ls lengths)) in
      λ i. record { texts = appended_texts i; chains = c i }

-- a word that is stored in a block whose words are made ready first
module _ (words vs : List ℕ) (most room : ℕ) (lengths lasts : List ℕ) (free : ℕ) (place : Option Place) (nodes knots : ℕ)
    (ls ms : List (List ℕ)) (id n b w : ℕ) (h : IsBlocks words most lengths lasts free place (record { nodes = nodes; lists = ls }))
    (room_is : room ≡ most) (knots_are : knots ≡ nodes) (lt : id < numbers) (n_is : n ≡ slice_index_or lengths id 0)
    (g : Grown ls ms id n b) (once : (x : ℕ) → times x ms ≤ 1) (vs_are : vs ≡ slice_set (block_ready words b) (128 * b + n % 128) w) where
  made_ready : 128 * b + 128 ≤ length (block_ready words b)
  made_ready =
      let a = length-append words (replicate (128 * b + 128 - length words) 0) in
      let l = length-replicate {A = ℕ} (128 * b + 128 - length words) 0 in
      omega arith

  ready_first : IsBlocks (block_ready words b) room lengths lasts free place (record { nodes = nodes; lists = ls })
  ready_first = ready_blocks words lengths lasts most room (128 * b + 128 - length words) free place (record { nodes = nodes; lists = ls }) room_is h

  pub put_blocks : (left : ℕ) → left + blocks_for (n + 1) ≡ free + blocks_for n
      → IsBlocks vs room (slice_set lengths id (n + 1)) (slice_set lasts id b) left place (record { nodes = knots; lists = ms })
  put_blocks left left_is =
      subst (λ xs. IsBlocks xs room (slice_set lengths id (n + 1)) (slice_set lasts id b) left place (record { nodes = knots; lists = ms })) (sym vs_are)
      (appended_blocks (block_ready words b) room lengths lasts free place nodes knots ls ms id n b w ready_first knots_are lt n_is g once
      made_ready left left_is)

  pub put_view : ms ≡ with_growth (needs_block n) ls id → stored_in vs ms (slice_set lengths id (n + 1)) ≡ with_word_appended
      (stored_in words ls lengths) id w
  put_view ms_are =
      ap (λ xs. stored_in xs ms (slice_set lengths id (n + 1))) vs_are
      ∙ appended_view (block_ready words b) room lengths lasts free place nodes knots ls ms id n b w ready_first knots_are lt n_is g once made_ready ms_are
      ∙ ap (λ s. with_word_appended s id w) (ready_view words (128 * b + 128 - length words) ls lengths)

-- a number loses its words
module _ (words : List ℕ) (most : ℕ) (lengths lasts : List ℕ) (free : ℕ) (place : Option Place) (nodes knots : ℕ) (ls ms : List (List ℕ))
    (id : ℕ) (h : IsBlocks words most lengths lasts free place (record { nodes = nodes; lists = ls })) (knots_are : knots ≡ nodes)
    (lt : id < numbers) (ms_is : ms ≡ slice_set (slice_set ls 0 (free_blocks ls ++ blocks_of ls id)) (id + 1) []) where
  here_none : blocks_of ms id ≡ []
  here_none =
      let l = h.heads in
      let m = length-set ls 0 (free_blocks ls ++ blocks_of ls id) in
      ap (λ xs. blocks_of xs id) ms_is ∙ get_or-set_same (slice_set ls 0 (free_blocks ls ++ blocks_of ls id)) (id + 1) [] [] (omega arith)

  others_stay : (k : ℕ) → k ≢ id → blocks_of ms k ≡ blocks_of ls k
  others_stay k ne =
      ap (λ xs. blocks_of xs k) ms_is
      ∙ get_or-set_other (slice_set ls 0 (free_blocks ls ++ blocks_of ls id)) (id + 1) (k + 1) [] [] (λ e. ne (omega arith))
      ∙ get_or-set_other ls 0 (k + 1) (free_blocks ls ++ blocks_of ls id) [] (omega arith)

  free_more : free_blocks ms ≡ free_blocks ls ++ blocks_of ls id
  free_more =
      let l = h.heads in
      ap (λ xs. free_blocks xs) ms_is
      ∙ get_or-set_other (slice_set ls 0 (free_blocks ls ++ blocks_of ls id)) (id + 1) 0 [] [] (omega arith)
      ∙ get_or-set_same ls 0 (free_blocks ls ++ blocks_of ls id) [] (omega arith)

  none_here : slice_index_or (slice_set lengths id 0) id 0 ≡ 0
  none_here = let l = h.lengths_long in get_or-set_same lengths id 0 0 (omega arith)

  others_long : (k : ℕ) → k ≢ id → slice_index_or (slice_set lengths id 0) k 0 ≡ slice_index_or lengths k 0
  others_long k ne = get_or-set_other lengths id k 0 0 ne

  pub given_blocks : IsBlocks words most (slice_set lengths id 0) lasts (free + blocks_for (slice_index_or lengths id 0)) None
      (record { nodes = knots; lists = ms })
  given_blocks = record {
    most_is = h.most_is;
    lengths_long = length-set lengths id 0 ∙ h.lengths_long;
    lasts_long = h.lasts_long;
    heads =
        ap (λ xs. length xs) ms_is
        ∙ length-set (slice_set ls 0 (free_blocks ls ++ blocks_of ls id)) (id + 1) []
        ∙ length-set ls 0 (free_blocks ls ++ blocks_of ls id)
        ∙ h.heads;
    nodes = knots_are ∙ h.nodes;
    free_is =
        let e = h.free_is in
        let f = ap (λ xs. length xs) free_more in
        let a = length-append (free_blocks ls) (blocks_of ls id) in
        let t = h.fits id lt in
        omega arith;
    fits = λ k kl. elim (cases_eq k id) [
      | inl e ↦ let l = none_here in let a = ap (λ xs. length xs) here_none in rw e (omega arith)
      | inr ne ↦ let l = others_long k ne in let a = ap (λ xs. length xs) (others_stay k ne) in let f = h.fits k kl in omega arith
    ];
    last = λ k kl some. elim (cases_eq k id) [
      | inl e ↦ let a = ap (λ xs. length xs) (ap (λ i. blocks_of ms i) e ∙ here_none) in absurd (omega arith)
      | inr ne ↦ let o = others_stay k ne in let q = ap (λ xs. length xs) o in rw o (h.last k kl (omega arith))
    ];
    ready = λ k i c at. elim (cases_eq k id) [
      | inl e ↦ let none : None ≡ Some c = ap (λ xs. slice_get xs i) (sym (ap (λ j. blocks_of ms j) e ∙ here_none)) ∙ at in cc
      | inr ne ↦ h.ready k i c (ap (λ xs. slice_get xs i) (sym (others_stay k ne)) ∙ at)
    ];
    kept = tt;
    used =
        let l = h.lengths_long in
        let s = sum_by-set blocks_for lengths id 0 0 (omega arith) in
        let f = ap (λ xs. length xs) free_more in
        let a = length-append (free_blocks ls) (blocks_of ls id) in
        let u = h.used in
        let t = h.fits id lt in
        omega arith;
  }

  pub given_texts : (stored_in words ms (slice_set lengths id 0)).texts ≡ slice_set (stored_in words ls lengths).texts id []
  unfolding stored_in
  given_texts =
      table_set numbers (λ k. text_of words (blocks_of ls k) (slice_index_or lengths k 0))
      (λ k. text_of words (blocks_of ms k) (slice_index_or (slice_set lengths id 0) k 0)) id [] lt
      (nil_from_length (text_of words (blocks_of ms id) (slice_index_or (slice_set lengths id 0) id 0))
      (length-table (slice_index_or (slice_set lengths id 0) id 0) (word_in words (blocks_of ms id)) ∙ none_here))
      (λ k kl ne. ap (λ xs. text_of words xs (slice_index_or (slice_set lengths id 0) k 0)) (others_stay k ne)
      ∙ ap (λ m. text_of words (blocks_of ls k) m) (others_long k ne))

  pub given_view : stored_in words ms (slice_set lengths id 0) ≡ after_giving_up (stored_in words ls lengths) id
  given_view =
      let c : (stored_in words ms (slice_set lengths id 0)).chains ≡ (after_giving_up (stored_in words ls lengths) id).chains =
      chains_are words ms (slice_set lengths id 0) ∙ ms_is
      ∙ ap (λ xs. slice_set (slice_set xs 0 (free_blocks xs ++ blocks_of xs id)) (id + 1) []) (sym (chains_are words ls lengths)) in
      λ i. record { texts = given_texts i; chains = c i }

module _ (words : List ℕ) (most : ℕ) (lengths lasts : List ℕ) (free : ℕ) (place : Option Place) (links : Linked) (id : ℕ)
    (h : IsBlocks words most lengths lasts free place links) (lt : id < numbers) where
  -- the lists after a block was found for a word more
  pub grown : (new : Linked) (n b last : ℕ) → n ≡ slice_index_or lengths id 0 → last ≡ slice_index_or lasts id 0
      → (needs_block n ≡ false → (new ≡ links) × (b ≡ last))
      → (needs_block n ≡ true → (first (free_blocks links.lists) ≡ Some b) × (new ≡ record links { lists = with_block links.lists id }))
      → Grown links.lists new.lists id n b
  grown new n b last n_is last_is same fresh =
      let f = h.fits id lt in
      let m = ap (λ k. blocks_for k) n_is in
      elim (cases_Bool (needs_block n)) [
        | inl t ↦ grown_new links.lists new.lists id n b h.heads lt t (omega arith) (fresh t).0 (ap (λ l. l.lists) (fresh t).1)
        | inr t ↦
            let some : n % 128 ≢ 0 = eqb-false (n % 128) 0 t in
            let b_is : slice_index_or lasts id 0 ≡ b = sym last_is ∙ sym (same t).1 in
            let at : slice_get (blocks_of links.lists id) (length (blocks_of links.lists id) - 1) ≡ Some b = h.last id lt (omega arith) ∙ ap Some b_is in
            let e : links.lists ≡ new.lists = ap (λ l. l.lists) (sym (same t).0) in
            subst (λ ms. Grown links.lists ms id n b) e (grown_same links.lists id n b h.heads t (omega arith) at)
      ]

  pub grown_is : (new : Linked) (n b last : ℕ) → (needs_block n ≡ false → (new ≡ links) × (b ≡ last))
      → (needs_block n ≡ true → (first (free_blocks links.lists) ≡ Some b) × (new ≡ record links { lists = with_block links.lists id }))
      → (new.nodes ≡ links.nodes) × (new.lists ≡ with_growth (needs_block n) links.lists id)
  grown_is new n b last same fresh = elim (cases_Bool (needs_block n)) [
    | inl t ↦ rw t (ap (λ l. l.nodes) (fresh t).1, ap (λ l. l.lists) (fresh t).1)
    | inr t ↦ rw t (ap (λ l. l.nodes) (same t).0, ap (λ l. l.lists) (same t).0)
  ]

  -- when there is no room
  pub full_is : (n : ℕ) → n ≡ slice_index_or lengths id 0 → needs_block n ≡ true → free_blocks links.lists ≡ []
      → is_full (stored_in words links.lists lengths) id ≡ true
  full_is n n_is t none =
      let l = ap (λ xs. length xs) none in
      let u = h.used in
      let s = used_is words links.lists lengths h.lengths_long in
      let m : length (text_at (stored_in words links.lists lengths).texts id) ≡ n = length_is words links.lists lengths id lt ∙ sym n_is in
      and_from (needs_block (length (text_at (stored_in words links.lists lengths).texts id))) (eqb (blocks_used (stored_in words links.lists lengths)) 2048)
      (ap (λ k. needs_block k) m ∙ t) (eq-eqb (blocks_used (stored_in words links.lists lengths)) 2048 (omega arith))

  pub room_is : (n b : ℕ) → n ≡ slice_index_or lengths id 0 → (needs_block n ≡ true → first (free_blocks links.lists) ≡ Some b)
      → is_full (stored_in words links.lists lengths) id ≡ false
  room_is n b n_is fresh =
      let m : length (text_at (stored_in words links.lists lengths).texts id) ≡ n = length_is words links.lists lengths id lt ∙ sym n_is in
      elim (cases_Bool (needs_block n)) [
        | inl t ↦
            let r = rest_first (free_blocks links.lists) b (fresh t) in
            let u = h.used in
            let s = used_is words links.lists lengths h.lengths_long in
            and_right (needs_block (length (text_at (stored_in words links.lists lengths).texts id)))
            (eqb (blocks_used (stored_in words links.lists lengths)) 2048)
            (ne_eqb (blocks_used (stored_in words links.lists lengths)) 2048 (λ e. omega arith))
        | inr t ↦ and_left (needs_block (length (text_at (stored_in words links.lists lengths).texts id)))
            (eqb (blocks_used (stored_in words links.lists lengths)) 2048) (ap (λ k. needs_block k) m ∙ t)
      ]

  -- how much room there is
  pub behind_is : (n : ℕ) → n ≡ slice_index_or lengths id 0 → words_left n + 128 * free ≡ room_behind (stored_in words links.lists lengths) id
  unfolding room_behind
  behind_is n n_is =
      let u = h.used in
      let e = h.free_is in
      let s = used_is words links.lists lengths h.lengths_long in
      let l = length_is words links.lists lengths id lt in
      omega arith

  -- a word that is read
  pub word_is : (k n b w : ℕ) → n ≡ slice_index_or lengths id 0 → k < n → slice_get (blocks_of links.lists id) (k / 128) ≡ Some b
      → w ≡ slice_index_or words (128 * b + k % 128) 0 → Some w ≡ slice_get (text_at (stored_in words links.lists lengths).texts id) k
  unfolding word_in
  word_is k n b w n_is less at w_is =
      sym (ap (λ t. slice_get t k) (text_is words links.lists lengths id lt)
      ∙ get-table (slice_index_or lengths id 0) (word_in words (blocks_of links.lists id)) k (omega arith)
      ∙ ap Some (ap (λ c. slice_index_or words (128 * c + k % 128) 0) (get_or_from_slice_get (blocks_of links.lists id) (k / 128) b 0 at) ∙ sym w_is))

  pub past_is : (k n : ℕ) → n ≡ slice_index_or lengths id 0 → n ≤ k → None ≡ slice_get (text_at (stored_in words links.lists lengths).texts id) k
  past_is k n n_is ge = let l = length_is words links.lists lengths id lt in sym
      (slice_get_past (text_at (stored_in words links.lists lengths).texts id) k (omega arith))

-- the first free block was put at the end of a number's
pub with_block_is : (l m k : Linked) (id b : ℕ) → id + 1 < length l.lists → first (free_blocks l.lists) ≡ Some b
    → m ≡ record l { lists = slice_set l.lists 0 (rest (list_at l.lists 0)) }
    → k ≡ record m { lists = slice_set m.lists (id + 1) (list_at m.lists (id + 1) ++ b ∷ []) } → k ≡ record l { lists = with_block l.lists id }
unfolding with_block
with_block_is l m k id b lt at p q =
    let e : k ≡ record l {
      lists = slice_set (slice_set l.lists 0 (rest (list_at l.lists 0))) (id + 1)
          (list_at (slice_set l.lists 0 (rest (list_at l.lists 0))) (id + 1) ++ b ∷ []);
    } = q
    ∙ ap (λ (x : Linked). record x { lists = slice_set x.lists (id + 1) (list_at x.lists (id + 1) ++ b ∷ []) }) p in
    let o = get_or-set_other l.lists 0 (id + 1) (rest (list_at l.lists 0)) [] (omega arith) in
    let t = take_first (free_blocks l.lists) b at in
    e ∙ ap (λ (xs : List ℕ). record l { lists = slice_set (slice_set l.lists 0 (rest (list_at l.lists 0))) (id + 1) (xs ++ b ∷ []) }) o
    ∙ ap (λ (xs : List ℕ). record l { lists = slice_set (slice_set l.lists 0 (rest (list_at l.lists 0))) (id + 1) (blocks_of l.lists id ++ xs) }) (sym t)
