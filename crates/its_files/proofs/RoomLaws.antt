-- Sums over numbers: the blocks in use are those of files and those of drafts.
use Rattle.std.specs.Prelude.{if◌then◌else◌, ◌≡◌, ◌==◌, true, false, ◌<◌, ◌≤◌, ℕ, zero, suc, ◌+◌, ◌*◌, Option, Some, None, List, [], ◌∷◌, length, sum_by, slice_index_or, refl}
use Rattle.std.specs.List.{range_with_len}
use Rattle.std.proofs.Common.{sym, ◌∙◌, ap, inl, inr, arith}
use Rattle.std.proofs.lemmas.Bool.{cases_eq}
use Rattle.std.proofs.lemmas.Bool.Decides.{nat_tests}
use Rattle.std.proofs.lemmas.List.Folds.{fold-map}
use Rattle.std.proofs.lemmas.List.FromFn.{get_or-range_with_len, length-range_with_len}
use Rattle.std.proofs.lemmas.List.Sums.{sum_by-cons}
use Rattle.its_links.specs.Lists.{hit, count}
use Rattle.its_links.proofs.CountLaws.{hit_same, hit_other}
use Rattle.its_files.specs.declared.entry.Entry.{Entry}
use Rattle.its_files.specs.declared.entry.Entry.TheVariants.{File, Draft}
use Rattle.its_files.specs.Blocks.{text_at, blocks_for, blocks_used, numbers}
use Rattle.its_files.specs.Opening.{up_to}
use Rattle.its_files.specs.Files.{Store, IsStore, entry_at, is_file, words_by, words_at, file_at, directory, one_if, unlinked_old}
use Rattle.its_files.proofs.ListLaws.{sum_alike}
use Rattle.its_files.proofs.EntryLaws.{within, file_stands, ordered}

-- sums of weights
pub sum_same : {X : Type 0} (f g : X → ℕ) (xs : List X) → ((x : X) → f x ≡ g x) → sum_by f xs ≡ sum_by g xs
sum_same f g xs h = λ t. sum_by (λ x. h x t) xs

pub sum_plus : {X : Type 0} (f g : X → ℕ) (xs : List X) → sum_by (λ x. f x + g x) xs ≡ sum_by f xs + sum_by g xs
sum_plus f g [] = refl
sum_plus f g (x ∷ xs) =
    let a = sum_by-cons (λ y. f y + g y) x xs in
    let b = sum_by-cons f x xs in
    let c = sum_by-cons g x xs in
    let r = sum_plus f g xs in
    omega arith

pub sum_times : {X : Type 0} (f : X → ℕ) (w : ℕ) (xs : List X) → sum_by (λ x. f x * w) xs ≡ sum_by f xs * w
sum_times f w [] = omega arith
sum_times f w (x ∷ xs) =
    let a = sum_by-cons (λ y. f y * w) x xs in
    let b = ap (λ n. n * w) (sum_by-cons f x xs) in
    let r = sum_times f w xs in
    grind arith

pub sum_nothing : {X : Type 0} (xs : List X) → sum_by (λ x. 0) xs ≡ 0
sum_nothing [] = refl
sum_nothing (x ∷ xs) = let a = sum_by-cons (λ y. 0) x xs in let r = sum_nothing xs in omega arith

-- one number among some
pub sum_hits : (w : ℕ → ℕ) (x : ℕ) (ks : List ℕ) → sum_by (λ k. hit k x * w k) ks ≡ count x ks * w x
sum_hits w x [] = omega arith
sum_hits w x (k ∷ ks) =
    let a = sum_by-cons (λ j. hit j x * w j) k ks in
    let r = sum_hits w x ks in
    elim (cases_eq k x) [
      | inl e ↦
          let p : hit k x * w k ≡ hit x x * w x = ap (λ j. hit j x * w j) e in
          let q : hit x k ≡ hit x x = ap (λ j. hit x j) e in
          let s = hit_same x in
          a ∙ rw (p, q, s, r) (grind arith)
      | inr ne ↦
          let p = hit_other k x ne in
          let q = hit_other x k (λ e. ne (sym e)) in
          a ∙ rw (p, q, r) (grind arith)
    ]

-- each number occurs once among those from a on
count_before : (x a n : ℕ) → x < a → count x (range_with_len a n) ≡ 0
count_before x a zero lt = refl
count_before x a (suc n) lt = let h = hit_other x a (λ e. omega arith) in let r = count_before x (a + 1) n (omega arith) in omega arith

count_range : (x a n : ℕ) → a ≤ x → x < a + n → count x (range_with_len a n) ≡ 1
count_range x a zero le lt = absurd (omega arith)
count_range x a (suc n) le lt = elim (cases_eq x a) [
  | inl e ↦
      let h : hit x a ≡ hit a a = ap (λ j. hit j a) e in
      let s = hit_same a in
      let r = count_before x (a + 1) n (omega arith) in
      omega arith
  | inr ne ↦ let h = hit_other x a ne in let r = count_range x (a + 1) n (omega arith) (omega arith) in omega arith
]

pub count_up_to : (x n : ℕ) → x < n → count x (up_to n) ≡ 1
unfolding up_to
count_up_to x n lt = count_range x 0 n (omega arith) (omega arith)

-- a weight at one number, if it is one of those below n
one_hit : (x k : ℕ) → (if x == k then 1 else 0) ≡ hit k x
one_hit x k = elim (cases_eq x k) [
  | inl e ↦ let t : (x == k) ≡ true = grind (arith, nat_tests) in let h : hit k x ≡ hit x x = ap (λ j. hit j x) (sym e) in rw (t, h, hit_same x) refl
  | inr ne ↦ let t : (x == k) ≡ false = grind (arith, nat_tests) in rw (t, hit_other k x (λ e. ne (sym e))) refl
]

sum_hit : (w : ℕ → ℕ) (x n : ℕ) → sum_by (λ k. (if x == k then 1 else 0) * w k) (up_to n) ≡ count x (up_to n) * w x
sum_hit w x n = sum_same (λ k. (if x == k then 1 else 0) * w k) (λ k. hit k x * w k) (up_to n) (λ k. ap (λ h. h * w k) (one_hit x k)) ∙ sum_hits w x (up_to n)

pub sum_one : (w : ℕ → ℕ) (x n : ℕ) → x < n → sum_by (λ k. (if x == k then 1 else 0) * w k) (up_to n) ≡ w x
sum_one w x n lt = sum_hit w x n ∙ rw (count_up_to x n lt) (omega arith)

pub sum_none : (w : ℕ → ℕ) (x n : ℕ) → w x ≡ 0 → sum_by (λ k. (if x == k then 1 else 0) * w k) (up_to n) ≡ w x
sum_none w x n none = sum_hit w x n ∙ rw none (grind arith)

-- numbers below n, as often as they are listed
pub sum_listed : (w : ℕ → ℕ) (n : ℕ) (xs : List ℕ) → ((x : ℕ) → 0 < count x xs → x < n) → sum_by (λ k. count k xs * w k) (up_to n) ≡ sum_by w xs
sum_listed w n [] below = sum_same (λ k. 0 * w k) (λ k. 0) (up_to n) (λ k. omega arith) ∙ sum_nothing (up_to n)
sum_listed w n (x ∷ xs) below =
    let s = hit_same x in
    let one : count x (up_to n) ≡ 1 = count_up_to x n (below x (omega arith)) in
    let r = sum_listed w n xs (λ y some. below y (omega arith)) in
    let h = sum_hits w x (up_to n) ∙ ap (λ c. c * w x) one in
    let p = sum_plus (λ k. hit k x * w k) (λ k. count k xs * w k) (up_to n) in
    let c = sum_by-cons w x xs in
    sum_same (λ k. (hit k x + count k xs) * w k) (λ k. hit k x * w k + count k xs * w k) (up_to n) (λ k. grind arith) ∙ omega arith

-- the texts of all numbers
pub sum_texts : (f : List ℕ → ℕ) (texts : List (List ℕ)) (n : ℕ) → length texts ≡ n → sum_by f texts ≡ sum_by (λ k. f (text_at texts k)) (up_to n)
unfolding up_to
sum_texts f texts n e =
    sum_alike f (λ k. f (text_at texts k)) texts (range_with_len 0 n) [] 0 (e ∙ sym (length-range_with_len 0 n))
    (λ k lt.
    let i = get_or-range_with_len 0 n k 0 (omega arith) in
    let at : slice_index_or (range_with_len 0 n) k 0 ≡ k = omega arith in
    ap (λ j. f (text_at texts j)) (sym at))

-- the blocks of the text under a number, if it is a draft, and those of all drafts
abbrev pub if_draft : Option Entry → ℕ → ℕ
if_draft None n = 0
if_draft (Some (File names readers)) n = 0
if_draft (Some (Draft names)) n = n

abbrev pub blocks_at : Store → ℕ → ℕ
blocks_at s id = blocks_for (length (words_at s id))

unfoldable pub blocks_in_drafts : Store → ℕ
blocks_in_drafts s = sum_by (λ id. if_draft (entry_at s id) (blocks_at s id)) (up_to numbers)

file_or_draft : (e : Option Entry) (ws : List ℕ) → blocks_for (length (words_by e ws)) ≡ one_if (is_file e) * blocks_for
    (length (words_by e ws)) + if_draft e (blocks_for (length (words_by e ws)))
file_or_draft None ws = omega arith
file_or_draft (Some (File names readers)) ws = omega arith
file_or_draft (Some (Draft names)) ws = omega arith

bare_words : (e : Option Entry) (ws : List ℕ) → (e ≡ None → ws ≡ []) → ws ≡ words_by e ws
bare_words None ws h = h refl
bare_words (Some e) ws h = refl

module _ (s : Store) (whole : IsStore s) (unmarked : s.mark ≡ None) where
  -- only the numbers of files and drafts have words
  pub words_are : (id : ℕ) → text_at s.stored.texts id ≡ words_at s id
  words_are id = bare_words (entry_at s id) (text_at s.stored.texts id)
      (λ e. whole.bare id e (λ u. let v : None ≡ Some id = sym (ap unlinked_old unmarked) ∙ u in cc))

  pub blocks_are : blocks_used s.stored ≡ sum_by (λ f. blocks_for (length f.words)) (directory s) + blocks_in_drafts s
  unfolding blocks_in_drafts
  blocks_are =
      let texts = sum_texts (λ t. blocks_for (length t)) s.stored.texts numbers whole.texts_long in
      let split = sum_same (λ id. blocks_for (length (text_at s.stored.texts id)))
      (λ id. count id s.order * blocks_at s id + if_draft (entry_at s id) (blocks_at s id)) (up_to numbers)
      (λ id. ap (λ ws. blocks_for (length ws)) (words_are id) ∙ file_or_draft (entry_at s id) (text_at s.stored.texts id)
      ∙ ap (λ n. n * blocks_at s id + if_draft (entry_at s id) (blocks_at s id)) (sym (whole.listed id))) in
      let plus = sum_plus (λ id. count id s.order * blocks_at s id) (λ id. if_draft (entry_at s id) (blocks_at s id)) (up_to numbers) in
      let listed = sum_listed (blocks_at s) numbers s.order
      (λ id some. let l = whole.long in let w = within s.entries id
      (file_stands (entry_at s id) (ordered s.entries s.order s.mark s.stored.texts whole id some)) in omega arith) in
      let mapped = fold-map (λ n f. n + blocks_for (length f.words)) (file_at s) 0 s.order in
      texts ∙ split ∙ plus ∙ ap (λ n. n + blocks_in_drafts s) (listed ∙ sym mapped)
