-- The lines that are written of a machine are fewer than a session may have.
use Rattle.std.specs.Prelude.{if◌then◌else◌, ◌≡◌, ◌≤◌, ◌<◌, ◌==◌, ◌&&◌, ℕ, zero, suc, ◌+◌, ◌*◌, ◌/◌, ◌^◌, Bool, true, false, not, cond, Option, Some, None, List, [], ◌∷◌, ◌++◌, length, drop, nat_lt, is_some, slice_get, sum_by, count_by, refl}
use Rattle.std.specs.List.{range_with_len}
use Rattle.std.proofs.Common.{sym, ◌∙◌, ap, subst, arith, append_assoc, append-nil}
use Rattle.std.proofs.lemmas.Bool.{and_right, eq-eqb}
use Rattle.std.proofs.lemmas.List.{length-append, length-drop, length-map}
use Rattle.std.proofs.lemmas.List.Sums.{sum_by-cons}
use Rattle.its_word.specs.Limits.{slots, consoles, most_symbols}
use Rattle.its_word.specs.Console.{Console}
use Rattle.its_word.specs.Core.{Core, Page, present, page_of, word_at, pages_present, pages_mapped}
use Rattle.its_records.specs.Links.{most_links, link_end, is_closed}
use Rattle.its_records.specs.declared.state_line.StateLine.TheVariants as states
use Rattle.its_plain.specs.Machine.{File, Chan, Shut, TtyIn, TtyOut, Reads, Writes, On, Linked, Symbol, Pipe, Whole, Machine, core_of, mapped}
use Rattle.its_plain.specs.Machine.Change.{channel_in}
use Rattle.its_plain.specs.Call.File.{blocks_for, blocks_on, blocks_of_files, blocks_of_drafts}
use Rattle.its_plain.specs.Operator.Files.{channels_of}
use Rattle.its_plain.specs.Transcript.Turns.{highest}
use Rattle.its_saved.specs.StateLine.{StateLine as Saved}
use Rattle.its_saved.specs.StateLine as saves
use Rattle.its_saved.specs.Saving.{each, in_rows, file_lines, files_lines, begins_page, cell_of, cells_below, is_next, rows_from, rows, word_lines, read_only_line, read_only_lines, core_lines, symbol_lines, registers_of, job_lines, under_by, under_line, alarm_by, alarm_line, channel_lines, shut_line, link_lines, console_lines, holder_line, saved}
use Rattle.its_saved.specs.Text.{line_of, lines_of, turn_lines, saved_lines}
use Rattle.its_saved.specs.WellFormed.{KeptByTypes}
use Rattle.its_saved.proofs.CoreLaws.{absent_word}

-- sums of numbers below a bound, from its last or from its first
abbrev sum_below : (ℕ → ℕ) → ℕ → ℕ
sum_below f zero = 0
sum_below f (suc n) = sum_below f n + f n

abbrev sum_from : (ℕ → ℕ) → ℕ → ℕ → ℕ
sum_from f a zero = 0
sum_from f a (suc n) = f a + sum_from f (a + 1) n

from_last : (f : ℕ → ℕ) (a n : ℕ) → sum_from f a (suc n) ≡ sum_from f a n + f (a + n)
from_last f a zero = (let e : f (a + 0) ≡ f a = ap f (omega arith) in omega arith)
from_last f a (suc n) =
    let h = from_last f (a + 1) n in
    let e : f (a + 1 + n) ≡ f (a + suc n) = ap f (omega arith) in
    omega arith

below_from : (f : ℕ → ℕ) (n : ℕ) → sum_below f n ≡ sum_from f 0 n
below_from f zero = refl
below_from f (suc n) =
    let h = below_from f n in
    let l = from_last f 0 n in
    let e : f (0 + n) ≡ f n = ap f (omega arith) in
    omega arith

from_by : (f : ℕ → ℕ) (a n : ℕ) → sum_from f a n ≡ sum_by f (range_with_len a n)
from_by f a zero = refl
from_by f a (suc n) =
    let x = sum_by-cons f a (range_with_len (a + 1) n) in
    let h = from_by f (a + 1) n in
    omega arith

below_by : (f : ℕ → ℕ) (n : ℕ) → sum_below f n ≡ sum_by f (range_with_len 0 n)
below_by f n = below_from f n ∙ from_by f 0 n

-- lines for the numbers below a bound
each_length : (f : ℕ → List Saved) (g : ℕ → ℕ) (n : ℕ) → ((k : ℕ) → k < n → length (f k) ≤ g k) → length (each f n) ≤ sum_below g n
each_length f g zero h = omega arith
each_length f g (suc n) h =
    let a = length-append (each f n) (f n) in
    let b = each_length f g n (λ k l. h k (omega arith)) in
    let c = h n (omega arith) in
    omega arith

each_one : (f : ℕ → List Saved) (n : ℕ) → ((k : ℕ) → length (f k) ≤ 1) → length (each f n) ≤ n
each_one f zero h = omega arith
each_one f (suc n) h = (let a = length-append (each f n) (f n) in let b = each_one f n h in let c = h n in omega arith)

each_four : (f : ℕ → List Saved) (n : ℕ) → ((k : ℕ) → length (f k) ≤ 4) → length (each f n) ≤ n * 4
each_four f zero h = omega arith
each_four f (suc n) h = (let a = length-append (each f n) (f n) in let b = each_four f n h in let c = h n in omega arith)

each_six : (f : ℕ → List Saved) (n : ℕ) → ((k : ℕ) → length (f k) ≤ 6) → length (each f n) ≤ n * 6
each_six f zero h = omega arith
each_six f (suc n) h = (let a = length-append (each f n) (f n) in let b = each_six f n h in let c = h n in omega arith)

-- lines of two parts
both_few : (xs ys : List Saved) (a b : ℕ) → length xs ≤ a → length ys ≤ b → length (xs ++ ys) ≤ a + b
both_few xs ys a b h k = (let l = length-append xs ys in omega arith)

le_then : (a b c : ℕ) → a ≤ b → b ≤ c → a ≤ c
le_then a b c h k = omega arith

-- words in rows
rows_most : (line : List ℕ → Saved) (size n : ℕ) (ws : List ℕ) → length (in_rows line size n ws) ≤ n
rows_most line size zero ws = omega arith
rows_most line size (suc n) [] = omega arith
rows_most line size (suc n) (w ∷ ws) = (let h = rows_most line size n (drop size (w ∷ ws)) in omega arith)

rows_few : (line : List ℕ → Saved) (n : ℕ) (ws : List ℕ) → 16 * length (in_rows line 16 n ws) ≤ length ws + 15
rows_few line zero ws = omega arith
rows_few line (suc n) [] = omega arith
rows_few line (suc n) (w ∷ ws) =
    let h = rows_few line n (drop 16 (w ∷ ws)) in
    let d = length-drop 16 (w ∷ ws) in
    omega arith

rows_blocks : (line : List ℕ → Saved) (n : ℕ) (ws : List ℕ) → length (in_rows line 16 n ws) ≤ 8 * blocks_for (length ws)
rows_blocks line n ws = (let h = rows_few line n ws in omega arith)

files_few : (fs : List File) → length (files_lines fs) ≤ length fs + 8 * blocks_of_files fs
files_few [] = omega arith
files_few (f ∷ fs) =
    let a = length-append (file_lines f) (files_lines fs) in
    let b = rows_blocks (saves.FileWords f.names) (length f.words) f.words in
    let c = sum_by-cons (λ g. blocks_for (length g.words)) f fs in
    let d = files_few fs in
    omega arith

-- the rows of a core: how many begin after the one that is open
abbrev added : ℕ → ℕ → List (ℕ × ℕ) → ℕ
added a n [] = 0
added a n (c ∷ cells) = if (c.0 == a + n) && nat_lt n 16 then added a (n + 1) cells else suc (added c.0 1 cells)

rows_added : (s a : ℕ) (ws : List ℕ) (cells : List (ℕ × ℕ)) → length (rows_from s a ws cells) ≡ suc (added a (length ws) cells)
rows_added s a ws [] = refl
rows_added s a ws (c ∷ cells) =
    by (is_next a ws c.0)
    (rows_added s a (ws ++ c.1 ∷ []) cells ∙ ap (λ n. suc (added a n cells)) (length-append ws (c.1 ∷ [])))
    (rows_added s c.0 (c.1 ∷ []) cells)
  where
    by : (t : Bool) → length (rows_from s a (ws ++ c.1 ∷ []) cells) ≡ suc (added a (length ws + 1) cells)
        → length (rows_from s c.0 (c.1 ∷ []) cells) ≡ suc (added c.0 1 cells)
        → length (if t then rows_from s a (ws ++ c.1 ∷ []) cells else saves.CoreWords s a ws ∷ rows_from s c.0 (c.1 ∷ []) cells)
        ≡ suc (if t then added a (length ws + 1) cells else suc (added c.0 1 cells))
    by true one two = one
    by false one two = ap suc two

-- at most so many begin, whichever row is open
abbrev Bounded : ℕ → List (ℕ × ℕ) → Type 0
Bounded n cells = (a k : ℕ) → added a k cells ≤ n

bounded_more : (n : ℕ) (cells : List (ℕ × ℕ)) → Bounded n cells → Bounded (suc n) cells
bounded_more n cells h a k = (let x = h a k in omega arith)

bounded_one : (n : ℕ) (c : ℕ × ℕ) (cells : List (ℕ × ℕ)) → Bounded n cells → Bounded (suc n) (c ∷ cells)
bounded_one n c cells h a k = by ((c.0 == a + k) && nat_lt k 16)
  where
    by : (t : Bool) → (if t then added a (k + 1) cells else suc (added c.0 1 cells)) ≤ suc n
    by true = (let x = h a (k + 1) in omega arith)
    by false = (let x = h c.0 1 in omega arith)

-- of two words that follow each other at most one begins a row
bounded_two : (n b w u : ℕ) (cells : List (ℕ × ℕ)) → Bounded n cells → Bounded (suc n) ((b, w) ∷ (b + 1, u) ∷ cells)
bounded_two n b w u cells h a k =
    by ((b == a + k) && nat_lt k 16) (bounded_one n (b + 1, u) cells h a (k + 1)) (subst (λ x. x ≤ n) (sym joins) (h b 2))
  where
    test : (t : Bool) → t ≡ true → (if t then added b 2 cells else suc (added (b + 1) 1 cells)) ≡ added b 2 cells
    test true e = refl
    test false e = cc

    joins : added b 1 ((b + 1, u) ∷ cells) ≡ added b 2 cells
    joins = test ((b + 1 == b + 1) && nat_lt 1 16) (ap (λ t. t && nat_lt 1 16) (eq-eqb (b + 1) (b + 1) refl))

    by : (t : Bool) → added a (k + 1) ((b + 1, u) ∷ cells) ≤ suc n → added b 1 ((b + 1, u) ∷ cells) ≤ n
        → (if t then added a (k + 1) ((b + 1, u) ∷ cells) else suc (added b 1 ((b + 1, u) ∷ cells))) ≤ suc n
    by true x y = x
    by false x y = omega arith

data IsCell (a : ℕ) : List (ℕ × ℕ) → Type 0 where
  no_cell : IsCell a []
  a_cell : (w : ℕ) → IsCell a ((a, w) ∷ [])

is_cell : (a : ℕ) (o : Option ℕ) → IsCell a (cell_of a o)
is_cell a None = no_cell
is_cell a (Some w) = by ((w == 0) && not (begins_page a))
  where
    by : (t : Bool) → IsCell a (if t then [] else (a, w) ∷ [])
    by true = no_cell
    by false = a_cell w

bounded_pair : (n b : ℕ) (xs ys cells : List (ℕ × ℕ)) → IsCell b xs → IsCell (b + 1) ys → Bounded n cells → Bounded (suc n) (xs ++ (ys ++ cells))
bounded_pair n b xs ys cells no_cell no_cell h = bounded_more n cells h
bounded_pair n b xs ys cells no_cell (a_cell u) h = bounded_one n (b + 1, u) cells h
bounded_pair n b xs ys cells (a_cell w) no_cell h = bounded_one n (b, w) cells h
bounded_pair n b xs ys cells (a_cell w) (a_cell u) h = bounded_two n b w u cells h

-- of a page that is there at most 512 words begin rows
abbrev rows_in : Option Page → ℕ
rows_in (Some p) = 512
rows_in None = 0

-- the cells from an address on, before others
module _ (c : Core) where
  abbrev cells_to : ℕ → ℕ → List (ℕ × ℕ) → List (ℕ × ℕ)
  cells_to a zero rest = rest
  cells_to a (suc n) rest = cell_of a (word_at c a) ++ cells_to (a + 1) n rest

  cells_last : (n a : ℕ) (rest : List (ℕ × ℕ)) → cells_to a (suc n) rest ≡ cells_to a n (cell_of (a + n) (word_at c (a + n)) ++ rest)
  cells_last zero a rest = (let e : a ≡ a + 0 = omega arith in ap (λ x. cell_of x (word_at c x) ++ rest) e)
  cells_last (suc n) a rest =
      let e : a + 1 + n ≡ a + suc n = omega arith in
      ap (λ xs. cell_of a (word_at c a) ++ xs)
      (cells_last n (a + 1) rest ∙ ap (λ x. cells_to (a + 1) n (cell_of x (word_at c x) ++ rest)) e)

  cells_are : (n : ℕ) (rest : List (ℕ × ℕ)) → cells_below c n ++ rest ≡ cells_to 0 n rest
  cells_are zero rest = refl
  cells_are (suc n) rest =
      let e : n ≡ 0 + n = omega arith in
      append_assoc (cells_below c n) (cell_of n (word_at c n)) rest
      ∙ cells_are n (cell_of n (word_at c n) ++ rest)
      ∙ ap (λ x. cells_to 0 n (cell_of x (word_at c x) ++ rest)) e
      ∙ sym (cells_last n 0 rest)

  cells_split : (n k a : ℕ) (rest : List (ℕ × ℕ)) → cells_to a (n + k) rest ≡ cells_to a n (cells_to (a + n) k rest)
  cells_split zero k a rest =
      let z : 0 + k ≡ k = omega arith in
      let e : a ≡ a + 0 = omega arith in
      ap (λ x. cells_to a x rest) z ∙ ap (λ x. cells_to x k rest) e
  cells_split (suc n) k a rest =
      let z : suc n + k ≡ suc (n + k) = omega arith in
      let e : a + 1 + n ≡ a + suc n = omega arith in
      ap (λ x. cells_to a x rest) z
      ∙ ap (λ xs. cell_of a (word_at c a) ++ xs) (cells_split n k (a + 1) rest ∙ ap (λ x. cells_to (a + 1) n (cells_to x k rest)) e)

  abbrev twice : ℕ → ℕ
  twice zero = zero
  twice (suc k) = suc (suc (twice k))

  twice_is : (k : ℕ) → twice k ≡ 2 * k
  twice_is zero = refl
  twice_is (suc k) = (let h = twice_is k in omega arith)

  pairs_bounded : (k a n : ℕ) (rest : List (ℕ × ℕ)) → Bounded n rest → Bounded (k + n) (cells_to a (twice k) rest)
  pairs_bounded zero a n rest h = subst (λ x. Bounded x rest) (let z : n ≡ 0 + n = omega arith in z) h
  pairs_bounded (suc k) a n rest h =
      subst (λ x. Bounded x (cells_to a (twice (suc k)) rest)) (let z : suc (k + n) ≡ suc k + n = omega arith in z)
      (bounded_pair (k + n) a (cell_of a (word_at c a)) (cell_of (a + 1) (word_at c (a + 1))) (cells_to (a + 1 + 1) (twice k) rest)
      (is_cell a (word_at c a)) (is_cell (a + 1) (word_at c (a + 1))) (pairs_bounded k (a + 1 + 1) n rest h))

  page_bounded : (a n : ℕ) (rest : List (ℕ × ℕ)) → Bounded n rest → Bounded (512 + n) (cells_to a 1024 rest)
  page_bounded a n rest h = subst (λ x. Bounded (512 + n) (cells_to a x rest)) (twice_is 512) (pairs_bounded 512 a n rest h)

  -- a page that is absent has no cell
  absent_cells : (n a : ℕ) (rest : List (ℕ × ℕ)) → ((i : ℕ) → i < n → word_at c (a + i) ≡ None) → cells_to a n rest ≡ rest
  absent_cells zero a rest h = refl
  absent_cells (suc n) a rest h =
      let e : a + 0 ≡ a = omega arith in
      let here : word_at c a ≡ None = subst (λ x. word_at c x ≡ None) e (h 0 (omega arith)) in
      ap (λ o. cell_of a o ++ cells_to (a + 1) n rest) here
      ∙ absent_cells n (a + 1) rest (λ i l. subst (λ x. word_at c x ≡ None) (let e : a + suc i ≡ a + 1 + i = omega arith in e) (h (suc i) (omega arith)))

  abbrev rows_of : ℕ → ℕ
  rows_of p = rows_in (page_of c p)

  abbrev pages_to : ℕ → ℕ → List (ℕ × ℕ)
  pages_to p zero = []
  pages_to p (suc n) = cells_to (1024 * p) 1024 (pages_to (p + 1) n)

  pages_are : (n p : ℕ) → cells_to (1024 * p) (1024 * n) [] ≡ pages_to p n
  pages_are zero p = refl
  pages_are (suc n) p =
      let e : 1024 * suc n ≡ 1024 + 1024 * n = omega arith in
      let f : 1024 * p + 1024 ≡ 1024 * (p + 1) = omega arith in
      ap (λ x. cells_to (1024 * p) x []) e ∙ cells_split 1024 (1024 * n) (1024 * p) []
      ∙ ap (λ x. cells_to (1024 * p) 1024 (cells_to x (1024 * n) [])) f ∙ ap (cells_to (1024 * p) 1024) (pages_are n (p + 1))

  pages_bounded : (n p : ℕ) → 1 ≤ p → Bounded (sum_from rows_of p n) (pages_to p n)
  pages_bounded zero p l = λ a k. omega arith
  pages_bounded (suc n) p l = by (page_of c p) refl (pages_bounded n (p + 1) (omega arith))
    where
      absent : page_of c p ≡ None → (i : ℕ) → i < 1024 → word_at c (1024 * p + i) ≡ None
      absent e i b =
          let q : p ≡ (1024 * p + i) / 1024 = omega arith in
          absent_word c (1024 * p + i) (omega arith) (subst (λ x. page_of c x ≡ None) q e)

      by : (o : Option Page) → page_of c p ≡ o → Bounded (sum_from rows_of (p + 1) n) (pages_to (p + 1) n)
          → Bounded (rows_in o + sum_from rows_of (p + 1) n) (pages_to p (suc n))
      by (Some q) e h = page_bounded (1024 * p) (sum_from rows_of (p + 1) n) (pages_to (p + 1) n) h
      by None e h =
          subst (λ x. Bounded x (pages_to p (suc n))) (let z : sum_from rows_of (p + 1) n ≡ 0 + sum_from rows_of (p + 1) n = omega arith in z)
          (subst (Bounded (sum_from rows_of (p + 1) n)) (sym (absent_cells 1024 (1024 * p) (pages_to (p + 1) n) (absent e))) h)

  -- 512 for page 0, which is with the accumulators, and for each page that is there
  all_bounded : (n k : ℕ) → n ≡ 1024 * suc k → Bounded (512 + sum_from rows_of 1 k) (cells_below c n)
  all_bounded n k e =
      let z : 0 ≡ 1024 * 0 = omega arith in
      subst (Bounded (512 + sum_from rows_of 1 k))
      (sym (sym (append-nil (cells_below c n)) ∙ cells_are n [] ∙ ap (λ x. cells_to 0 x []) e ∙ ap (λ x. cells_to x (1024 * suc k) []) z ∙ pages_are (suc k) 0))
      (page_bounded (1024 * 0) (sum_from rows_of 1 k) (pages_to (0 + 1) k) (pages_bounded k (0 + 1) (omega arith)))

unfoldable core_rows : Core → ℕ
core_rows c = sum_from (rows_of c) 1 255

cells_bounded : (c : Core) → Bounded (512 + core_rows c) (cells_below c (2 ^ 18))
unfolding core_rows
cells_bounded c = all_bounded c (2 ^ 18) 255 refl

-- the pages that are there
from_next : (f : ℕ → ℕ) (a n : ℕ) → sum_from f (a + 1) n ≡ sum_from (λ k. f (suc k)) a n
from_next f a zero = refl
from_next f a (suc n) =
    let h = from_next f (a + 1) n in
    let e : f (a + 1) ≡ f (suc a) = ap f (omega arith) in
    omega arith

nothing_from : (n a : ℕ) → sum_from (λ k. rows_in (present (slice_get [] k))) a n ≡ 0
nothing_from zero a = refl
nothing_from (suc n) a = (let h = nothing_from n (a + 1) in omega arith)

pages_counted : (ps : List (Option Page)) (n : ℕ) → sum_from (λ k. rows_in (present (slice_get ps k))) 0 n ≤ 512 * count_by is_some ps
pages_counted [] n = (let h = nothing_from n 0 in omega arith)
pages_counted (o ∷ ps) zero = omega arith
pages_counted (o ∷ ps) (suc n) =
    let h = pages_counted ps n in
    let x = from_next (λ k. rows_in (present (slice_get (o ∷ ps) k))) 0 n in
    let y = sum_by-cons (λ q. cond (is_some q) 1 0) o ps in
    by o h x y
  where
    by : (o : Option Page) → sum_from (λ k. rows_in (present (slice_get ps k))) 0 n ≤ 512 * count_by is_some ps
        → sum_from (λ k. rows_in (present (slice_get (o ∷ ps) k))) (0 + 1) n ≡ sum_from (λ k. rows_in (present (slice_get ps k))) 0 n
        → count_by is_some (o ∷ ps) ≡ cond (is_some o) 1 0 + count_by is_some ps
        → rows_in (present (Some o)) + sum_from (λ k. rows_in (present (slice_get (o ∷ ps) k))) (0 + 1) n ≤ 512 * count_by is_some (o ∷ ps)
    by (Some p) h x y = omega arith
    by None h x y = omega arith

first_less : (f : ℕ → ℕ) (n : ℕ) → sum_from f (0 + 1) n ≤ sum_from f 0 (suc n)
first_less f n = omega arith

core_rows_few : (c : Core) → core_rows c ≤ 512 * pages_present c
unfolding core_rows page_of pages_present
core_rows_few c =
    le_then (sum_from (rows_of c) 1 255) (sum_from (rows_of c) 0 256) (512 * count_by is_some c.pages) (first_less (rows_of c) 255)
    (pages_counted c.pages 256)

rows_bounded : (s n : ℕ) (cells : List (ℕ × ℕ)) → Bounded n cells → length (rows s cells) ≤ n
rows_bounded s n [] h = omega arith
rows_bounded s n (x ∷ cells) h = subst (λ k. k ≤ n) (sym (rows_added s x.0 (x.1 ∷ []) cells ∙ sym opens)) (h 0 16)
  where
    test : (t : Bool) → t ≡ false → (if t then added 0 17 cells else suc (added x.0 1 cells)) ≡ suc (added x.0 1 cells)
    test true e = cc
    test false e = refl

    opens : added 0 16 (x ∷ cells) ≡ suc (added x.0 1 cells)
    opens = test ((x.0 == 0 + 16) && nat_lt 16 16) (and_right (x.0 == 0 + 16) (nat_lt 16 16) refl)

page_few : (s k : ℕ) (o : Option Page) → length (read_only_line s k o) ≤ 1
page_few s k None = omega arith
page_few s k (Some p) = by p.writable
  where
    by : (t : Bool) → length (if t then [] else saves.ReadOnly s k ∷ []) ≤ 1
    by true = omega arith
    by false = omega arith

core_sum : (r p : ℕ) → r ≤ 512 * p → (512 + r) + 256 ≤ 768 + 512 * p
core_sum r p h = omega arith

core_few : (s : ℕ) (c : Core) → length (core_lines s c) ≤ 768 + 512 * pages_present c
unfolding word_lines read_only_lines
core_few s c =
    let b = rows_bounded s (512 + core_rows c) (cells_below c (2 ^ 18)) (cells_bounded c) in
    let d = each_one (λ k. read_only_line s k (page_of c k)) 256 (λ k. page_few s k (page_of c k)) in
    le_then _ ((512 + core_rows c) + 256) _
    (both_few (rows s (cells_below c (2 ^ 18))) (each (λ k. read_only_line s k (page_of c k)) 256) (512 + core_rows c) 256 b d)
    (core_sum (core_rows c) (pages_present c) (core_rows_few c))

-- jobs
symbols_length : (s : ℕ) (xs : List Symbol) → length (symbol_lines s xs) ≡ length xs
symbols_length s [] = refl
symbols_length s (x ∷ xs) = ap suc (symbols_length s xs)

job_sum : (n p : ℕ) → n ≤ (768 + 512 * p) + (512 + 1) → suc n ≤ 1282 + 512 * p
job_sum n p h = omega arith

job_few : (symbols : ℕ → List Symbol) (s : ℕ) (o : Option Whole) → length (symbols s) ≤ most_symbols
    → length (job_lines symbols s o) ≤ 1282 + 512 * pages_present (core_of o)
job_few symbols s None few = omega arith
job_few symbols s (Some q) few =
    let regs = saves.Regs s (registers_of q.job) ∷ [] in
    job_sum (length (core_lines s q.core ++ (symbol_lines s (symbols s) ++ regs))) (pages_present q.core)
    (both_few (core_lines s q.core) (symbol_lines s (symbols s) ++ regs) (768 + 512 * pages_present q.core) (512 + 1) (core_few s q.core)
    (both_few (symbol_lines s (symbols s)) regs 512 1 (subst (λ k. k ≤ 512) (sym (symbols_length s (symbols s))) few) (omega arith)))

of_jobs : (f : ℕ → ℕ) (n : ℕ) → sum_below (λ k. 1282 + 512 * f k) n ≡ n * 1282 + 512 * sum_below f n
of_jobs f zero = refl
of_jobs f (suc n) = (let h = of_jobs f n in omega arith)

jobs_bound : (f : ℕ → List Saved) (p : ℕ → ℕ) (n : ℕ) → ((k : ℕ) → length (f k) ≤ 1282 + 512 * p k)
    → length (each f n) ≤ n * 1282 + 512 * sum_by p (range_with_len 0 n)
jobs_bound f p n h =
    let a = each_length f (λ k. 1282 + 512 * p k) n (λ k l. h k) in
    let b = of_jobs p n in
    let c = below_by p n in
    omega arith

jobs_few : (m : Machine) → KeptByTypes m → length (each (λ k. job_lines m.symbols k (m.jobs k)) slots) ≤ 96 * 1282 + 512 * mapped m
unfolding pages_mapped
jobs_few m types =
    jobs_bound (λ k. job_lines m.symbols k (m.jobs k)) (λ k. pages_present (core_of (m.jobs k))) slots
    (λ k. job_few m.symbols k (m.jobs k) (types.few_symbols k))

under_few : (k : ℕ) (o : Option Whole) → length (under_line k o) ≤ 1
under_few k None = omega arith
under_few k (Some q) = by q.superior
  where
    by : (t : Option ℕ) → length (under_by k t) ≤ 1
    by None = omega arith
    by (Some t) = omega arith

alarm_few : (k : ℕ) (o : Option Whole) → length (alarm_line k o) ≤ 1
alarm_few k None = omega arith
alarm_few k (Some q) = by q.alarm
  where
    by : (a : Option (ℕ × ℕ)) → length (alarm_by k a) ≤ 1
    by None = omega arith
    by (Some a) = omega arith

-- channels
channel_few : (m : Machine) (k n : ℕ) (c : Chan) → length (channel_lines m k n c) ≤ 1 + 8 * blocks_on c
channel_few m k n Shut = omega arith
channel_few m k n TtyIn = omega arith
channel_few m k n TtyOut = omega arith
channel_few m k n (Reads x at) = omega arith
channel_few m k n (Writes f) = (let h = rows_blocks (saves.Wrote k n) (length f.words) f.words in omega arith)
channel_few m k n (On t w at) = omega arith
channel_few m k n (Linked l w) = omega arith

of_channels : (f : ℕ → ℕ) (n : ℕ) → sum_below (λ k. 1 + 8 * f k) n ≡ n + 8 * sum_below f n
of_channels f zero = refl
of_channels f (suc n) = (let h = of_channels f n in omega arith)

of_slots : (f : ℕ → ℕ) (n : ℕ) → sum_below (λ k. 16 + 8 * f k) n ≡ n * 16 + 8 * sum_below f n
of_slots f zero = refl
of_slots f (suc n) = (let h = of_slots f n in omega arith)

channels_bound : (f : ℕ → List Saved) (p : ℕ → ℕ) (n : ℕ) → ((k : ℕ) → length (f k) ≤ 1 + 8 * p k)
    → length (each f n) ≤ n + 8 * sum_by p (range_with_len 0 n)
channels_bound f p n h =
    let a = each_length f (λ k. 1 + 8 * p k) n (λ k l. h k) in
    let b = of_channels p n in
    let c = below_by p n in
    omega arith

slots_bound : (f : ℕ → List Saved) (p : ℕ → ℕ) (n : ℕ) → ((k : ℕ) → length (f k) ≤ 16 + 8 * p k)
    → length (each f n) ≤ n * 16 + 8 * sum_by p (range_with_len 0 n)
slots_bound f p n h =
    let a = each_length f (λ k. 16 + 8 * p k) n (λ k l. h k) in
    let b = of_slots p n in
    let c = below_by p n in
    omega arith

channels_few : (m : Machine) → length (each (λ k. each (λ n. channel_lines m k n (channel_in (m.jobs k) n)) 16) slots)
    ≤ 96 * 16 + 8 * blocks_of_drafts (channels_of m)
unfolding blocks_of_drafts
channels_few m =
    slots_bound (λ k. each (λ n. channel_lines m k n (channel_in (m.jobs k) n)) 16)
    (λ k. sum_by (λ n. blocks_on (channels_of m k n)) (range_with_len 0 16)) slots
    (λ k. channels_bound (λ n. channel_lines m k n (channel_in (m.jobs k) n)) (λ n. blocks_on (channel_in (m.jobs k) n)) 16
    (λ n. channel_few m k n (channel_in (m.jobs k) n)))

-- links and consoles
link_few : (l : ℕ) (o : Option Pipe) → length (link_lines l o) ≤ 6
link_few l None = omega arith
link_few l (Some p) =
    let a = length-append (in_rows (saves.Sent l) 16 4 p.words) (shut_line l false p ++ shut_line l true p) in
    let b = length-append (shut_line l false p) (shut_line l true p) in
    let c = rows_most (saves.Sent l) 16 4 p.words in
    let d = by false (is_closed (link_end false p.link)) in
    let e = by true (is_closed (link_end true p.link)) in
    omega arith
  where
    by : (w t : Bool) → length (if t then saves.EndShut l w ∷ [] else []) ≤ 1
    by w true = omega arith
    by w false = omega arith

console_few : (at : ℕ → Console) (c : ℕ) → length (console_lines at c) ≤ 4
console_few at c =
    let a = length-append (in_rows (saves.Bytes c false) 32 2 (at c).input) (in_rows (saves.Bytes c true) 32 2 (at c).output) in
    let b = rows_most (saves.Bytes c false) 32 2 (at c).input in
    let d = rows_most (saves.Bytes c true) 32 2 (at c).output in
    omega arith

holder_few : (c : ℕ) (o : Option ℕ) → length (holder_line c o) ≤ 1
holder_few c None = omega arith
holder_few c (Some s) = omega arith

-- all lines
two_more : (n k : ℕ) → n ≤ k → suc (suc n) ≤ 2 + k
two_more n k h = omega arith

saved_few : (m : Machine) → KeptByTypes m → length (saved m) ≤ 700000
unfolding saved
saved_few m types =
    le_then _ (2 + ((length m.files + 8 * blocks_of_files m.files) + ((96 * 1282 + 512 * mapped m)
    + (96 + (96 + ((96 * 16 + 8 * blocks_of_drafts (channels_of m)) + (96 + (32 + 8)))))))) 700000
    (two_more _ _
    (both_few (files_lines m.files) _ _ _ (files_few m.files)
    (both_few (each (λ k. job_lines m.symbols k (m.jobs k)) slots) _ _ _ (jobs_few m types)
    (both_few (each (λ k. under_line k (m.jobs k)) slots) _ _ _ (each_one (λ k. under_line k (m.jobs k)) slots (λ k. under_few k (m.jobs k)))
    (both_few (each (λ k. alarm_line k (m.jobs k)) slots) _ _ _ (each_one (λ k. alarm_line k (m.jobs k)) slots (λ k. alarm_few k (m.jobs k)))
    (both_few (each (λ k. each (λ n. channel_lines m k n (channel_in (m.jobs k) n)) 16) slots) _ _ _ (channels_few m)
    (both_few (each (λ l. link_lines l (m.links l)) most_links) _ _ _ (each_six (λ l. link_lines l (m.links l)) most_links (λ l. link_few l (m.links l)))
    (both_few (each (console_lines m.consoles) consoles) _ _ _ (each_four (console_lines m.consoles) consoles (console_few m.consoles))
    (each_one (λ c. holder_line c (m.holders c)) consoles (λ c. holder_few c (m.holders c)))))))))))
    (let d0 = types.few_files in let d1 = types.few_blocks in let d2 = types.few_pages in omega arith)

turn_few : (turn : ℕ) → length (turn_lines turn) ≤ 1
turn_few turn = by (turn == highest)
  where
    by : (t : Bool) → length (if t then [] else states.Turn turn ∷ []) ≤ 1
    by true = omega arith
    by false = omega arith

-- less than the 1048576 that a session may have
pub lines_few : (m : Machine) (turn : ℕ) → KeptByTypes m → length (saved_lines m turn) ≤ 700002
lines_few m turn types =
    let a = length-append (lines_of (saved m)) (turn_lines turn ++ states.Ready ∷ []) in
    let b = length-append (turn_lines turn) (states.Ready ∷ []) in
    let c = length-map (saved m) line_of in
    let d = turn_few turn in
    let e = saved_few m types in
    omega arith
