-- A store as it is made.
use Rattle.std.specs.Prelude.{◌≡◌, ◌<◌, ℕ, ◌+◌, ◌*◌, Some, None, List, [], ◌∷◌, ◌++◌, length, sum_by, slice_get, slice_set, slice_index_or, refl}
use Rattle.std.proofs.Common.{sym, ◌∙◌, ap, inl, inr, arith, length-set}
use Rattle.std.proofs.lemmas.List.{get_or-set_same, get_or-set_other, set-set, set-get_or, ext_get_or, nil_from_length, get_or_append_left, get_or_push, length_push}
use Rattle.std.proofs.lemmas.Bool.{cases_lt}
use Rattle.std.proofs.lemmas.List.FromFn.{length-range_with_len, get_or-range_with_len}
use Rattle.std.specs.List.{range_with_len}
use Rattle.std.proofs.lemmas.List.Folds.{sum_by-replicate}
use Rattle.its_links.specs.Lists.{Linked, list_at, no_lists}
use Rattle.its_links.proofs.CountLaws.{length-no_lists, list_at-no_lists}
use Rattle.its_files.specs.Blocks.{free_blocks, blocks_of, blocks_for, word_in, text_of, stored_in, IsBlocks, numbers}
use Rattle.its_files.specs.Opening.{up_to, first_has, nothing_stored}
use Rattle.its_word.specs.Table.{table, filled}
use Rattle.its_word.proofs.TableLaws.{length-table, get_or-table, length-filled, get_or-filled}

pub up_to_none : up_to 0 ≡ []
unfolding up_to
up_to_none = refl

pub up_to_more : (k : ℕ) → up_to k ++ k ∷ [] ≡ up_to (k + 1)
unfolding up_to
up_to_more k =
    let a = length-range_with_len 0 k in
    let b = length-range_with_len 0 (k + 1) in
    let c = length_push (range_with_len 0 k) k in
    ext_get_or 0 (range_with_len 0 k ++ k ∷ []) (range_with_len 0 (k + 1)) (omega arith)
    (λ i less. elim (cases_lt i k) [
      | inl lt ↦ get_or_append_left (range_with_len 0 k) (k ∷ []) 0 i (omega arith) ∙ get_or-range_with_len 0 k i 0 lt
          ∙ sym (get_or-range_with_len 0 (k + 1) i 0 (omega arith))
      | inr ge ↦ let e : i ≡ k = omega arith in let z : k ≡ 0 + k =
          omega arith in rw e (get_or_push (range_with_len 0 k) k 0 k a ∙ z ∙ sym (get_or-range_with_len 0 (k + 1) k 0 (omega arith)))
    ])

pub length-up_to : (k : ℕ) → length (up_to k) ≡ k
unfolding up_to
length-up_to k = length-range_with_len 0 k

pub first_has_none : (m : ℕ) → no_lists m ≡ first_has m 0
first_has_none m = sym (ap (λ xs. slice_set (no_lists m) 0 xs) (up_to_none ∙ sym (list_at-no_lists m 0)) ∙ set-get_or (no_lists m) 0 [])

pub first_has_more : (m k : ℕ) → 0 < m → slice_set (first_has m k) 0 (list_at (first_has m k) 0 ++ k ∷ []) ≡ first_has m (k + 1)
first_has_more m k some =
    let l = length-no_lists m in
    ap (λ xs. slice_set (first_has m k) 0 (xs ++ k ∷ [])) (get_or-set_same (no_lists m) 0 (up_to k) [] (omega arith))
    ∙ ap (λ xs. slice_set (first_has m k) 0 xs) (up_to_more k)
    ∙ set-set (no_lists m) 0 (up_to k) (up_to (k + 1))

pub length-first_has : (m k : ℕ) → length (first_has m k) ≡ m
length-first_has m k = length-set (no_lists m) 0 (up_to k) ∙ length-no_lists m

free_opened : (m k : ℕ) → 0 < m → free_blocks (first_has m k) ≡ up_to k
free_opened m k some = let l = length-no_lists m in get_or-set_same (no_lists m) 0 (up_to k) [] (omega arith)

none_opened : (m k id : ℕ) → blocks_of (first_has m k) id ≡ []
none_opened m k id = get_or-set_other (no_lists m) 0 (id + 1) (up_to k) [] (omega arith) ∙ list_at-no_lists m (id + 1)

sum-copies : (n : ℕ) → sum_by blocks_for (filled n 0) ≡ n * 0
unfolding filled
sum-copies n = sum_by-replicate blocks_for n 0

pub opened_blocks : (words : List ℕ) (most : ℕ) (lengths lasts : List ℕ) (links : Linked) → most ≡ 262144 → lengths ≡ filled numbers 0
    → lasts ≡ filled numbers 0 → links ≡ record { nodes = 2048; lists = first_has (numbers + 1) 2048 } → IsBlocks words most lengths lasts 2048 None links
opened_blocks words most lengths lasts links a b c e =
    let ls : links.lists ≡ first_has (numbers + 1) 2048 = ap (λ l. l.lists) e in
    record {
      most_is = a;
      lengths_long = ap (λ xs. length xs) b ∙ length-filled numbers 0;
      lasts_long = ap (λ xs. length xs) c ∙ length-filled numbers 0;
      heads = ap (λ xs. length xs) ls ∙ length-first_has (numbers + 1) 2048;
      nodes = ap (λ l. l.nodes) e;
      free_is = sym (ap (λ xs. length (free_blocks xs)) ls ∙ ap (λ xs. length xs) (free_opened (numbers + 1) 2048 (omega arith)) ∙ length-up_to 2048);
      fits = λ id lt.
          let l = ap (λ xs. length (blocks_of xs id)) ls ∙ ap (λ xs. length xs) (none_opened (numbers + 1) 2048 id) in
          let z : slice_index_or lengths id 0 ≡ 0 = ap (λ xs. slice_index_or xs id 0) b ∙ get_or-filled numbers id 0 in
          l ∙ ap (λ n. blocks_for n) (sym z);
      last = λ id lt some.
          let l = ap (λ xs. length (blocks_of xs id)) ls ∙ ap (λ xs. length xs) (none_opened (numbers + 1) 2048 id) in
          absurd (omega arith);
      ready = λ id i b at.
          let none : None ≡ Some b = sym (ap (λ xs. slice_get (blocks_of xs id) i) ls ∙ ap (λ xs. slice_get xs i) (none_opened (numbers + 1) 2048 id)) ∙ at in
          cc;
      kept = tt;
      used =
          let l = ap (λ xs. length (free_blocks xs)) ls ∙ ap (λ xs. length xs) (free_opened (numbers + 1) 2048 (omega arith)) ∙ length-up_to 2048 in
          let s = ap (λ xs. sum_by blocks_for xs) b ∙ sum-copies numbers in
          omega arith;
    }

pub opened_view : (words lengths : List ℕ) (links : Linked) → lengths ≡ filled numbers 0
    → links ≡ record { nodes = 2048; lists = first_has (numbers + 1) 2048 } → stored_in words links.lists lengths ≡ nothing_stored
unfolding stored_in
opened_view words lengths links b e =
    let c : links.lists ≡ first_has (numbers + 1) 2048 = ap (λ l. l.lists) e in
    let f : ℕ → List ℕ = λ id. text_of words (blocks_of links.lists id) (slice_index_or lengths id 0) in
    let t : table numbers f ≡ filled numbers [] =
    ext_get_or [] (table numbers f) (filled numbers []) (length-table numbers f ∙ sym (length-filled numbers []))
    (λ k less. let l = length-table numbers f in
    get_or-table numbers f k [] (omega arith)
    ∙ nil_from_length (f k) (length-table (slice_index_or lengths k 0) (word_in words (blocks_of links.lists k))
    ∙ ap (λ xs. slice_index_or xs k 0) b ∙ get_or-filled numbers k 0)
    ∙ sym (get_or-filled numbers k [])) in
    λ i. record { texts = t i; chains = c i }
