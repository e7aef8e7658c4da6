-- Words by address as a list in rising order of address.
use Rattle.std.proofs.Common.{◌≡◌, ◌<◌, ◌+◌, ℕ, zero, suc, true, false, nat_eq, nat_lt, Option, Some, None, is_some, List, [], ◌∷◌, ◌++◌, length, take, get_or, slice_get, slice_set, replicate, refl, sym, ap, ◌∙◌, arith, add-one}
use Rattle.std.specs.Map.{lookup}
use Rattle.std.proofs.lemmas.Bool.{lt-ltb, le-ltb, eq-eqb, ne_eqb}
use Rattle.its_word.specs.Table.{filled}
use Rattle.its_word.proofs.TableLaws.{length-filled}
use Rattle.its_asm.specs.Assembly.{inserted, is_given}
use Rattle.its_asm.specs.Cells.{cell_at, cells_from}

-- words at addresses from k on
front : (j k : ℕ) (w : ℕ) (ws : List (Option ℕ)) → k < j → inserted k w (cells_from j ws) ≡ (k, w) ∷ cells_from j ws
front j k w [] h = refl
front j k w (None ∷ ws) h = front (suc j) k w ws (omega arith)
front j k w (Some v ∷ ws) h = let less : nat_lt k j ≡ true = lt-ltb k j h in rw less refl

put_by : (k i w : ℕ) (ws : List (Option ℕ)) → i < length ws → cells_from k (slice_set ws i (Some w)) ≡ inserted (k + i) w (cells_from k ws)
put_by k i w [] h = absurd (omega arith)
put_by k zero w (None ∷ ws) h =
    let e : k + 0 ≡ k = omega arith in
    rw e (sym (front (suc k) k w ws (omega arith)))
put_by k zero w (Some v ∷ ws) h =
    let e : k + 0 ≡ k = omega arith in
    let less : nat_lt k k ≡ false = le-ltb k k (omega arith) in
    let same : nat_eq k k ≡ true = eq-eqb k k refl in
    rw e (rw (less, same) refl)
put_by k (suc i) w (None ∷ ws) h =
    let e : k + suc i ≡ suc k + i = omega arith in
    rw e (put_by (suc k) i w ws (omega arith))
put_by k (suc i) w (Some v ∷ ws) h =
    let e : k + suc i ≡ suc k + i = omega arith in
    let less : nat_lt (k + suc i) k ≡ false = le-ltb (k + suc i) k (omega arith) in
    let same : nat_eq (k + suc i) k ≡ false = ne_eqb (k + suc i) k (omega arith) in
    let more : cells_from (suc k) (slice_set ws i (Some w)) ≡ inserted (k + suc i) w (cells_from (suc k) ws) = rw e (put_by (suc k) i w ws (omega arith)) in
    rw (less, same, more) refl

pub put_at : (ws : List (Option ℕ)) (i w : ℕ) → i < length ws → cells_from 0 (slice_set ws i (Some w)) ≡ inserted i w (cells_from 0 ws)
put_at ws i w h =
    let e : 0 + i ≡ i = omega arith in
    rw e at (put_by 0 i w ws h)

low : (a k : ℕ) (ws : List (Option ℕ)) → a < k → lookup (nat_eq a) (cells_from k ws) ≡ None
low a k [] h = refl
low a k (None ∷ ws) h = low a (suc k) ws (omega arith)
low a k (Some v ∷ ws) h =
    let other : nat_eq a k ≡ false = ne_eqb a k (omega arith) in
    rw other (low a (suc k) ws (omega arith))

given_by : (k i : ℕ) (ws : List (Option ℕ)) (r : Option ℕ) → slice_get ws i ≡ Some r → lookup (nat_eq (k + i)) (cells_from k ws) ≡ r
given_by k i [] r h = cc
given_by k zero (None ∷ ws) r h =
    let e : k + 0 ≡ k = omega arith in
    let same : None ≡ r = cc in
    rw e (low k (suc k) ws (omega arith) ∙ same)
given_by k zero (Some v ∷ ws) r h =
    let e : k + 0 ≡ k = omega arith in
    let here : nat_eq k k ≡ true = eq-eqb k k refl in
    let same : Some v ≡ r = cc in
    rw e (rw here same)
given_by k (suc i) (None ∷ ws) r h =
    let e : k + suc i ≡ suc k + i = omega arith in
    rw e (given_by (suc k) i ws r h)
given_by k (suc i) (Some v ∷ ws) r h =
    let e : k + suc i ≡ suc k + i = omega arith in
    let other : nat_eq (k + suc i) k ≡ false = ne_eqb (k + suc i) k (omega arith) in
    let more : lookup (nat_eq (k + suc i)) (cells_from (suc k) ws) ≡ r = rw e (given_by (suc k) i ws r h) in
    rw other more

past_by : (k i : ℕ) (ws : List (Option ℕ)) → slice_get ws i ≡ None → lookup (nat_eq (k + i)) (cells_from k ws) ≡ None
past_by k i [] h = refl
past_by k zero (w ∷ ws) h = cc
past_by k (suc i) (None ∷ ws) h =
    let e : k + suc i ≡ suc k + i = omega arith in
    rw e (past_by (suc k) i ws h)
past_by k (suc i) (Some v ∷ ws) h =
    let e : k + suc i ≡ suc k + i = omega arith in
    let other : nat_eq (k + suc i) k ≡ false = ne_eqb (k + suc i) k (omega arith) in
    let more : lookup (nat_eq (k + suc i)) (cells_from (suc k) ws) ≡ None = rw e (past_by (suc k) i ws h) in
    rw other more

pub given_at : (ws : List (Option ℕ)) (i : ℕ) (r : Option ℕ) → slice_get ws i ≡ Some r → is_given (cells_from 0 ws) i ≡ is_some r
given_at ws i r h =
    let e : 0 + i ≡ i = omega arith in
    let found : lookup (nat_eq i) (cells_from 0 ws) ≡ r = rw e at (given_by 0 i ws r h) in
    ap is_some found

pub given_past : (ws : List (Option ℕ)) (i : ℕ) → slice_get ws i ≡ None → is_given (cells_from 0 ws) i ≡ false
given_past ws i h =
    let e : 0 + i ≡ i = omega arith in
    let found : lookup (nat_eq i) (cells_from 0 ws) ≡ None = rw e at (past_by 0 i ws h) in
    ap is_some found

none_by : (k n : ℕ) → cells_from k (replicate n None) ≡ []
none_by k zero = refl
none_by k (suc n) = none_by (suc k) n

pub none_given : (n : ℕ) → cells_from 0 (filled n None) ≡ []
unfolding filled
none_given n = none_by 0 n

-- one word more
pub cells_more : (k i : ℕ) (ws : List (Option ℕ)) (d : Option ℕ) → i < length ws
    → cells_from k (take (suc i) ws) ≡ cells_from k (take i ws) ++ cell_at (k + i) (get_or ws i d)
cells_more k i [] d h = absurd (omega arith)
cells_more k zero (None ∷ ws) d h = refl
cells_more k zero (Some v ∷ ws) d h = let e : k + 0 ≡ k = omega arith in rw e refl
cells_more k (suc i) (None ∷ ws) d h =
    let e : k + suc i ≡ suc k + i = omega arith in
    rw e (cells_more (suc k) i ws d (omega arith))
cells_more k (suc i) (Some v ∷ ws) d h =
    let e : k + suc i ≡ suc k + i = omega arith in
    rw e (ap (λ (cs : List (ℕ × ℕ)). (k, v) ∷ cs) (cells_more (suc k) i ws d (omega arith)))

pub cells_none : (ws : List (Option ℕ)) → [] ≡ cells_from 0 (take 0 ws)
cells_none ws = refl

cells_turn : (ws : List (Option ℕ)) (i : ℕ) (r : Option ℕ) → i < length ws
    → cells_from 0 (take (i + 1) ws) ≡ cells_from 0 (take i ws) ++ cell_at i (get_or ws i r)
cells_turn ws i r h =
    let e : 0 + i ≡ i = omega arith in
    let more : cells_from 0 (take (suc i) ws) ≡ cells_from 0 (take i ws) ++ cell_at i (get_or ws i r) = rw e at (cells_more 0 i ws r h) in
    rw add-one more

pub cells_next : (ws : List (Option ℕ)) (i at : ℕ) (r : Option ℕ) (cells more : List (ℕ × ℕ)) → i < length ws → r ≡ get_or ws i r
    → cells ≡ cells_from 0 (take i ws) → more ≡ cells ++ cell_at at r → at ≡ i
    → more ≡ cells_from 0 (take (i + 1) ws)
cells_next ws i at r cells more h read before after same =
    let turn : cells_from 0 (take (i + 1) ws) ≡ cells_from 0 (take i ws) ++ cell_at i (get_or ws i r) = cells_turn ws i r h in
    rw (after, same, before) (ap (λ (x : Option ℕ). cells_from 0 (take i ws) ++ cell_at i x) read ∙ sym turn)

pub none_length : (n : ℕ) → length (filled {X = Option ℕ} n None) ≡ n
none_length n = length-filled n None
