-- Sums over the channels of all slots.
use Rattle.std.specs.Prelude.{if◌then◌else◌, ◌≡◌, ◌≢◌, ◌==◌, ◌<◌, ◌≤◌, ℕ, zero, suc, ◌+◌, ◌-◌, ◌*◌, List, [], ◌∷◌, length, sum_by, slice_index_or, refl}
use Rattle.std.specs.List.{range_with_len, sum}
use Rattle.std.proofs.Common.{sym, ◌∙◌, ap, subst, inl, inr, arith}
use Rattle.std.proofs.lemmas.Bool.{cases_eq, cases_lt, eq-eqb, ne_eqb}
use Rattle.std.proofs.lemmas.List.Elements.{All-from_get_or}
use Rattle.std.proofs.lemmas.List.FromFn.{length-range_with_len, get_or-range_with_len}
use Rattle.std.proofs.lemmas.List.Sums.{sum_by-cons, sum_by-set, sum_by-le, get_or-le-sum_by, sum-map}
use Rattle.its_word.specs.Limits.{slots}
use Rattle.its_records.specs.declared.jobs.Channel.{Channel}
use Rattle.its_records.specs.declared.jobs.Channel.TheVariants.{Closed, TtyIn, TtyOut, Reading, Writing, Usr, Link}
use Rattle.its_files.specs.Opening.{up_to}
use Rattle.its_files.proofs.RoomLaws.{sum_same, sum_plus, sum_times, sum_nothing, sum_one, sum_none}
use Rattle.its_shared.specs.Across.{of_slot, tally, reads_file, writes_draft}
use Rattle.its_word.specs.Table.{table}
use Rattle.its_word.proofs.TableLaws.{length-table, get_or-table, table_set}

-- a sum over the numbers below n, of which one term is another
sum-table : (f : ℕ → ℕ) (n : ℕ) → sum (table n f) ≡ sum_by f (range_with_len 0 n)
unfolding table
sum-table f n = sum-map f (range_with_len 0 n)

one_term : (f g : ℕ → ℕ) (i n : ℕ) → i < n → ((k : ℕ) → k ≢ i → g k ≡ f k) → sum_by g (range_with_len 0 n) + f i ≡ sum_by f (range_with_len 0 n) + g i
one_term f g i n lt others =
    let l = length-table n f in
    let s = sum_by-set (λ x. x) (table n f) i (g i) 0 (omega arith) in
    let t = ap sum (table_set n f g i (g i) lt refl (λ k less ne. others k ne)) in
    let a = sum-table f n in
    let b = sum-table g n in
    let v = get_or-table n f i 0 lt in
    omega arith

-- no term is more than the sum, and a sum that is not 0 has a term that is not
term_within : (f : ℕ → ℕ) (i n : ℕ) → i < n → f i ≤ sum_by f (range_with_len 0 n)
term_within f i n lt =
    let e = length-range_with_len 0 n in
    let l = get_or-le-sum_by f (range_with_len 0 n) i 0 (omega arith) in
    let z : 0 + i ≡ i = omega arith in
    let v = ap f (get_or-range_with_len 0 n i 0 lt ∙ z) in
    omega arith

record Term (f : ℕ → ℕ) (a n : ℕ) : Type 0 where
  number : ℕ
  above : a ≤ number
  below : number < a + n
  some : f number ≢ 0

term_of : (f : ℕ → ℕ) (a n : ℕ) → sum_by f (range_with_len a n) ≢ 0 → Term f a n
term_of f a zero ne = absurd (ne refl)
term_of f a (suc n) ne = elim (cases_eq (f a) 0) [
  | inl none ↦
      let s = sum_by-cons f a (range_with_len (a + 1) n) in
      let t = term_of f (a + 1) n (λ e. ne (omega arith)) in
      record { number = t.number; above = let l = t.above in omega arith; below = let l = t.below in omega arith; some = t.some }
  | inr some ↦ record { number = a; above = omega arith; below = omega arith; some = some }
]

-- terms that are at most m
terms_few : (f : ℕ → ℕ) (m n : ℕ) → ((k : ℕ) → f k ≤ m) → sum_by f (range_with_len 0 n) ≤ n * m
terms_few f m n h =
    let e = length-range_with_len 0 n in
    let s : sum_by f (range_with_len 0 n) ≤ length (range_with_len 0 n) * m =
    sum_by-le f m (range_with_len 0 n) (All-from_get_or (λ k. f k ≤ m) (range_with_len 0 n) 0 (λ i lt. h (slice_index_or (range_with_len 0 n) i 0))) in
    subst (λ l. sum_by f (range_with_len 0 n) ≤ l * m) e s

-- of all channels only channel n of slot j is another
pub record OneChannel (old new : ℕ → ℕ → Channel) (j n : ℕ) (x : Channel) : Type 0 where
  pub here : new j n ≡ x
  pub row : (m : ℕ) → m ≢ n → new j m ≡ old j m
  pub rows : (k : ℕ) → k ≢ j → (m : ℕ) → new k m ≡ old k m

-- sums over b channels of each of a slots, of which one channel is another
module _ (a b : ℕ) where
  abbrev of_row : (Channel → ℕ) → (ℕ → ℕ → Channel) → ℕ → ℕ
  of_row w cs k = sum_by (λ n. w (cs k n)) (range_with_len 0 b)

  abbrev of_rows : (Channel → ℕ) → (ℕ → ℕ → Channel) → ℕ
  of_rows w cs = sum_by (of_row w cs) (range_with_len 0 a)

  rows_one : (w : Channel → ℕ) (cs ds : ℕ → ℕ → Channel) (j n : ℕ) (x : Channel) → OneChannel cs ds j n x → j < a → n < b
      → of_rows w ds + w (cs j n) ≡ of_rows w cs + w x
  rows_one w cs ds j n x o lj ln =
      let r = one_term (of_row w cs) (of_row w ds) j a lj (λ k ne. λ i. sum_by (λ m. w (o.rows k ne m i)) (range_with_len 0 b)) in
      let c = one_term (λ m. w (cs j m)) (λ m. w (ds j m)) n b ln (λ m ne. ap w (o.row m ne)) in
      let h = ap w o.here in
      omega arith

  rows_within : (w : Channel → ℕ) (cs : ℕ → ℕ → Channel) (j n : ℕ) → j < a → n < b → w (cs j n) ≤ of_rows w cs
  rows_within w cs j n lj ln =
      let r = term_within (of_row w cs) j a lj in
      let c = term_within (λ m. w (cs j m)) n b ln in
      omega arith

  rows_few : (w : Channel → ℕ) (cs : ℕ → ℕ → Channel) → ((c : Channel) → w c ≤ 1) → of_rows w cs ≤ a * (b * 1)
  rows_few w cs h = terms_few (of_row w cs) (b * 1) a (λ k. terms_few (λ n. w (cs k n)) 1 b (λ n. h (cs k n)))

  rows_both : (v w : Channel → ℕ) (cs : ℕ → ℕ → Channel) → of_rows (λ c. v c + w c) cs ≡ of_rows v cs + of_rows w cs
  rows_both v w cs =
      (λ i. sum_by (λ k. sum_plus (λ n. v (cs k n)) (λ n. w (cs k n)) (range_with_len 0 b) i) (range_with_len 0 a))
      ∙ sum_plus (of_row v cs) (of_row w cs) (range_with_len 0 a)

  rows_times : (w : Channel → ℕ) (m : ℕ) (cs : ℕ → ℕ → Channel) → of_rows (λ c. w c * m) cs ≡ of_rows w cs * m
  rows_times w m cs =
      (λ i. sum_by (λ k. sum_times (λ n. w (cs k n)) m (range_with_len 0 b) i) (range_with_len 0 a))
      ∙ sum_times (of_row w cs) m (range_with_len 0 a)

  rows_none : (cs : ℕ → ℕ → Channel) → of_rows (λ c. 0) cs ≡ 0
  rows_none cs = (λ i. sum_by (λ k. sum_nothing (range_with_len 0 b) i) (range_with_len 0 a)) ∙ sum_nothing (range_with_len 0 a)

-- one channel that is another
pub tally_one : (w : Channel → ℕ) (cs ds : ℕ → ℕ → Channel) (j n : ℕ) (x : Channel) → OneChannel cs ds j n x → j < slots → n < 16
    → tally w ds + w (cs j n) ≡ tally w cs + w x
unfolding tally
tally_one w cs ds j n x o lj ln = rows_one slots 16 w cs ds j n x o lj ln

-- channels that weigh the same, and that are the same
pub tally_alike : (w : Channel → ℕ) (cs ds : ℕ → ℕ → Channel) → ((k n : ℕ) → w (ds k n) ≡ w (cs k n)) → tally w ds ≡ tally w cs
unfolding tally
tally_alike w cs ds same = λ i. sum_by (λ k. sum_by (λ n. same k n i) (range_with_len 0 16)) (range_with_len 0 slots)

pub tally_same : (w : Channel → ℕ) (cs ds : ℕ → ℕ → Channel) → ((k n : ℕ) → ds k n ≡ cs k n) → tally w ds ≡ tally w cs
tally_same w cs ds h = λ i. tally w (λ k n. h k n i)

pub weight_within : (w : Channel → ℕ) (cs : ℕ → ℕ → Channel) (j n : ℕ) → j < slots → n < 16 → w (cs j n) ≤ tally w cs
unfolding tally
weight_within w cs j n lj ln = rows_within slots 16 w cs j n lj ln

pub tally_few : (w : Channel → ℕ) (cs : ℕ → ℕ → Channel) → ((c : Channel) → w c ≤ 1) → tally w cs ≤ 16 * slots
unfolding tally
tally_few w cs h = rows_few slots 16 w cs h

-- a tally that is not 0 is due to some channel
pub record Weighs (w : Channel → ℕ) (cs : ℕ → ℕ → Channel) : Type 0 where
  pub slot : ℕ
  pub slot_below : slot < slots
  pub number : ℕ
  pub number_below : number < 16
  pub some : w (cs slot number) ≢ 0

pub tally_some : (w : Channel → ℕ) (cs : ℕ → ℕ → Channel) → tally w cs ≢ 0 → Weighs w cs
unfolding tally
tally_some w cs ne =
    let k = term_of (of_slot w cs) 0 slots ne in
    let n = term_of (λ m. w (cs k.number m)) 0 16 k.some in
    record {
      slot = k.number;
      slot_below = let l = k.below in omega arith;
      number = n.number;
      number_below = let l = n.below in omega arith;
      some = n.some;
    }

-- sums and products of weights
pub tally_both : (v w : Channel → ℕ) (cs : ℕ → ℕ → Channel) → tally (λ c. v c + w c) cs ≡ tally v cs + tally w cs
unfolding tally
tally_both v w cs = rows_both slots 16 v w cs

pub tally_times : (w : Channel → ℕ) (m : ℕ) (cs : ℕ → ℕ → Channel) → tally (λ c. w c * m) cs ≡ tally w cs * m
unfolding tally
tally_times w m cs = rows_times slots 16 w m cs

pub tally_none : (cs : ℕ → ℕ → Channel) → tally (λ c. 0) cs ≡ 0
unfolding tally
tally_none cs = rows_none slots 16 cs

pub tally_sum : {X : Type 0} (v : X → Channel → ℕ) (xs : List X) (cs : ℕ → ℕ → Channel)
    → tally (λ c. sum_by (λ x. v x c) xs) cs ≡ sum_by (λ x. tally (v x) cs) xs
tally_sum v [] cs = tally_none cs
tally_sum v (x ∷ xs) cs =
    (λ i. tally (λ c. sum_by-cons (λ y. v y c) x xs i) cs)
    ∙ tally_both (v x) (λ c. sum_by (λ y. v y c) xs) cs
    ∙ ap (λ n. tally (v x) cs + n) (tally_sum v xs cs)
    ∙ sym (sum_by-cons (λ y. tally (v y) cs) x xs)

-- a channel that weighs all of the tally leaves nothing for another
abbrev closed_at : (ℕ → ℕ → Channel) → ℕ → ℕ → ℕ → ℕ → Channel
closed_at cs j n k m = if k == j then (if m == n then Closed else cs k m) else cs k m

closed_row : (cs : ℕ → ℕ → Channel) (j n m : ℕ) → m ≢ n → closed_at cs j n j m ≡ cs j m
closed_row cs j n m ne = let a = eq-eqb j j refl in let b = ne_eqb m n ne in rw (a, b) refl

closed_rows : (cs : ℕ → ℕ → Channel) (j n k : ℕ) → k ≢ j → (m : ℕ) → closed_at cs j n k m ≡ cs k m
closed_rows cs j n k ne m = let a = ne_eqb k j ne in rw a refl

closed_one : (cs : ℕ → ℕ → Channel) (j n : ℕ) → OneChannel cs (closed_at cs j n) j n Closed
closed_one cs j n = record {
  here = let a = eq-eqb j j refl in let b = eq-eqb n n refl in rw (a, b) refl;
  row = closed_row cs j n;
  rows = closed_rows cs j n;
}

pub no_other : (w : Channel → ℕ) (cs : ℕ → ℕ → Channel) (j n k m : ℕ) → w Closed ≡ 0 → j < slots → n < 16 → k < slots → m < 16
    → (k ≡ j → m ≢ n) → tally w cs ≤ w (cs j n) → w (cs k m) ≡ 0
no_other w cs j n k m none lj ln lk lm apart all =
    let o = tally_one w cs (closed_at cs j n) j n Closed (closed_one cs j n) lj ln in
    let h = weight_within w (closed_at cs j n) k m lk lm in
    let e : closed_at cs j n k m ≡ cs k m = elim (cases_eq k j) [
      | inl same ↦ ap (λ i. closed_at cs j n i m) same ∙ closed_row cs j n m (apart same) ∙ ap (λ i. cs i m) (sym same)
      | inr ne ↦ closed_rows cs j n k ne m
    ] in
    let v = ap w e in
    omega arith

-- if a channel weighs nothing, the tally is less than the most that it may be
pub tally_below : (w : Channel → ℕ) (cs : ℕ → ℕ → Channel) (j n : ℕ) → ((c : Channel) → w c ≤ 1) → j < slots → n < 16 → w (cs j n) ≡ 0
    → tally w cs < 16 * slots
tally_below w cs j n few lj ln none =
    let all = tally_few (λ c. w c + (1 - w c)) cs (λ c. let h = few c in omega arith) in
    let both = tally_both w (λ c. 1 - w c) cs in
    let here = weight_within (λ c. 1 - w c) cs j n lj ln in
    omega arith

-- what channels that read a file, and those that write a draft, weigh
pub reads_here : (f at : ℕ) → reads_file f (Reading f at) ≡ 1
reads_here f at = let e = eq-eqb f f refl in rw e refl

pub reads_other : (f g at : ℕ) → g ≢ f → reads_file f (Reading g at) ≡ 0
reads_other f g at ne = let e = ne_eqb g f ne in rw e refl

pub reads_few : (f : ℕ) (c : Channel) → reads_file f c ≤ 1
reads_few f (Reading g at) = elim (cases_eq g f) [
  | inl e ↦ let h : reads_file f (Reading g at) ≡ 1 = ap (λ k. reads_file f (Reading k at)) e ∙ reads_here f at in omega arith
  | inr ne ↦ let h = reads_other f g at ne in omega arith
]
reads_few f Closed = omega arith
reads_few f TtyIn = omega arith
reads_few f TtyOut = omega arith
reads_few f (Writing d) = omega arith
reads_few f (Usr k write at) = omega arith
reads_few f (Link l write) = omega arith

pub reads_number : (f : ℕ) (c : Channel) → reads_file f c ≢ 0 → (at : ℕ) × (c ≡ Reading f at)
reads_number f (Reading g at) h = elim (cases_eq g f) [
  | inl e ↦ (at, ap (λ k. Reading k at) e)
  | inr ne ↦ absurd (h (reads_other f g at ne))
]
reads_number f Closed h = absurd (h refl)
reads_number f TtyIn h = absurd (h refl)
reads_number f TtyOut h = absurd (h refl)
reads_number f (Writing d) h = absurd (h refl)
reads_number f (Usr k write at) h = absurd (h refl)
reads_number f (Link l write) h = absurd (h refl)

pub writes_here : (d : ℕ) → writes_draft d (Writing d) ≡ 1
writes_here d = let e = eq-eqb d d refl in rw e refl

pub writes_other : (d e : ℕ) → e ≢ d → writes_draft d (Writing e) ≡ 0
writes_other d e ne = let h = ne_eqb e d ne in rw h refl

-- a value of each draft, of the channels that write it
abbrev pub of_draft : (ℕ → ℕ) → Channel → ℕ
of_draft v Closed = 0
of_draft v TtyIn = 0
of_draft v TtyOut = 0
of_draft v (Reading f at) = 0
of_draft v (Writing d) = v d
of_draft v (Usr k write at) = 0
of_draft v (Link l write) = 0

no_draft : (v : ℕ → ℕ) (xs : List ℕ) → sum_by (λ d. 0 * v d) xs ≡ 0
no_draft v xs = (λ i. sum_by (λ d. none (v d) i) xs) ∙ sum_nothing xs
  where
    none : (m : ℕ) → 0 * m ≡ 0
    none m = omega arith

by_draft : (v : ℕ → ℕ) (n : ℕ) → ((d : ℕ) → n ≤ d → v d ≡ 0) → (c : Channel) → sum_by (λ d. writes_draft d c * v d) (up_to n) ≡ of_draft v c
by_draft v n past Closed = no_draft v (up_to n)
by_draft v n past TtyIn = no_draft v (up_to n)
by_draft v n past TtyOut = no_draft v (up_to n)
by_draft v n past (Reading f at) = no_draft v (up_to n)
by_draft v n past (Writing e) = elim (cases_lt e n) [
  | inl lt ↦ sum_one v e n lt
  | inr ge ↦ sum_none v e n (past e ge)
]
by_draft v n past (Usr k write at) = no_draft v (up_to n)
by_draft v n past (Link l write) = no_draft v (up_to n)

pub tally_drafts : (v : ℕ → ℕ) (n : ℕ) (cs : ℕ → ℕ → Channel) → ((d : ℕ) → n ≤ d → v d ≡ 0)
    → tally (of_draft v) cs ≡ sum_by (λ d. tally (writes_draft d) cs * v d) (up_to n)
tally_drafts v n cs past =
    sym (λ i. tally (λ c. by_draft v n past c i) cs)
    ∙ tally_sum (λ d c. writes_draft d c * v d) (up_to n) cs
    ∙ sum_same (λ d. tally (λ c. writes_draft d c * v d) cs) (λ d. tally (writes_draft d) cs * v d) (up_to n) (λ d. tally_times (writes_draft d) (v d) cs)
