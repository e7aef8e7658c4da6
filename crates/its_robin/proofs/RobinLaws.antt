-- The first slot that runs, and the turn.
use Rattle.std.specs.Prelude.{cond, ℕ, zero, suc, ◌+◌, ◌-◌, ◌<◌, ◌≤◌, ◌≡◌, ◌≢◌, Bool, true, false, Option, Some, None, refl}
use Rattle.std.proofs.Common.{sym, ◌∙◌, ap, subst, arith, inl, inr}
use Rattle.std.proofs.lemmas.Bool.{cases_eq, cases_lt, lt-ltb, le-ltb}
use Rattle.std.proofs.lemmas.Option.{none-some, same_Some}
use Rattle.its_robin.specs.Robin.{first_running, or_else, robin, between, IsNext, Turn}

-- slot k does not run
first_skips : (runs : ℕ → Bool) (n k : ℕ) → runs k ≡ false → first_running runs (suc n) k ≡ first_running runs n (k + 1)
unfolding first_running
first_skips runs n k h = rw h refl

pub first_next : (runs : ℕ → Bool) (to k : ℕ) → k < to → runs k ≡ false → first_running runs (to - k) k ≡ first_running runs (to - (k + 1)) (k + 1)
first_next runs to k l h =
    let e : to - k ≡ suc (to - (k + 1)) = omega arith in
    ap (λ n. first_running runs n k) e ∙ first_skips runs (to - (k + 1)) k h

-- slot k runs
first_here : (runs : ℕ → Bool) (n k : ℕ) → runs k ≡ true → first_running runs (suc n) k ≡ Some k
unfolding first_running
first_here runs n k h = rw h refl

pub first_found : (runs : ℕ → Bool) (to k : ℕ) → k < to → runs k ≡ true → first_running runs (to - k) k ≡ Some k
first_found runs to k l h =
    let e : to - k ≡ suc (to - (k + 1)) = omega arith in
    ap (λ n. first_running runs n k) e ∙ first_here runs (to - (k + 1)) k h

-- no slot is left
pub first_end : (runs : ℕ → Bool) (to k : ℕ) → to ≤ k → first_running runs (to - k) k ≡ None
unfolding first_running
first_end runs to k l = let e : to - k ≡ 0 = omega arith in ap (λ n. first_running runs n k) e

-- what the first that runs is: it is one of the n, it runs, and none before it does
pub record Found (runs : ℕ → Bool) (n k s : ℕ) : Type 0 where
  pub from : k ≤ s
  pub to : s < k + n
  pub running : runs s ≡ true
  pub before : (i : ℕ) → k ≤ i → i < s → runs i ≡ false

found_by : (runs : ℕ → Bool) (n k s : ℕ) (b : Bool) → runs k ≡ b → cond b (Some k) (first_running runs n (k + 1)) ≡ Some s
    → (first_running runs n (k + 1) ≡ Some s → Found runs n (k + 1) s) → Found runs (suc n) k s
found_by runs n k s true e h more =
    let at : k ≡ s = same_Some k s h in
    record { from = omega arith; to = omega arith; running = ap runs (sym at) ∙ e; before = λ i a b. absurd (omega arith) }
found_by runs n k s false e h more =
    let f = more h in
    record {
      from = omega (arith, f.from);
      to = omega (arith, f.to);
      running = f.running;
      before = λ i a b. elim (cases_eq i k) [ inl same ↦ ap runs same ∙ e | inr other ↦ f.before i (omega arith) b ];
    }

pub first_some : (runs : ℕ → Bool) (n k s : ℕ) → first_running runs n k ≡ Some s → Found runs n k s
unfolding first_running
first_some runs zero k s h = absurd (none-some _ h)
first_some runs (suc n) k s h = found_by runs n k s (runs k) refl h (first_some runs n (k + 1) s)

none_by : (runs : ℕ → Bool) (n k : ℕ) (b : Bool) → runs k ≡ b → cond b (Some k) (first_running runs n (k + 1)) ≡ None
    → (first_running runs n (k + 1) ≡ None → (i : ℕ) → k + 1 ≤ i → i < k + 1 + n → runs i ≡ false)
    → (i : ℕ) → k ≤ i → i < k + suc n → runs i ≡ false
none_by runs n k true e h more i a b = absurd (none-some _ (sym h))
none_by runs n k false e h more i a b = elim (cases_eq i k) [ inl same ↦ ap runs same ∙ e | inr other ↦ more h i (omega arith) (omega arith) ]

pub first_none : (runs : ℕ → Bool) (n k : ℕ) → first_running runs n k ≡ None → (i : ℕ) → k ≤ i → i < k + n → runs i ≡ false
unfolding first_running
first_none runs zero k h i a b = absurd (omega arith)
first_none runs (suc n) k h i a b = none_by runs n k (runs k) refl h (first_none runs n (k + 1)) i a b

-- the turn: of a slot after the last one, if one runs
pub turn_behind : (runs : ℕ → Bool) (n last s : ℕ) → first_running runs (n - (last + 1)) (last + 1) ≡ Some s → robin n runs last ≡ Some s
unfolding robin
turn_behind runs n last s h = rw h refl

-- and else of one up to it
pub turn_around : (runs : ℕ → Bool) (n last : ℕ) → first_running runs (n - (last + 1)) (last + 1) ≡ None → robin n runs last ≡ first_running runs (last + 1) 0
unfolding robin
turn_around runs n last h = rw h refl

-- the way to a slot after the last one, and to one up to it
between_behind : (n last s : ℕ) → last < s → between n last s ≡ s - (last + 1)
between_behind n last s l = rw (lt-ltb last s l) refl

between_around : (n last s : ℕ) → s ≤ last → between n last s ≡ s + n - (last + 1)
between_around n last s l = rw (le-ltb last s l) refl

-- a slot that does not run is none that does
clash : (runs : ℕ → Bool) (k : ℕ) {P : Type 0} → runs k ≡ true → runs k ≡ false → P
clash runs k a b = absurd (cc)

nearest_behind : (runs : ℕ → Bool) (n last s : ℕ) → last < n → Found runs (n - (last + 1)) (last + 1) s → (k : ℕ) → k < n → runs k ≡ true
    → between n last s ≤ between n last k
nearest_behind runs n last s l f k w r = elim (cases_lt last k) [
  | inl behind ↦ elim (cases_lt k s) [
    | inl before ↦ clash runs k r (f.before k (omega arith) before)
    | inr after ↦ rw (between_behind n last s (omega (arith, f.from)), between_behind n last k behind) (omega arith)
  ]
  | inr around ↦ rw (between_behind n last s (omega (arith, f.from)), between_around n last k around) (omega (arith, f.to))
]

pub next_behind : (runs : ℕ → Bool) (n last s : ℕ) → last < n → first_running runs (n - (last + 1)) (last + 1) ≡ Some s → IsNext n runs last s
next_behind runs n last s l h =
    let f = first_some runs (n - (last + 1)) (last + 1) s h in
    record { within = omega (arith, f.to); running = f.running; nearest = nearest_behind runs n last s l f }

nearest_around : (runs : ℕ → Bool) (n last s : ℕ) → last < n → first_running runs (n - (last + 1)) (last + 1) ≡ None → Found runs (last + 1) 0 s
    → (k : ℕ) → k < n → runs k ≡ true → between n last s ≤ between n last k
nearest_around runs n last s l none f k w r = elim (cases_lt last k) [
  | inl behind ↦ clash runs k r (first_none runs (n - (last + 1)) (last + 1) none k (omega arith) (omega arith))
  | inr around ↦ elim (cases_lt k s) [
    | inl before ↦ clash runs k r (f.before k (omega arith) before)
    | inr after ↦ rw (between_around n last s (omega (arith, f.to)), between_around n last k around) (omega arith)
  ]
]

next_around : (runs : ℕ → Bool) (n last s : ℕ) → last < n → first_running runs (n - (last + 1)) (last + 1) ≡ None
    → first_running runs (last + 1) 0 ≡ Some s → IsNext n runs last s
next_around runs n last s l none h =
    let f = first_some runs (last + 1) 0 s h in
    record { within = omega (arith, f.to); running = f.running; nearest = nearest_around runs n last s l none f }

-- no slot of either part of the circle runs
all_rest : (runs : ℕ → Bool) (n last : ℕ) → first_running runs (n - (last + 1)) (last + 1) ≡ None → first_running runs (last + 1) 0 ≡ None
    → (k : ℕ) → k < n → runs k ≡ false
all_rest runs n last behind around k l = elim (cases_lt last k) [
  | inl b ↦ first_none runs (n - (last + 1)) (last + 1) behind k (omega arith) (omega arith)
  | inr a ↦ first_none runs (last + 1) 0 around k (omega arith) (omega arith)
]

-- the turn if none after the last one runs
pub around_is : (runs : ℕ → Bool) (n last m : ℕ) (o : Option ℕ) → last < n → m ≡ last + 1 → first_running runs (n - (last + 1)) (last + 1) ≡ None
    → o ≡ first_running runs m 0 → Turn n runs last o
around_is runs n last m None l e behind h =
    record { none = all_rest runs n last behind (ap (λ i. first_running runs i 0) (sym e) ∙ sym h) }
around_is runs n last m (Some s) l e behind h =
    next_around runs n last s l behind (ap (λ i. first_running runs i 0) (sym e) ∙ sym h)

-- whose turn it is depends on who runs of the n slots alone
same_cond : (a b : Bool) (s : ℕ) (o p : Option ℕ) → a ≡ b → o ≡ p → cond a (Some s) o ≡ cond b (Some s) p
same_cond a b s o p e f = ap (λ x. cond x (Some s) o) e ∙ ap (λ x. cond b (Some s) x) f

first_same : (f g : ℕ → Bool) (n k m : ℕ) → k + n ≤ m → ((i : ℕ) → i < m → f i ≡ g i) → first_running f n k ≡ first_running g n k
unfolding first_running
first_same f g zero k m l h = refl
first_same f g (suc n) k m l h =
    let here = h k (omega arith) in
    let rest = first_same f g n (k + 1) m (omega arith) h in
    same_cond (f k) (g k) k (first_running f n (k + 1)) (first_running g n (k + 1)) here rest

pub robin_same : (n last : ℕ) (f g : ℕ → Bool) → last < n → ((i : ℕ) → i < n → f i ≡ g i) → robin n f last ≡ robin n g last
unfolding robin
robin_same n last f g l h =
    let behind = first_same f g (n - (last + 1)) (last + 1) n (omega arith) h in
    let around = first_same f g (last + 1) 0 n (omega arith) h in
    ap (λ o. or_else o (first_running f (last + 1) 0)) behind ∙ ap (λ o. or_else (first_running g (n - (last + 1)) (last + 1)) o) around

-- the slot whose turn it is is the nearest that runs
next_by : (n last s : ℕ) (runs : ℕ → Bool) (o : Option ℕ) → last < n → first_running runs (n - (last + 1)) (last + 1) ≡ o
    → or_else o (first_running runs (last + 1) 0) ≡ Some s
    → IsNext n runs last s
next_by n last s runs (Some t) l is h = subst (IsNext n runs last) (same_Some t s h) (next_behind runs n last t l is)
next_by n last s runs None l is h = next_around runs n last s l is h

pub robin_next : (n last s : ℕ) (runs : ℕ → Bool) → last < n → robin n runs last ≡ Some s → IsNext n runs last s
unfolding robin
robin_next n last s runs l h = next_by n last s runs (first_running runs (n - (last + 1)) (last + 1)) l refl h

-- the way on from a slot that is nearer
pub way_on : (n last t k : ℕ) → last < n → t < n → k < n → between n last t < between n last k → between n t k + between n last t + 1 ≡ between n last k
way_on n last t k l a b h = elim (cases_lt last t) [
  | inl tb ↦ elim (cases_lt last k) [
    | inl kb ↦ (
        let e = between_behind n last t tb in
        let f = between_behind n last k kb in
        let g = between_behind n t k (omega (arith, h, e, f)) in
        omega (arith, e, f, g))
    | inr ka ↦ (
        let e = between_behind n last t tb in
        let f = between_around n last k ka in
        let g = between_around n t k (omega arith) in
        omega (arith, e, f, g))
  ]
  | inr ta ↦ elim (cases_lt last k) [
    | inl kb ↦ (
        let e = between_around n last t ta in
        let f = between_behind n last k kb in
        absurd (omega (arith, h, e, f)))
    | inr ka ↦ (
        let e = between_around n last t ta in
        let f = between_around n last k ka in
        let g = between_behind n t k (omega (arith, h, e, f)) in
        omega (arith, e, f, g))
  ]
]

-- slots that are as far are the same
pub as_far : (n last t k : ℕ) → last < n → t < n → k < n → between n last t ≡ between n last k → t ≡ k
as_far n last t k l a b h = elim (cases_lt last t) [
  | inl tb ↦ elim (cases_lt last k) [
    | inl kb ↦ (let e = between_behind n last t tb in let f = between_behind n last k kb in omega (arith, h, e, f))
    | inr ka ↦ (let e = between_behind n last t tb in let f = between_around n last k ka in omega (arith, h, e, f))
  ]
  | inr ta ↦ elim (cases_lt last k) [
    | inl kb ↦ (let e = between_around n last t ta in let f = between_behind n last k kb in omega (arith, h, e, f))
    | inr ka ↦ (let e = between_around n last t ta in let f = between_around n last k ka in omega (arith, h, e, f))
  ]
]

-- each other slot is nearer than the last one itself
pub farthest : (n last k : ℕ) → last < n → k < n → k ≢ last → between n last k < between n last last
farthest n last k l a ne = elim (cases_lt last k) [
  | inl kb ↦ (let e = between_behind n last k kb in let f = between_around n last last (omega arith) in omega (arith, e, f))
  | inr ka ↦ (let e = between_around n last k ka in let f = between_around n last last (omega arith) in omega (arith, e, f, ne))
]
