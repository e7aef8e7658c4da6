-- Functions that are changed at one number, or below one.
use Rattle.std.specs.Prelude.{if◌then◌else◌, ◌≡◌, ◌≤◌, ◌==◌, ℕ, suc, ◌+◌, Bool, true, false, Some, option_map, nat_lt, refl}
use Rattle.std.proofs.Common.{sym, ◌∙◌, ap, arith, inl, inr}
use Rattle.std.proofs.lemmas.Bool.{cases_Bool}
use Rattle.std.proofs.lemmas.Bool.Decides.{nat_tests}
use Rattle.its_plain.specs.Machine.{Whole, Machine, changed, with_job}
use Rattle.its_plain.specs.Machine.Change.{in_job}
use Rattle.its_stepped.proofs.Frame.FrameLaws.{changed_same, changed_only}

-- the value that a function has anyway, a second value at a number, and the value there
pub same_changed : {X : Type 0} (f : ℕ → X) (c : ℕ) (x : X) → x ≡ f c → (k : ℕ) → changed f c x k ≡ f k
same_changed f c x e k = sym (changed_same f c k x (sym e))

pub twice_changed : {X : Type 0} (f : ℕ → X) (c : ℕ) (x y : X) (k : ℕ) → changed (changed f c x) c y k ≡ changed f c y k
twice_changed f c x y k = by (k == c)
  where
    by : (b : Bool) → (if b then y else (if b then x else f k)) ≡ (if b then y else f k)
    by true = refl
    by false = refl

pub changed_here : {X : Type 0} (f : ℕ → X) (c : ℕ) (x : X) → changed f c x c ≡ x
changed_here f c x = (changed_only f c x).here

-- a job that is there, changed
pub in_job_there : (m : Machine) (s : ℕ) (f : Whole → Whole) (q : Whole) → m.jobs s ≡ Some q → in_job m s f ≡ with_job m s (f q)
in_job_there m s f q e = λ t. record m { jobs = λ k. one k t }
  where
    one : (k : ℕ) → (in_job m s f).jobs k ≡ changed m.jobs s (Some (f q)) k
    one k = elim (cases_Bool (k == s)) [
      | inl t ↦ (let h : k ≡ s = grind (arith, nat_tests) in rw t (ap (λ i. option_map f (m.jobs i)) h ∙ ap (option_map f) e))
      | inr t ↦ rw t refl
    ]

-- a function that is f below a number and g from there on
abbrev pub upto : {X : Type 0} → ℕ → (ℕ → X) → (ℕ → X) → ℕ → X
upto n f g k = if nat_lt k n then f k else g k

-- the next number
pub upto_next : {X : Type 0} (n : ℕ) (f g : ℕ → X) (k : ℕ) → changed (upto n f g) n (f n) k ≡ upto (suc n) f g k
upto_next n f g k = elim (cases_Bool (k == n)) [
  | inl t ↦ (let e : k ≡ n = grind (arith, nat_tests) in let l : nat_lt k (suc n) ≡ true = grind (arith, nat_tests) in rw (t, l) (ap f (sym e)))
  | inr t ↦ elim (cases_Bool (nat_lt k n)) [
    | inl u ↦ (let l : nat_lt k (suc n) ≡ true = grind (arith, nat_tests) in rw (t, u, l) refl)
    | inr u ↦ (let l : nat_lt k (suc n) ≡ false = grind (arith, nat_tests) in rw (t, u, l) refl)
  ]
]

-- what it is at its bound, with all numbers below it, and with none
pub upto_at : {X : Type 0} (n : ℕ) (f g : ℕ → X) → upto n f g n ≡ g n
upto_at n f g = let l : nat_lt n n ≡ false = grind (arith, nat_tests) in rw l refl

pub upto_all : {X : Type 0} (n : ℕ) (f g : ℕ → X) → ((k : ℕ) → n ≤ k → g k ≡ f k) → (k : ℕ) → upto n f g k ≡ f k
upto_all n f g h k = elim (cases_Bool (nat_lt k n)) [
  | inl t ↦ rw t refl
  | inr t ↦ (let l : n ≤ k = grind (arith, nat_tests) in rw t (h k l))
]

pub upto_none : {X : Type 0} (f g : ℕ → X) (k : ℕ) → g k ≡ upto 0 f g k
upto_none f g k = let l : nat_lt k 0 ≡ false = grind (arith, nat_tests) in rw l refl
