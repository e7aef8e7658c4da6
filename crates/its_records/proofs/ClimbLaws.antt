-- Climbing from a job to its superior, and so on: what a removal leaves, and that as many steps as
-- there are slots are enough.
use Rattle.std.specs.Prelude.{if◌then◌else◌, ◌≡◌, ◌≢◌, ◌≤◌, ◌<◌, ◌+◌, ◌-◌, ◌==◌, ◌||◌, ◌&&◌, not, ℕ, zero, suc, Bool, true, false, Option, Some, None, IfSome, refl}
use Rattle.std.proofs.Common.{sym, ◌∙◌, ap, subst, arith, inl, inr, eq-eqb}
use Rattle.std.proofs.lemmas.Bool.{cases_Bool, cases_eq, ne_eqb}
use Rattle.its_word.specs.Limits.{slots}
use Rattle.its_records.specs.Tree.{climbs_to, is_below}
use Rattle.its_records.proofs.TreeLaws.{climb_end, climb_turn}

pub or_none : (a b : Bool) → (a || b) ≡ false → (a ≡ false) × (b ≡ false)
or_none true b h = cc
or_none false b h = (refl, h)

pub or_second : (a b : Bool) → (a || b) ≡ true → a ≡ false → b ≡ true
or_second true b h e = cc
or_second false b h e = h

-- a job that is not reached is not reached if superiors are taken away
pub cut : (sup new : ℕ → Option ℕ) (gone : ℕ → Bool) (s n : ℕ) (o : Option ℕ) → ((k : ℕ) → new k ≡ (if gone k then None else sup k))
    → climbs_to sup s n o ≡ false → climbs_to new s n o ≡ false
unfolding climbs_to
cut sup new gone s zero o h e = refl
cut sup new gone s (suc n) None h e = refl
cut sup new gone s (suc n) (Some k) h e =
    let both = or_none (k == s) (climbs_to sup s n (sup k)) e in
    let rest : (b : Bool) → climbs_to new s n (if b then None else sup k) ≡ false =
    λ b. elim b as (λ x. climbs_to new s n (if x then None else sup k) ≡ false) [
      | true ↦ climb_end new s n
      | false ↦ cut sup new gone s n (sup k) h both.1
    ] in
    rw (both.0, h k) (rest (gone k))

-- what is cut off leaves no circle
pub circle_cut : (old new : ℕ → Option ℕ) (gone : ℕ → Bool) → ((k : ℕ) → new k ≡ (if gone k then None else old k))
    → ((k : ℕ) → climbs_to old k slots (old k) ≡ false) → (k : ℕ) → climbs_to new k slots (new k) ≡ false
circle_cut old new gone h circle k = rw (h k) (go (gone k))
  where
    go : (b : Bool) → climbs_to new k slots (if b then None else old k) ≡ false
    go true = climb_end new k slots
    go false = cut old new gone k slots (old k) h (circle k)

-- nobody's superior is s
pub never : (sup : ℕ → Option ℕ) (s n : ℕ) (o : Option ℕ) → ((k : ℕ) → sup k ≢ Some s) → o ≢ Some s → climbs_to sup s n o ≡ false
unfolding climbs_to
never sup s zero o none ne = refl
never sup s (suc n) None none ne = refl
never sup s (suc n) (Some k) none ne = rw (ne_eqb k s (λ e. ne (ap Some e))) (never sup s n (sup k) none (none k))

-- a job that is nobody's superior gets one itself
pub unpassed : (old new : ℕ → Option ℕ) (s t n : ℕ) (o : Option ℕ) → ((k : ℕ) → k ≢ s → new k ≡ old k) → ((k : ℕ) → old k ≢ Some s) → o ≢ Some s
    → climbs_to new t n o ≡ climbs_to old t n o
unfolding climbs_to
unpassed old new s t zero o others none ne = refl
unpassed old new s t (suc n) None others none ne = refl
unpassed old new s t (suc n) (Some k) others none ne =
    let away : k ≢ s = λ e. ne (ap Some e) in
    ap (λ x. (k == t) || climbs_to new t n x) (others k away) ∙ ap (λ b. (k == t) || b) (unpassed old new s t n (old k) others none (none k))

-- if a job is reached in n steps, it is in one more
pub more : (sup : ℕ → Option ℕ) (r n : ℕ) (o : Option ℕ) → climbs_to sup r n o ≡ true → climbs_to sup r (suc n) o ≡ true
unfolding climbs_to
more sup r zero o h = cc
more sup r (suc n) None h = cc
more sup r (suc n) (Some k) h = elim (cases_Bool (k == r)) [
  | inl t ↦ rw t refl
  | inr f ↦ rw f (more sup r n (sup k) (or_second (k == r) (climbs_to sup r n (sup k)) h f))
]

-- a slot from which r is reached in n + 1 steps and in no fewer
record Level (sup : ℕ → Option ℕ) (r n : ℕ) : Type 0 where
  slot : ℕ
  within : slot < slots
  reached : climbs_to sup r (suc n) (Some slot) ≡ true
  before : climbs_to sup r n (Some slot) ≡ false

level_of : (sup : ℕ → Option ℕ) (r n : ℕ) (o : Option ℕ) → IfSome o (λ s. s < slots) → climbs_to sup r (suc n) o ≡ true
    → climbs_to sup r n o ≡ false → Level sup r n
level_of sup r n (Some k) w h e = record { slot = k; within = w; reached = h; before = e }
level_of sup r n None w h e = absurd (let no = climb_end sup r (suc n) in cc)

lower : (sup : ℕ → Option ℕ) (r n : ℕ) → ((k : ℕ) → IfSome (sup k) (λ s. s < slots)) → Level sup r (suc n) → Level sup r n
unfolding climbs_to
lower sup r n few l =
    let both = or_none (l.slot == r) (climbs_to sup r n (sup l.slot)) l.before in
    level_of sup r n (sup l.slot) (few l.slot) (or_second (l.slot == r) (climbs_to sup r (suc n) (sup l.slot)) l.reached both.0) both.1

-- how many of n numbers from a on pass a test
one_if : Bool → ℕ
one_if true = 1
one_if false = 0

passing : (ℕ → Bool) → ℕ → ℕ → ℕ
passing p a zero = 0
passing p a (suc n) = one_if (p a) + passing p (a + 1) n

step_least : (x y : Bool) → (x ≡ true → y ≡ true) → one_if x ≤ one_if y
unfolding one_if
step_least true true f = omega arith
step_least true false f = absurd (let wrong = f refl in cc)
step_least false true f = omega arith
step_least false false f = omega arith

no_more : (p q : ℕ → Bool) (a n : ℕ) → ((k : ℕ) → p k ≡ true → q k ≡ true) → passing p a n ≤ passing q a n
unfolding passing
no_more p q a zero h = omega arith
no_more p q a (suc n) h =
    let rest = no_more p q (a + 1) n h in
    let first = step_least (p a) (q a) (h a) in
    omega arith

one_more : (p q : ℕ → Bool) (a n j : ℕ) → ((k : ℕ) → p k ≡ true → q k ≡ true) → a ≤ j → j < a + n → p j ≡ false → q j ≡ true
    → passing p a n + 1 ≤ passing q a n
unfolding passing one_if
one_more p q a zero j h l m out into = absurd (omega arith)
one_more p q a (suc n) j h l m out into = elim (cases_eq j a) [
  | inl e ↦
      let rest = no_more p q (a + 1) n h in
      let x : one_if (p a) ≡ 0 = ap one_if (ap p (sym e) ∙ out) in
      let y : one_if (q a) ≡ 1 = ap one_if (ap q (sym e) ∙ into) in
      omega arith
  | inr ne ↦
      let rest = one_more p q (a + 1) n j h (omega arith) (omega arith) out into in
      let first = step_least (p a) (q a) (h a) in
      omega arith
]

one_at_most : (b : Bool) → one_if b ≤ 1
unfolding one_if
one_at_most true = omega arith
one_at_most false = omega arith

at_most : (p : ℕ → Bool) (a n : ℕ) → passing p a n ≤ n
unfolding passing
at_most p a zero = omega arith
at_most p a (suc n) = let rest = at_most p (a + 1) n in let first = one_at_most (p a) in omega arith

-- from how many slots r is reached in n steps
reaching : (ℕ → Option ℕ) → ℕ → ℕ → ℕ
reaching sup r n = passing (λ k. climbs_to sup r n (Some k)) 0 slots

grown : (sup : ℕ → Option ℕ) (r n : ℕ) → Level sup r n → reaching sup r n + 1 ≤ reaching sup r (suc n)
unfolding reaching
grown sup r n l =
    one_more (λ k. climbs_to sup r n (Some k)) (λ k. climbs_to sup r (suc n) (Some k)) 0 slots l.slot (λ k h. more sup r n (Some k) h)
    (omega arith) (let w = l.within in omega arith) l.before l.reached

levels : (sup : ℕ → Option ℕ) (r n : ℕ) → ((k : ℕ) → IfSome (sup k) (λ s. s < slots)) → Level sup r n → n ≤ reaching sup r n
levels sup r zero few l = omega arith
levels sup r (suc n) few l =
    let below = lower sup r n few l in
    let rest = levels sup r n few below in
    let one = grown sup r n below in
    omega arith

most : (sup : ℕ → Option ℕ) (r n : ℕ) → reaching sup r n ≤ slots
unfolding reaching
most sup r n = at_most (λ k. climbs_to sup r n (Some k)) 0 slots

no_level : (sup : ℕ → Option ℕ) (r n : ℕ) → ((k : ℕ) → IfSome (sup k) (λ s. s < slots)) → slots ≤ n → Level sup r n → ⊥
no_level sup r n few long l =
    let a = levels sup r n few l in
    let b = grown sup r n l in
    let c = most sup r (suc n) in
    absurd (omega arith)

-- as many steps as there are slots are enough: there are no more jobs
pub enough : (sup : ℕ → Option ℕ) (r n i : ℕ) → ((k : ℕ) → IfSome (sup k) (λ s. s < slots)) → i < slots → slots ≤ n
    → climbs_to sup r (suc n) (Some i) ≡ true → climbs_to sup r n (Some i) ≡ true
enough sup r n i few w long h = elim (cases_Bool (climbs_to sup r n (Some i))) [
  | inl t ↦ t
  | inr f ↦ absurd (no_level sup r n few long (record { slot = i; within = w; reached = h; before = f }))
]

first_step : (sup : ℕ → Option ℕ) (r n i : ℕ) → 1 ≤ n → i ≡ r → climbs_to sup r n (Some i) ≡ true
unfolding climbs_to
first_step sup r zero i l e = absurd (omega arith)
first_step sup r (suc n) i l e = rw (eq-eqb i r e) refl

next_step : (sup : ℕ → Option ℕ) (r n i : ℕ) → i ≢ r → climbs_to sup r n (sup i) ≡ true → climbs_to sup r (suc n) (Some i) ≡ true
unfolding climbs_to
next_step sup r n i ne h = rw (ne_eqb i r ne) h

-- a job whose superior is below r, or is r, is below r
and_second : (a b : Bool) → (a && b) ≡ true → b ≡ true
and_second true b h = h
and_second false b h = cc

climbs_of : (sup : ℕ → Option ℕ) (r i : ℕ) → is_below sup r i ≡ true → climbs_to sup r slots (sup i) ≡ true
unfolding is_below
climbs_of sup r i h = and_second (not (i == r)) (climbs_to sup r slots (sup i)) h

below_of : (sup : ℕ → Option ℕ) (r k i : ℕ) → k ≢ r → sup k ≡ Some i → climbs_to sup r slots (Some i) ≡ true → is_below sup r k ≡ true
unfolding is_below
below_of sup r k i ne e h = rw (ne_eqb k r ne, e) h

pub below_through : (sup : ℕ → Option ℕ) (r k i : ℕ) → ((j : ℕ) → IfSome (sup j) (λ s. s < slots)) → k ≢ r → sup k ≡ Some i
    → ((i == r) || is_below sup r i) ≡ true → is_below sup r k ≡ true
below_through sup r k i few ne e h =
    let within : i < slots = subst (λ o. IfSome o (λ s. s < slots)) e (few k) in
    elim (cases_eq i r) [
      | inl same ↦ below_of sup r k i ne e (first_step sup r slots i (omega arith) same)
      | inr other ↦
          let up : climbs_to sup r slots (sup i) ≡ true = climbs_of sup r i (or_second (i == r) (is_below sup r i) h (ne_eqb i r other)) in
          below_of sup r k i ne e (enough sup r slots i few within (omega arith) (next_step sup r slots i other up))
    ]

-- a job is that of slot r, or below it, exactly if r is reached from it
same_truth : (a b : Bool) → (a ≡ true → b ≡ true) → (b ≡ true → a ≡ true) → a ≡ b
same_truth true b f g = sym (f refl)
same_truth false true f g = g refl
same_truth false false f g = refl

below_if : (sup : ℕ → Option ℕ) (r k : ℕ) → k ≢ r → climbs_to sup r slots (sup k) ≡ true → is_below sup r k ≡ true
unfolding is_below
below_if sup r k ne h = rw (ne_eqb k r ne) h

reached_through : (sup : ℕ → Option ℕ) (r k : ℕ) → k ≢ r → climbs_to sup r slots (Some k) ≡ true → climbs_to sup r slots (sup k) ≡ true
reached_through sup r k ne h =
    let step : climbs_to sup r (slots - 0) (Some k) ≡ ((k == r) || climbs_to sup r (slots - (0 + 1)) (sup k)) = climb_turn sup r slots 0 k (omega arith) in
    let rest : climbs_to sup r (slots - (0 + 1)) (sup k) ≡ true =
    or_second (k == r) (climbs_to sup r (slots - (0 + 1)) (sup k)) (sym step ∙ h) (ne_eqb k r ne) in
    let e : suc (slots - (0 + 1)) ≡ slots = omega arith in
    subst (λ n. climbs_to sup r n (sup k) ≡ true) e (more sup r (slots - (0 + 1)) (sup k) rest)

pub at_or_below : (sup : ℕ → Option ℕ) (r k : ℕ) → ((j : ℕ) → IfSome (sup j) (λ s. s < slots)) → k < slots
    → ((k == r) || is_below sup r k) ≡ climbs_to sup r slots (Some k)
at_or_below sup r k few within = elim (cases_eq k r) [
  | inl e ↦ rw (eq-eqb k r e) (sym (first_step sup r slots k (omega arith) e))
  | inr ne ↦ rw (ne_eqb k r ne) (same_truth (is_below sup r k) (climbs_to sup r slots (Some k))
      (λ h. enough sup r slots k few within (omega arith) (next_step sup r slots k ne (climbs_of sup r k h)))
      (λ h. below_if sup r k ne (reached_through sup r k ne h)))
]
