-- The letters of ticks, one after another.
use denote.Enum.Bare.{sameb}
use Rattle.std.specs.Prelude.{◌≡◌, ◌≤◌, ◌<◌, ◌+◌, ◌-◌, ℕ, zero, suc, List, [], ◌∷◌, ◌++◌, length, replicate, true, refl}
use Rattle.std.proofs.Common.{sym, subst, ◌∙◌, ap, arith, append_assoc, append-nil}
use Rattle.its_records.specs.contracts.calls.Pace.{the_type as pace_type}
use Rattle.its_records.specs.declared.calls.Pace.{Pace}
use Rattle.its_records.specs.declared.calls.Pace.TheVariants.{Step, Work, Wait, Off}
use Rattle.its_print.specs.Runs.{paces_in}
use Rattle.its_print.specs.declared.runs.Run.{Run}
use Rattle.its_stepped.specs.State.{State}
use Rattle.its_stepped.specs.Tick.{tick}
use Rattle.its_stepped.specs.Lines.{paces_of, after_ticks}
use Rattle.its_top.specs.Answer.{PacesSo}

pub pacing_start : (m : State) (s n : ℕ) → PacesSo m m s n 0 []
pacing_start m s n = let e : n - 0 ≡ n = omega arith in record { letters = ap (paces_of m s) e; state = ap (after_ticks m s) e }

pub pacing_end : (m now : State) (s n k : ℕ) (ps : List Pace) → k ≡ n → PacesSo m now s n k ps → (ps ≡ paces_of m s n) × (now ≡ after_ticks m s n)
pacing_end m now s n k ps e so =
    let z : n - k ≡ 0 = omega arith in
    (sym (ap (λ x. ps ++ paces_of now s x) z ∙ append-nil ps) ∙ so.letters, sym (ap (after_ticks now s) z) ∙ so.state)

-- some ticks, and then others
ticks_split : (m : State) (s a b c : ℕ) → c ≡ a + b → (paces_of m s c ≡ paces_of m s a ++ paces_of (after_ticks m s a) s b)
    × (after_ticks m s c ≡ after_ticks (after_ticks m s a) s b)
ticks_split m s zero b c e = let h : c ≡ b = omega arith in (ap (paces_of m s) h, ap (after_ticks m s) h)
ticks_split m s (suc a) b c e =
    let h : c ≡ suc (a + b) = omega arith in
    let t = ticks_split (tick m s).state s a b (a + b) refl in
    (ap (paces_of m s) h ∙ ap (λ ps. (tick m s).pace ∷ ps) t.0, ap (after_ticks m s) h ∙ t.1)

pacing_some : (m now next : State) (s n k j : ℕ) (ps qs : List Pace) → k + j ≤ n → PacesSo m now s n k ps → next ≡ after_ticks now s j
    → qs ≡ ps ++ paces_of now s j
    → PacesSo m next s n (k + j) qs
pacing_some m now next s n k j ps qs h so e g =
    let t = ticks_split now s j (n - (k + j)) (n - k) (omega arith) in
    record {
      letters = ap (λ x. x ++ paces_of next s (n - (k + j))) g ∙ append_assoc ps (paces_of now s j) (paces_of next s (n - (k + j)))
          ∙ ap (λ x. ps ++ (paces_of now s j ++ paces_of x s (n - (k + j)))) e ∙ ap (λ x. ps ++ x) (sym t.0) ∙ so.letters;
      state = ap (λ x. after_ticks x s (n - (k + j))) e ∙ sym t.1 ∙ so.state;
    }

-- no run was made
pub runs_start : (m : State) (s n : ℕ) (rs : List Run) (p : Pace) → rs ≡ [] → PacesSo m m s n 0 (paces_in rs ++ replicate 0 p)
runs_start m s n rs p e = subst (λ ps. PacesSo m m s n 0 ps) (sym (append-nil (paces_in rs) ∙ ap paces_in e)) (pacing_start m s n)

-- runs are put side by side
pub runs_more : (rs : List Run) (r : Run) → paces_in (rs ++ r ∷ []) ≡ paces_in rs ++ paces_in (r ∷ [])
runs_more [] r = refl
runs_more (q ∷ rs) r =
    ap (λ ps. q.pace ∷ (replicate q.more q.pace ++ ps)) (runs_more rs r)
    ∙ ap (λ ps. q.pace ∷ ps) (sym (append_assoc (replicate q.more q.pace) (paces_in rs) (paces_in (r ∷ []))))

-- the letters of one run
run_letters : (r : Run) → paces_in (r ∷ []) ≡ replicate (1 + r.more) r.pace
run_letters r = let one : suc r.more ≡ 1 + r.more = omega arith in ap (λ ps. r.pace ∷ ps) (append-nil (replicate r.more r.pace))
    ∙ ap (λ k. replicate k r.pace) one

-- a count of letters is put after the runs, if it is not 0
pub put_none : (rs : List Run) (p : Pace) (n : ℕ) → n ≤ 0 → paces_in rs ≡ paces_in rs ++ replicate n p
put_none rs p n h = let z : n ≡ 0 = omega arith in sym (ap (λ k. paces_in rs ++ replicate k p) z ∙ append-nil (paces_in rs))

pub put_some : (rs qs : List Run) (p : Pace) (n : ℕ) → 0 < n → qs ≡ rs ++ record { pace = p; more = n - 1 } ∷ [] → paces_in qs ≡ paces_in rs ++ replicate n p
put_some rs qs p n h e =
    let r : Run = record { pace = p; more = n - 1 } in
    let one : 1 + (n - 1) ≡ n = omega arith in
    ap paces_in e ∙ runs_more rs r ∙ ap (λ ps. paces_in rs ++ ps) (run_letters r) ∙ ap (λ k. paces_in rs ++ replicate k p) one

-- the next letters are those of the count
replicate_more : (a b : ℕ) (p : Pace) → replicate (a + b) p ≡ replicate a p ++ replicate b p
replicate_more zero b p = let e : zero + b ≡ b = omega arith in ap (λ k. replicate k p) e
replicate_more (suc a) b p = let e : suc a + b ≡ suc (a + b) = omega arith in ap (λ k. replicate k p) e ∙ ap (λ ps. p ∷ ps) (replicate_more a b p)

pub same_letter : (m now next : State) (s n k c : ℕ) (ps : List Pace) (p : Pace) (r : Run) → k + (1 + r.more) ≤ n
    → PacesSo m now s n k (ps ++ replicate c p) → next ≡ after_ticks now s (1 + r.more)
    → paces_in (r ∷ []) ≡ paces_of now s (1 + r.more) → r.pace ≡ p → PacesSo m next s n (k + (1 + r.more)) (ps ++ replicate (c + (1 + r.more)) p)
same_letter m now next s n k c ps p r h so e f same =
    pacing_some m now next s n k (1 + r.more) (ps ++ replicate c p) (ps ++ replicate (c + (1 + r.more)) p) h so e
    (ap (λ qs. ps ++ qs) (replicate_more c (1 + r.more) p) ∙ sym (append_assoc ps (replicate c p) (replicate (1 + r.more) p))
    ∙ ap (λ x. (ps ++ replicate c p) ++ replicate (1 + r.more) x) (sym same) ∙ ap (λ qs. (ps ++ replicate c p) ++ qs) (sym (run_letters r) ∙ f))

-- they are others
pub other_letter : (m now next : State) (s n k c : ℕ) (ps qs : List Pace) (p : Pace) (r : Run) → k + (1 + r.more) ≤ n
    → PacesSo m now s n k (ps ++ replicate c p) → next ≡ after_ticks now s (1 + r.more)
    → paces_in (r ∷ []) ≡ paces_of now s (1 + r.more) → qs ≡ ps ++ replicate c p → PacesSo m next s n (k + (1 + r.more)) (qs ++ replicate (1 + r.more) r.pace)
other_letter m now next s n k c ps qs p r h so e f g =
    pacing_some m now next s n k (1 + r.more) (ps ++ replicate c p) (qs ++ replicate (1 + r.more) r.pace) h so e
    (ap (λ x. x ++ replicate (1 + r.more) r.pace) g ∙ ap (λ x. (ps ++ replicate c p) ++ x) (sym (run_letters r) ∙ f))

-- letters that are found alike
pub same_pace : (a b : Pace) → sameb pace_type a b ≡ true → a ≡ b
same_pace Step Step h = refl
same_pace Work Work h = refl
same_pace Wait Wait h = refl
same_pace Off Off h = refl
same_pace _ _ h = absurd cc

-- the letters that were made, with their numbers under other names
pub pacing_as : (m next : State) (s n k j c d : ℕ) (ps qs : List Pace) (p q : Pace) → PacesSo m next s n k (ps ++ replicate c p) → j ≡ k
    → qs ≡ ps → d ≡ c → q ≡ p
    → PacesSo m next s n j (qs ++ replicate d q)
pacing_as m next s n k j c d ps qs p q so e f g h =
    let all : qs ++ replicate d q ≡ ps ++ replicate c p = ap (λ x. x ++ replicate d q) f ∙ ap (λ x. ps ++ replicate x q) g
    ∙ ap (λ x. ps ++ replicate c x) h in
    subst (λ x. PacesSo m next s n x (qs ++ replicate d q)) (sym e) (subst (λ xs. PacesSo m next s n k xs) (sym all) so)

-- as many letters as ticks
letters_counted : (m : State) (s n : ℕ) → length (paces_of m s n) ≡ n
letters_counted m s zero = refl
letters_counted m s (suc n) = ap suc (letters_counted (tick m s).state s n)

pub paces_length : (m : State) (s n : ℕ) (ps : List Pace) → ps ≡ paces_of m s n → length ps ≡ n
paces_length m s n ps e = ap length e ∙ letters_counted m s n

-- letters that are all alike
pub like_these : (m : State) (s n : ℕ) (p q : Pace) → p ≡ q → paces_of m s n ≡ replicate n q → paces_of m s n ≡ replicate n p
like_these m s n p q e h = h ∙ ap (replicate n) (sym e)

-- one tick, and those after it that surely have its letter
pub one_more : (m next : State) (s : ℕ) (p : Pace) → next ≡ (tick m s).state → p ≡ (tick m s).pace
    → (next ≡ after_ticks m s (1 + 0)) × (paces_in (record { pace = p; more = 0 } ∷ []) ≡ paces_of m s (1 + 0))
one_more m next s p e f = (e, ap (λ x. x ∷ []) f)

pub one_and_more : (m mid next : State) (s k : ℕ) (p : Pace) → mid ≡ (tick m s).state → p ≡ (tick m s).pace → next ≡ after_ticks mid s k
    → paces_of mid s k ≡ replicate k p
    → (next ≡ after_ticks m s (1 + k)) × (paces_in (record { pace = p; more = k } ∷ []) ≡ paces_of m s (1 + k))
one_and_more m mid next s k p e f h i =
    let one : suc k ≡ 1 + k = omega arith in (
      h ∙ ap (λ x. after_ticks x s k) e ∙ ap (after_ticks m s) one,
      ap (λ x. p ∷ x) (append-nil (replicate k p) ∙ sym i)
          ∙ ap (λ x. x ∷ paces_of mid s k) f ∙ ap (λ x. (tick m s).pace ∷ paces_of x s k) e ∙ ap (paces_of m s) one,
    )

-- a slot that waits: n letters at once
pub all_wait : (m : State) (s n : ℕ) (rs qs : List Run) (p : Pace) → rs ≡ [] → paces_in qs ≡ paces_in rs ++ replicate n p
    → paces_of m s n ≡ replicate n p → paces_in qs ≡ paces_of m s n
all_wait m s n rs qs p e f g = f ∙ ap (λ xs. paces_in xs ++ replicate n p) e ∙ sym g
