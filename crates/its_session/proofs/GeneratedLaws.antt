-- The number of each line in the generated session, and that its lines fit the table of lines.
use Rattle.std.specs.Prelude.{if◌then◌else◌, ◌≡◌, ◌≢◌, ◌≤◌, ◌<◌, ◌+◌, ◌-◌, ◌*◌, ◌^◌, ◌/◌, ◌%◌, ◌==◌, ℕ, zero, suc, Option, Some, None, IfSome, List, [], ◌∷◌, ◌++◌, All, codes, length, slice_get, refl}
use Rattle.std.proofs.Common.{sym, ◌∙◌, ap, subst, arith, inl, inr, length-append}
use Rattle.std.proofs.lemmas.Bool.{cases_Bool}
use Rattle.std.proofs.lemmas.Option.{slice_get_past}
use Rattle.std.proofs.lemmas.Bool.Decides.{nat_tests}
use Rattle.std.proofs.lemmas.List.Elements.{All-nil, All-cons, All-append, All-from_recursion, All-head, All-tail}
use Rattle.its_word.specs.Text.{is_name, sixbit_of}
use Rattle.its_records.specs.declared.session.Event.{Event}
use Rattle.its_records.specs.declared.session.Event.TheVariants as events
use Rattle.its_session.specs.Fits.{IsNameWord, EventFits}
use Rattle.its_session.specs.Grammar.{last_slot}
use Rattle.its_session.specs.Generated.{for_each, jobs, placed, letter, started, looked_at, echoed, emptied, all_started, round, all_emptied, generated_session, IsGenerated}

-- a place in the first of two lists, and one in the second
get_left : {A : Type 0} (xs ys : List A) (k : ℕ) → k < length xs → slice_get (xs ++ ys) k ≡ slice_get xs k
get_left [] ys k h = absurd (omega arith)
get_left (x ∷ xs) ys zero h = refl
get_left (x ∷ xs) ys (suc k) h = get_left xs ys k (omega arith)

get_right : {A : Type 0} (xs ys : List A) (k i : ℕ) → i ≡ length xs + k → slice_get (xs ++ ys) i ≡ slice_get ys k
get_right [] ys k i e = let h : i ≡ k = omega arith in ap (slice_get ys) h
get_right (x ∷ xs) ys k i e = let h : i ≡ suc (length xs + k) = omega arith in rw h (get_right xs ys k (length xs + k) refl)

-- the parts of a list that is made for each number below n
before : {A : Type 0} (f : ℕ → List A) (n r : ℕ) → r < n → length (for_each r f) + length (f r) ≤ length (for_each n f)
before f zero r h = absurd (omega arith)
before f (suc n) r h = elim (cases_Bool (r == n)) [
  | inl t ↦ let e : r ≡ n = grind (arith, nat_tests) in rw e (omega (arith, length-append (for_each n f) (f n)))
  | inr t ↦ let l : r < n = grind (arith, nat_tests) in omega (arith, length-append (for_each n f) (f n), before f n r l)
]

at_each : {A : Type 0} (f : ℕ → List A) (n r j : ℕ) → r < n → j < length (f r) → slice_get (for_each n f) (length (for_each r f) + j) ≡ slice_get (f r) j
at_each f zero r j h l = absurd (omega arith)
at_each f (suc n) r j h l = elim (cases_Bool (r == n)) [
  | inl t ↦ let e : r ≡ n = grind (arith, nat_tests) in rw e (get_right (for_each n f) (f n) j (length (for_each n f) + j) refl)
  | inr t ↦ let k : r < n = grind (arith, nat_tests) in
      get_left (for_each n f) (f n) (length (for_each r f) + j) (omega (arith, before f n r k)) ∙ at_each f n r j k l
]

-- lists of one length
length_each : {A : Type 0} (f : ℕ → List A) (m : ℕ) → ((r : ℕ) → length (f r) ≡ m) → (n : ℕ) → length (for_each n f) ≡ m * n
length_each f m h zero = omega arith
length_each f m h (suc n) =
    let e : m * suc n ≡ m * n + m = grind arith in
    omega (arith, length-append (for_each n f) (f n), length_each f m h n, h n, e)

-- how many lines a round has at a console
looks_length : (r c : ℕ) → length (looked_at r c) + (r + c + 2) / 3 ≡ (r + c + 3) / 3
looks_length r c = elim (cases_Bool ((r + c) % 3 == 0)) [
  | inl t ↦ let e : (r + c) % 3 ≡ 0 = grind (arith, nat_tests) in rw t (omega arith)
  | inr t ↦ let e : (r + c) % 3 ≢ 0 = grind (arith, nat_tests) in rw t (omega arith)
]

echoed_length : (r c : ℕ) → length (echoed r c) + (r + c + 2) / 3 ≡ 3 + (r + c + 3) / 3
unfolding echoed
echoed_length r c = omega (arith, length-append (looked_at r c) (events.Drain c 8 ∷ []), looks_length r c)

echoes_length : (r c : ℕ) → length (for_each c (echoed r)) + (r + 2) / 3 ≡ 3 * c + (r + c + 2) / 3
echoes_length r zero = omega arith
echoes_length r (suc c) = omega (arith, length-append (for_each c (echoed r)) (echoed r c), echoed_length r c, echoes_length r c)

round_length : (r : ℕ) → length (round r) + (80 * r + 1) / 3 ≡ (80 * suc r + 1) / 3
unfolding round
round_length r = omega (arith, echoes_length r 8)

rounds_length : (n : ℕ) → length (for_each n round) ≡ (80 * n + 1) / 3
rounds_length zero = omega arith
rounds_length (suc n) = omega (arith, length-append (for_each n round) (round n), round_length n, rounds_length n)

-- line k of a round
pub in_round : (r c left k : ℕ) → length (for_each c (echoed r)) + left ≡ k → c < jobs → left < length (echoed r c)
    → slice_get (round r) k ≡ slice_get (echoed r c) left
unfolding round
in_round r c left k e h l = rw (← e) (at_each (echoed r) 8 c left h l)

pub next_job : (r c : ℕ) → length (for_each (suc c) (echoed r)) ≡ length (for_each c (echoed r)) + length (echoed r c)
next_job r c = length-append (for_each c (echoed r)) (echoed r c)

pub past_round : (r left k : ℕ) → length (for_each 8 (echoed r)) + left ≡ k → slice_get (round r) k ≡ None
unfolding round
past_round r left k e = slice_get_past (for_each 8 (echoed r)) k (omega arith)

pub job_lines : (r c : ℕ) → length (echoed r c) ≡ (if (r + c) % 3 == 0 then 4 else 3)
unfolding echoed
job_lines r c = elim (cases_Bool ((r + c) % 3 == 0)) [
  | inl t ↦ rw t refl
  | inr t ↦ rw t refl
]

-- the lines that start the jobs, and those that empty the consoles
started_length : (c : ℕ) → length (started c) ≡ 6
unfolding started
started_length c = refl

emptied_length : (c : ℕ) → length (emptied c) ≡ 2
unfolding emptied
emptied_length c = refl

all_started_length : length all_started ≡ 48
unfolding all_started
all_started_length = length_each started 6 started_length 8

all_emptied_length : length all_emptied ≡ 16
unfolding all_emptied
all_emptied_length = length_each emptied 2 emptied_length 8

pub session_length : (n : ℕ) → length (generated_session n) ≡ 65 + (80 * n + 1) / 3
unfolding generated_session
session_length n =
    omega (
      arith,
      length-append all_started (for_each n round ++ (all_emptied ++ events.End ∷ [])),
      length-append (for_each n round) (all_emptied ++ events.End ∷ []),
      length-append all_emptied (events.End ∷ []),
      all_started_length,
      rounds_length n,
      all_emptied_length,
    )

pub in_start : (n k : ℕ) → k < 48 → slice_get (generated_session n) k ≡ slice_get (started (k / 6)) (k % 6)
unfolding generated_session all_started
in_start n k h =
    let c : k / 6 < 8 = omega arith in
    let j : k % 6 < length (started (k / 6)) = omega (arith, started_length (k / 6)) in
    let e : length (for_each (k / 6) started) + k % 6 ≡ k = omega (arith, length_each started 6 started_length (k / 6)) in
    get_left all_started (for_each n round ++ (all_emptied ++ events.End ∷ [])) k (omega (arith, all_started_length))
    ∙ ap (slice_get all_started) (sym e) ∙ at_each started 8 (k / 6) (k % 6) c j

-- line k of the rounds, which are n
pub in_rounds : (n k r : ℕ) → 48 ≤ k → r ≡ (3 * (k - 48) + 1) / 80 → r < n
    → slice_get (generated_session n) k ≡ slice_get (round r) (k - 48 - (80 * r + 1) / 3)
unfolding generated_session
in_rounds n k r le is h =
    let j = k - 48 - (80 * r + 1) / 3 in
    let l : j < length (round r) = omega (arith, round_length r) in
    let e : (80 * r + 1) / 3 + j ≡ k - 48 = omega arith in
    let b : length (for_each r round) + j ≡ k - 48 = omega (arith, rounds_length r) in
    let w : k - 48 < length (for_each n round) = omega (arith, rounds_length r, before round n r h) in
    get_right all_started (for_each n round ++ (all_emptied ++ events.End ∷ [])) (k - 48) k (omega (arith, all_started_length))
    ∙ get_left (for_each n round) (all_emptied ++ events.End ∷ []) (k - 48) w
    ∙ ap (slice_get (for_each n round)) (sym b) ∙ at_each round n r j h l

-- a line after the rounds
pub in_end : (n k r : ℕ) → 48 ≤ k → r ≡ (3 * (k - 48) + 1) / 80 → n ≤ r
    → slice_get (generated_session n) k ≡ slice_get (all_emptied ++ events.End ∷ []) (k - 48 - (80 * n + 1) / 3)
unfolding generated_session
in_end n k r le is h =
    let e : k - 48 ≡ length (for_each n round) + (k - 48 - (80 * n + 1) / 3) = omega (arith, rounds_length n) in
    get_right all_started (for_each n round ++ (all_emptied ++ events.End ∷ [])) (k - 48) k (omega (arith, all_started_length))
    ∙ get_right (for_each n round) (all_emptied ++ events.End ∷ []) (k - 48 - (80 * n + 1) / 3) (k - 48) e

pub in_emptying : (k : ℕ) → k < 16 → slice_get (all_emptied ++ events.End ∷ []) k ≡ slice_get (emptied (k / 2)) (k % 2)
unfolding all_emptied
in_emptying k h =
    let c : k / 2 < 8 = omega arith in
    let j : k % 2 < length (emptied (k / 2)) = omega (arith, emptied_length (k / 2)) in
    let e : length (for_each (k / 2) emptied) + k % 2 ≡ k = omega (arith, length_each emptied 2 emptied_length (k / 2)) in
    get_left all_emptied (events.End ∷ []) k (omega (arith, all_emptied_length))
    ∙ ap (slice_get all_emptied) (sym e) ∙ at_each emptied 8 (k / 2) (k % 2) c j

pub at_emptied : (k : ℕ) → k ≡ 16 → slice_get (all_emptied ++ events.End ∷ []) k ≡ Some events.End
at_emptied k h = get_right all_emptied (events.End ∷ []) 0 k (omega (arith, all_emptied_length))

pub past_emptied : (k : ℕ) → 16 < k → slice_get (all_emptied ++ events.End ∷ []) k ≡ None
past_emptied k h = slice_get_past (all_emptied ++ events.End ∷ []) k (omega (arith, length-append all_emptied (events.End ∷ []), all_emptied_length))

-- each line fits the table of lines
all_each : {A : Type 0} (P : A → Type 0) (f : ℕ → List A) (n : ℕ) → ((r : ℕ) → r < n → All P (f r)) → All P (for_each n f)
all_each P f zero h = All-nil P
all_each P f (suc n) h = All-append P (for_each n f) (f n) (all_each P f n (λ r l. h r (omega arith))) (h n (omega arith))

user : IsNameWord (sixbit_of (codes "U"))
unfolding sixbit_of is_name
user = record { text = codes "U"; formed = refl; coded = refl }

job : IsNameWord (sixbit_of (codes "E"))
unfolding sixbit_of is_name
job = record { text = codes "E"; formed = refl; coded = refl }

-- what holds of each line
abbrev Fine : Event → Type 0
Fine e = EventFits 1 e × IsGenerated e

load_fit : (c : ℕ) → c < 8 → Fine (events.Load (sixbit_of (codes "U")) (sixbit_of (codes "E")) (Some c))
load_fit c h = ((user, job, omega arith), tt)

words_fit : (a : ℕ) (ws : List ℕ) → 1 ≤ length ws → length ws ≤ 16 → a + length ws ≤ 2 ^ 18 → Fine (placed a ws)
words_fit a ws l m h = ((l, m, h), tt)

tick_fit : (s n : ℕ) → s < 8 → 1 ≤ n → n ≤ 512 → Fine (events.Tick s n)
unfolding last_slot
tick_fit s n h l m = ((omega arith, l, m), tt)

drain_fit : (c n : ℕ) → c < 8 → 1 ≤ n → n ≤ 64 → Fine (events.Drain c n)
drain_fit c n h l m = ((omega arith, l, m), tt)

type_fit : (r c : ℕ) → c < 8 → Fine (events.TypeIn c (record { items = letter r c ∷ [] }))
type_fit r c h = ((omega arith, omega arith, omega arith, All-cons (λ b. b ≤ 127) (letter r c) [] (omega arith) (All-nil (λ b. b ≤ 127))), tt)

exam_fit : (c : ℕ) → c < 8 → Fine (events.Exam c 3 1)
unfolding last_slot
exam_fit c h = ((omega arith, omega arith, omega arith, omega arith), tt)

started_fit : (c : ℕ) → c < 8 → All Fine (started c)
unfolding started
started_fit c h =
    let opens = words_fit 0o1000 (0o043000001020 ∷ 0o045700000000 ∷ 0o043000001030 ∷ 0o045700000000 ∷ 0o040040000003 ∷ 0o040100000003
    ∷ 0o254000001004 ∷ []) (omega arith) (omega arith) (omega arith) in
    let input = words_fit 0o1020 (0o400000000000 ∷ 0o576045560000 ∷ 0o001000000001 ∷ 0o400000001050 ∷ []) (omega arith) (omega arith) (omega arith) in
    let output = words_fit 0o1030 (0o400000000000 ∷ 0o576045560000 ∷ 0o005000000001 ∷ 0o001000000002 ∷ 0o400000001050 ∷ []) (omega arith)
    (omega arith) (omega arith) in
    let device = words_fit 0o1050 (0o646471000000 ∷ []) (omega arith) (omega arith) (omega arith) in
    let go : Fine (events.Go 0o1000) = (omega arith, tt) in
    All-from_recursion Fine (started c) (load_fit c h, (opens, (input, (output, (device, (go, tt))))))

looked_fit : (r c : ℕ) → c < 8 → All Fine (looked_at r c)
looked_fit r c h = elim (cases_Bool ((r + c) % 3 == 0)) [
  | inl t ↦ rw t (All-cons Fine (events.Exam c 3 1) [] (exam_fit c h) (All-nil Fine))
  | inr t ↦ rw t (All-nil Fine)
]

echoed_fit : (r c : ℕ) → c < 8 → All Fine (echoed r c)
unfolding echoed
echoed_fit r c h =
    let first = All-from_recursion Fine (events.TypeIn c (record { items = letter r c ∷ [] }) ∷ events.Tick c 0o24 ∷ [])
    (type_fit r c h, (tick_fit c 0o24 h (omega arith) (omega arith), tt)) in
    let last = All-from_recursion Fine (events.Drain c 0o10 ∷ []) (drain_fit c 0o10 h (omega arith) (omega arith), tt) in
    All-append Fine (events.TypeIn c (record { items = letter r c ∷ [] }) ∷ events.Tick c 0o24 ∷ []) (looked_at r c ++ events.Drain c 0o10 ∷ []) first
    (All-append Fine (looked_at r c) (events.Drain c 0o10 ∷ []) (looked_fit r c h) last)

round_fit : (r : ℕ) → All Fine (round r)
unfolding round
round_fit r = all_each Fine (echoed r) 8 (λ c h. echoed_fit r c h)

emptied_fit : (c : ℕ) → c < 8 → All Fine (emptied c)
unfolding emptied
emptied_fit c h =
    All-from_recursion Fine (emptied c) (tick_fit c 0o40 h (omega arith) (omega arith), (drain_fit c 0o100 h (omega arith) (omega arith), tt))

session_fits : (n : ℕ) → All Fine (generated_session n)
unfolding generated_session all_started all_emptied
session_fits n =
    All-append Fine (for_each 8 started) (for_each n round ++ (for_each 8 emptied ++ events.End ∷ [])) (all_each Fine started 8 started_fit)
    (All-append Fine (for_each n round) (for_each 8 emptied ++ events.End ∷ []) (all_each Fine round n (λ r h. round_fit r))
    (All-append Fine (for_each 8 emptied) (events.End ∷ []) (all_each Fine emptied 8 emptied_fit)
    (All-cons Fine events.End [] (tt, tt) (All-nil Fine))))

all_get : {A : Type 0} (P : A → Type 0) (xs : List A) (k : ℕ) → All P xs → IfSome (slice_get xs k) P
all_get P [] k a = tt
all_get P (x ∷ xs) zero a = All-head P x xs a
all_get P (x ∷ xs) (suc k) a = all_get P xs k (All-tail P x xs a)

fine_at : (n k : ℕ) (o : Option Event) → o ≡ slice_get (generated_session n) k → IfSome o Fine
fine_at n k o h = subst (λ x. IfSome x Fine) (sym h) (all_get Fine (generated_session n) k (session_fits n))

first : (o : Option Event) → IfSome o Fine → IfSome o (λ e. EventFits 1 e)
first (Some e) h = h.0
first None h = tt

second : (o : Option Event) → IfSome o Fine → IfSome o (λ e. IsGenerated e)
second (Some e) h = h.1
second None h = tt

pub generated_fits : (n k : ℕ) (o : Option Event) → o ≡ slice_get (generated_session n) k → IfSome o (λ e. EventFits 1 e)
generated_fits n k o h = first o (fine_at n k o h)

pub generated_kinds : (n k : ℕ) (o : Option Event) → o ≡ slice_get (generated_session n) k → IfSome o (λ e. IsGenerated e)
generated_kinds n k o h = second o (fine_at n k o h)
