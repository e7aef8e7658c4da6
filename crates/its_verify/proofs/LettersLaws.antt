-- The letters of a line, one after another.
use Rattle.std.proofs.Common.{◌≡◌, ◌<◌, ◌≤◌, ◌+◌, ◌-◌, ℕ, zero, suc, Bool, true, false, not, Some, None, List, ◌∷◌, ◌++◌, replicate, refl, sym, ap, subst, ◌∙◌, arith}
use Rattle.std.proofs.lemmas.Bool.{false≢true}
use Rattle.std.specs.Prelude.{option_and_then}
use Rattle.its_records.specs.declared.calls.Pace.{Pace}
use Rattle.its_records.specs.declared.calls.Pace.TheVariants.{Wait, Off}
use Rattle.its_plain.specs.Transcript.Licence.{Dots}
use Rattle.its_plain.specs.Machine.{Machine}
use Rattle.its_plain.specs.Operator.{Block}
use Rattle.its_plain.specs.Transcript.{after_letter}
use Rattle.its_direct.specs.Plain.{machine_of}
use Rattle.its_verify.specs.Letters.{led_to, paced, ticks_in}
use Rattle.its_verify.specs.JudgeState.{Again, AllLed, walk_of, Sure, Led, LedIf, RunLed, RunOn, RunsLed}
use Rattle.its_verify.specs.declared.judge.Judge.{Judge}

-- one letter
pub letter_leads : (old new : Judge) (i : ℕ) (p : Pace) (ps : List Pace) (b : Block) (n : ℕ) → Led old new i p
    → paced (walk_of old b n) i (p ∷ ps) ≡ paced (walk_of new b n) i ps
letter_leads old new i p ps b n led =
    ap (option_and_then (λ (m : Machine). paced (after_letter (walk_of old b n) i p m) i ps)) (led.leads b n)
    ∙ ap (λ (d : Dots). paced (record { machine = machine_of new.plain; dots = d; block = b; line = n }) i ps) (sym led.dots)

pub letter_stops : (old : Judge) (i : ℕ) (p : Pace) (ps : List Pace) (b : Block) (n : ℕ) → led_to (walk_of old b n) i p ≡ None
    → paced (walk_of old b n) i (p ∷ ps) ≡ None
letter_stops old i p ps b n none = ap (option_and_then (λ (m : Machine). paced (after_letter (walk_of old b n) i p m) i ps)) none

-- a run
pub taken_apart : (m k : ℕ) (p : Pace) (ps : List Pace) → k ≤ m → replicate m p ++ ps ≡ replicate k p ++ (replicate (m - k) p ++ ps)
taken_apart m zero p ps few = let all : m ≡ m - 0 = omega arith in ap (λ (j : ℕ). replicate j p ++ ps) all
taken_apart zero (suc k) p ps few = absurd (omega (arith, few))
taken_apart (suc m) (suc k) p ps few =
    let left : m - k ≡ suc m - suc k = omega arith in
    ap (λ (xs : List Pace). p ∷ xs) (taken_apart m k p ps (omega (arith, few)) ∙ ap (λ (j : ℕ). replicate k p ++ (replicate j p ++ ps)) left)

pub run_start : (old mid new : Judge) (i m k : ℕ) (p : Pace) (licensed : Bool) → licensed ≡ true → LedIf licensed old mid i p → k ≤ m
    → RunLed true mid new i (replicate k p)
    → RunOn old new i (p ∷ replicate m p) (replicate (m - k) p)
run_start old mid new i m k p true is led few taken b n ps =
    letter_leads old mid i p (replicate m p ++ ps) b n led
    ∙ ap (paced (walk_of mid b n) i) (taken_apart m k p ps few)
    ∙ taken b n (replicate (m - k) p ++ ps)
run_start old mid new i m k p false is led few taken b n ps = absurd (false≢true is)

pub run_first_stops : (old new : Judge) (i m : ℕ) (p : Pace) (licensed : Bool) → licensed ≡ false → LedIf licensed old new i p
    → RunLed false old new i (p ∷ replicate m p)
run_first_stops old new i m p false is led b n ps = letter_stops old i p (replicate m p ++ ps) b n (led b n)
run_first_stops old new i m p true is led b n ps = absurd (false≢true (sym is))

one_left : (m k : ℕ) (p : Pace) → k < m → replicate (m - k) p ≡ p ∷ replicate (m - (k + 1)) p
one_left m k p less = let e : m - k ≡ suc (m - (k + 1)) = omega arith in rw e refl

pub run_on : (old now new : Judge) (i m k : ℕ) (all : List Pace) (p : Pace) (licensed : Bool) → k < m
    → RunOn old now i all (replicate (m - k) p) → licensed ≡ true → LedIf licensed now new i p
    → RunOn old new i all (replicate (m - (k + 1)) p)
run_on old now new i m k all p true less so is led b n ps =
    so b n ps ∙ ap (λ (qs : List Pace). paced (walk_of now b n) i (qs ++ ps)) (one_left m k p less)
    ∙ letter_leads now new i p (replicate (m - (k + 1)) p ++ ps) b n led
run_on old now new i m k all p false less so is led b n ps = absurd (false≢true is)

pub run_stops : (old now new : Judge) (i m k : ℕ) (all : List Pace) (p : Pace) (licensed : Bool) → k < m
    → RunOn old now i all (replicate (m - k) p) → licensed ≡ false → LedIf licensed now new i p
    → RunLed false old new i all
run_stops old now new i m k all p false less so is led b n ps =
    so b n ps ∙ ap (λ (qs : List Pace). paced (walk_of now b n) i (qs ++ ps)) (one_left m k p less)
    ∙ letter_stops now i p (replicate (m - (k + 1)) p ++ ps) b n (led b n)
run_stops old now new i m k all p true less so is led b n ps = absurd (false≢true (sym is))

pub run_end : (old now : Judge) (i m k : ℕ) (all : List Pace) (p : Pace) → m ≤ k → RunOn old now i all (replicate (m - k) p) → RunLed true old now i all
run_end old now i m k all p past so b n ps =
    let none : m - k ≡ 0 = omega arith in
    so b n ps ∙ ap (λ (j : ℕ). paced (walk_of now b n) i (replicate j p ++ ps)) none

-- none, and then some
pub run_then : (old mid new : Judge) (i j k : ℕ) (p : Pace) → j ≡ 0 → RunLed true old mid i (replicate j p)
    → RunLed true mid new i (replicate k p) → RunLed true old new i (replicate k p)
run_then old mid new i j k p none first then b n ps =
    ap (λ (m : ℕ). paced (walk_of old b n) i (replicate m p ++ (replicate k p ++ ps))) (sym none) ∙ first b n (replicate k p ++ ps) ∙ then b n ps

-- one that changes nothing, again and again
all_again : (j : Judge) (i k : ℕ) (p : Pace) → Led j j i p → RunLed true j j i (replicate k p)
all_again j i zero p led b n ps = refl
all_again j i (suc k) p led b n ps = letter_leads j j i p (replicate k p ++ ps) b n led ∙ all_again j i k p led b n ps

pub waits_again : (j : Judge) (i k : ℕ) (p : Pace) → p ≡ Wait → Again p j i → RunLed true j j i (replicate k p)
waits_again j i k p is so = all_again j i k p (subst (λ (q : Pace). Led j j i q) (sym is) (subst (λ (q : Pace). Again q j i) is so))

pub off_again : (j : Judge) (i k : ℕ) (p : Pace) → p ≡ Off → Again p j i → RunLed true j j i (replicate k p)
off_again j i k p is so = all_again j i k p (subst (λ (q : Pace). Led j j i q) (sym is) (subst (λ (q : Pace). Again q j i) is so))

-- the letters of a line
pub all_led : (licensed : Bool) (old new : Judge) (i k : ℕ) (text : List ℕ) (ps : List Pace) → ticks_in i k text ≡ Some ps → RunsLed licensed old new i ps
    → (licensed ≡ true → Sure new) → new.ended ≡ not licensed → AllLed licensed old new text i k
all_led true old new i k text ps read led sure going = (sure refl, going, λ b n. ap (option_and_then (paced (walk_of old b n) i)) read ∙ led b n)
all_led false old new i k text ps read led sure going = λ b n. ap (option_and_then (paced (walk_of old b n) i)) read ∙ led b n

pub not_read : (old : Judge) (i k : ℕ) (text : List ℕ) → ticks_in i k text ≡ None → AllLed false old old text i k
not_read old i k text none = λ b n. ap (option_and_then (paced (walk_of old b n) i)) none
