-- The `*` of a run, taken some at a time.
use Rattle.std.proofs.Common.{◌≡◌, ◌≢◌, ◌<◌, ◌≤◌, ◌+◌, ◌-◌, ◌&&◌, ℕ, suc, Bool, true, false, Some, None, length, List, ◌∷◌, ◌++◌, replicate, refl, sym, ap, subst, ◌∙◌, arith}
use Rattle.std.proofs.lemmas.Bool.{false≢true, le-leb, lt-leb}
use Rattle.std.specs.Prelude.{bytes_eq}
use Rattle.its_records.specs.declared.calls.Pace.{Pace}
use Rattle.its_records.specs.declared.calls.Pace.TheVariants.{Step}
use Rattle.its_print.specs.declared.runs.Run.{Run}
use Rattle.its_print.specs.Printing.{Ticks, text_of_line}
use Rattle.its_print.specs.Runs.{paces_in}
use Rattle.its_verify.specs.Letters.{paced, ticks_in}
use Rattle.its_verify.specs.Reading.{is_alike, last_letter, most_alike, says_alike}
use Rattle.its_verify.specs.JudgeState.{LedIf, RunLed, RunOn, walk_of}
use Rattle.its_verify.specs.declared.judge.Judge.{Judge}
use Rattle.its_verify.proofs.LicenceLaws.{ticks_said}
use Rattle.its_verify.proofs.LettersLaws.{letter_leads, letter_stops, taken_apart}

-- of so many and one more
abbrev all_of : ℕ → List Pace
all_of m = Step ∷ replicate m Step

pub stars_start : (old : Judge) (i m : ℕ) → RunOn old old i (Step ∷ replicate m Step) (Step ∷ replicate m Step)
stars_start old i m b n ps = refl

pub stars_stop : (old now new : Judge) (i m k t : ℕ) → t ≡ 0 → RunOn old now i (Step ∷ replicate m Step) (Step ∷ replicate k Step)
    → (t ≡ 0 → RunLed false now new i (Step ∷ replicate k Step)) → RunLed false old new i (Step ∷ replicate m Step)
stars_stop old now new i m k t none so stop b n ps = so b n ps ∙ stop none b n ps

pub stars_all : (old now new : Judge) (i m k t : ℕ) → t ≢ 0 → k < t → t ≤ k + 1 → RunOn old now i (Step ∷ replicate m Step) (Step ∷ replicate k Step)
    → (t ≢ 0 → RunLed true now new i (replicate t Step)) → RunLed true old new i (Step ∷ replicate m Step)
stars_all old now new i m k t some past few so led b n ps =
    let all : suc k ≡ t = omega (arith, past, few) in
    so b n ps ∙ ap (λ (j : ℕ). paced (walk_of now b n) i (replicate j Step ++ ps)) all ∙ led some b n ps

pub stars_on : (old now new : Judge) (i m k t : ℕ) → t ≢ 0 → t ≤ k → RunOn old now i (Step ∷ replicate m Step) (Step ∷ replicate k Step)
    → (t ≢ 0 → RunLed true now new i (replicate t Step)) → RunOn old new i (Step ∷ replicate m Step) (Step ∷ replicate (k - t) Step)
stars_on old now new i m k t some few so led b n ps =
    let left : suc k - t ≡ suc (k - t) = omega (arith, few) in
    so b n ps
    ∙ ap (paced (walk_of now b n) i) (taken_apart (suc k) t Step ps (omega (arith, few)))
    ∙ led some b n (replicate (suc k - t) Step ++ ps)
    ∙ ap (λ (j : ℕ). paced (walk_of new b n) i (replicate j Step ++ ps)) left

-- none at once, and then one or none
pub stars_none : (old mid new : Judge) (i j m : ℕ) (licensed : Bool) → j ≡ 0 → RunLed true old mid i (replicate j Step) → licensed ≡ false
    → LedIf licensed mid new i Step
    → RunLed false old new i (Step ∷ replicate m Step)
stars_none old mid new i j m false none first is led b n ps =
    ap (λ (k : ℕ). paced (walk_of old b n) i (replicate k Step ++ (all_of m ++ ps))) (sym none) ∙ first b n (all_of m ++ ps)
    ∙ letter_stops mid i Step (replicate m Step ++ ps) b n (led b n)
stars_none old mid new i j m true none first is led b n ps = absurd (false≢true (sym is))

pub star_one : (old mid new : Judge) (i j : ℕ) (licensed : Bool) → j ≡ 0 → RunLed true old mid i (replicate j Step) → licensed ≡ true
    → LedIf licensed mid new i Step
    → RunLed true old new i (replicate 1 Step)
star_one old mid new i j true none first is led b n ps =
    ap (λ (k : ℕ). paced (walk_of old b n) i (replicate k Step ++ (Step ∷ ps))) (sym none) ∙ first b n (Step ∷ ps)
    ∙ letter_leads mid new i Step ps b n led
star_one old mid new i j false none first is led b n ps = absurd (false≢true is)

-- a run of them
pub of_stars : (old new : Judge) (i m : ℕ) (p : Pace) (licensed : Bool) → p ≡ Step → RunLed licensed old new i (Step ∷ replicate m Step)
    → RunLed licensed old new i (p ∷ replicate m p)
of_stars old new i m p licensed is led = subst (λ (q : Pace). RunLed licensed old new i (q ∷ replicate m q)) (sym is) led

-- letters that are all alike
pub alike_read : (i k : ℕ) (line : List ℕ) (rs : List Run) → length (paces_in rs) ≡ k
    → bytes_eq line (text_of_line (Ticks i (paces_in rs))) ≡ true → ticks_in i k line ≡ Some (paces_in rs)
alike_read i k line rs many said = ticks_said i k line (paces_in rs) many said

pub alike_said : (i k : ℕ) (line : List ℕ) (ps : List Pace) (p : Pace) (b : Bool) → length line ≤ most_alike → last_letter line ≡ Some p → ps ≡ replicate k p
    → b ≡ bytes_eq line (text_of_line (Ticks i ps)) → b ≡ is_alike i k line
alike_said i k line ps p b few last all said =
    said
    ∙ ap (λ (qs : List Pace). bytes_eq line (text_of_line (Ticks i qs))) all
    ∙ sym (ap (λ (t : Bool). t && says_alike i k line (last_letter line)) (le-leb (length line) most_alike few) ∙ ap (says_alike i k line) last)

pub alike_long : (i k : ℕ) (line : List ℕ) → most_alike < length line → false ≡ is_alike i k line
alike_long i k line long = sym (ap (λ (t : Bool). t && says_alike i k line (last_letter line)) (lt-leb (length line) most_alike long))

pub alike_none : (i k : ℕ) (line : List ℕ) → length line ≤ most_alike → last_letter line ≡ None → false ≡ is_alike i k line
alike_none i k line few none =
    sym (ap (λ (t : Bool). t && says_alike i k line (last_letter line)) (le-leb (length line) most_alike few) ∙ ap (says_alike i k line) none)
