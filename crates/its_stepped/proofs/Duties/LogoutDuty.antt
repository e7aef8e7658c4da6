-- LOGOUT does its duty: the jobs below the caller, and its superior, are in user mode before it.
use Rattle.std.specs.Prelude.{◌||◌, ◌≡◌, ◌≢◌, ◌≤◌, ◌<◌, ℕ, Bool, true, false, Option, Some, None, List, [], ◌∷◌, ◌++◌, refl}
use Rattle.std.specs.List.{range_with_len}
use Rattle.std.proofs.Common.{sym, ◌∙◌, ap, subst, inl, inr, arith}
use Rattle.std.proofs.lemmas.Bool.{cases_eq, cases_lt, ne_eqb}
use Rattle.its_word.specs.Limits.{slots}
use Rattle.its_records.specs.Tree.{is_below, slots_below}
use Rattle.its_records.proofs.TreeLaws.{below_none}
use Rattle.its_records.specs.declared.calls.Ask.{Ask}
use Rattle.its_records.specs.declared.calls.Site.{Site}
use Rattle.its_frame.specs.declared.change.Change.TheVariants as changes
use Rattle.its_frame.specs.declared.name.CallName.{CallName}
use Rattle.its_frame.specs.declared.name.CallName.TheVariants.{Logout}
use Rattle.its_plain.specs.Call.Arguments.{input}
use Rattle.its_plain.specs.Call.Basic.{told_superior, logout}
use Rattle.its_plain.specs.Call.Step.{among}
use Rattle.its_plain.specs.Machine.Change.{superior_in, superiors, is_gone}
use Rattle.its_plain.specs.Call.Decide.{call_named, listed}
use Rattle.its_plain.specs.Machine.{Whole, Machine}
use Rattle.its_plain.specs.Machine.View.{View}
use Rattle.its_stepped.specs.State.{State}
use Rattle.its_stepped.specs.Commit.{effect_on}
use Rattle.its_stepped.specs.Tick.{makes_page}
use Rattle.its_stepped.specs.Quiet.{IsStill, AllQuiet}
use Rattle.its_stepped.specs.Duty.{Duty, parts_in}
use Rattle.its_stepped.specs.Calling.{Calling}
use Rattle.its_stepped.proofs.Unwinding.UnwindLaws.{among_first, among_later, among_more, among_filter, among_range}
use Rattle.its_stepped.proofs.Frame.OwnLaws.{frame_none}
use Rattle.its_plain.proofs.TargetLaws.{reach_named}
use Rattle.its_stepped.proofs.Committing.TestLaws.{no_page}
use Rattle.its_stepped.proofs.Keeping.ForestLaws.{forest_few}

-- slots in lists
pub among_left : (k : ℕ) (xs ys : List ℕ) → among k xs ≡ true → among k (xs ++ ys) ≡ true
among_left k [] ys h = absurd cc
among_left k (i ∷ xs) ys h = elim (cases_eq i k) [
  | inl e ↦ subst (λ (n : ℕ). among n (i ∷ (xs ++ ys)) ≡ true) e (among_first i (xs ++ ys))
  | inr ne ↦ among_more i k (xs ++ ys) (among_left k xs ys (among_later i k xs (λ e. ne (sym e)) h))
]

pub among_right : (k : ℕ) (xs ys : List ℕ) → among k ys ≡ true → among k (xs ++ ys) ≡ true
among_right k [] ys h = h
among_right k (i ∷ xs) ys h = among_more i k (xs ++ ys) (among_right k xs ys h)

-- the slots below a job
is_slot : (m : Machine) (j k : ℕ) → ((i : ℕ) → slots ≤ i → m.jobs i ≡ None) → is_below (superiors m) j k ≡ true → k < slots
is_slot m j k few h = elim (cases_lt k slots) [
  | inl l ↦ l
  | inr ge ↦ let none : is_below (superiors m) j k ≡ false = below_none (superiors m) j k (ap superior_in (few k ge)) in absurd cc
]

pub among_below : (m : Machine) (j k : ℕ) → ((i : ℕ) → slots ≤ i → m.jobs i ≡ None) → is_below (superiors m) j k ≡ true
    → among k (slots_below (superiors m) j) ≡ true
unfolding slots_below
among_below m j k few h =
    let l : k < slots = is_slot m j k few h in
    among_filter (is_below (superiors m) j) k (range_with_len 0 slots) h (among_range k 0 slots (omega arith) (omega arith))

pub gone_below : (sup : ℕ → Option ℕ) (j k : ℕ) → k ≢ j → is_gone sup j k ≡ true → is_below sup j k ≡ true
gone_below sup j k ne h = sym (ap (λ (b : Bool). b || is_below sup j k) (ne_eqb k j ne)) ∙ h

-- the call reaches the jobs below the caller, and its superior
below_free : (m : Machine) (v : State) (j : ℕ) (q : Whole) (s : Site) (a : Ask) (n k : ℕ) → Calling m v j q s a n → a.fail ≡ 0
    → call_named a.name ≡ Some Logout → k ≢ j
    → is_gone (superiors v.raw) j k ≡ true → v.frames k ≡ None
below_free m v j q s a n k c z e ne gone =
    let same : is_gone (superiors v.raw) j k ≡ is_gone (superiors m) j k = (λ t. is_gone (λ i. c.tree i t) j k) in
    let below : is_below (superiors m) j k ≡ true = gone_below (superiors m) j k ne (sym same ∙ gone) in
    c.reached k (ap (among k) (reach_named m j q a Logout z e)
    ∙ among_left k (slots_below (superiors m) j) (listed q.superior) (among_below m j k (forest_few m c.forest) below))

told_quiet : (m : Machine) (v : State) (j : ℕ) (q : Whole) (s : Site) (a : Ask) (n : ℕ) (o : Option ℕ) → Calling m v j q s a n
    → ((k : ℕ) → among k (listed o) ≡ true → v.frames k ≡ None) → AllQuiet (told_superior o) j (effect_on (changes.Remove j) j v)
told_quiet m v j q s a n None c h = tt
told_quiet m v j q s a n (Some k) c h =
    let free : (effect_on (changes.Remove j) j v).frames k ≡ None = frame_none (changes.Remove j) j v k (h k (among_first k [])) in
    (record { still = subst IsStill (sym free) tt; other = λ ne. free }, tt)

told_part : (o : Option ℕ) → parts_in (told_superior o) ≡ 0
told_part None = refl
told_part (Some k) = refl

pub logout_duty : (m : Machine) (v : State) (j : ℕ) (x : View) (s : Site) (a : Ask) (n : ℕ) → Calling m v j x.own s a n
    → call_named a.name ≡ Some Logout → a.fail ≡ 0
    → Duty v j x.own s a n (logout x)
logout_duty m v j x s a n c e z = record {
  quiet = (
    λ k gone ne. below_free m v j x.own s a n k c z e ne gone,
    told_quiet m v j x.own s a n x.own.superior c
        (λ k h. c.reached k (ap (among k) (reach_named m j x.own a Logout z e) ∙ among_right k (slots_below (superiors m) j) (listed x.own.superior) h)),
  );
  closes = told_part x.own.superior;
  page = no_page m v j x.own s a n c (ap (λ (o : Option CallName). makes_page o (input a 0)) e);
}
