-- The state of a judge after a letter or a line.
use Rattle.std.proofs.Common.{◌≡◌, ◌≢◌, ◌<◌, ◌≤◌, ◌+◌, ◌==◌, ◌&&◌, ℕ, zero, suc, Bool, true, false, not, ltb, if◌then◌else◌, is_none, Option, Some, None, List, length, refl, sym, ap, subst, ◌∙◌, inl, inr, arith, replicate, slice_index_or, slice_set}
use Rattle.std.proofs.lemmas.Bool.{cases_Bool, cases_eq, and_right, eq-eqb, ne_eqb, lt-ltb, false≢true}
use Rattle.std.proofs.lemmas.Bool.Decides.{nat_tests}
use Rattle.std.proofs.lemmas.List.{get_or-set_same, get_or-set_other, get_or_default}
use Rattle.std.proofs.lemmas.Option.{none-some, same_Some}
use Rattle.std.proofs.Math.ListN.{get_or-eq_default}
use Rattle.its_records.specs.declared.calls.Pace.{Pace}
use Rattle.its_records.specs.declared.calls.Pace.TheVariants.{Step, Work, Wait, Off}
use Rattle.its_plain.specs.Call.Step.{Transition, among, disturbed, disturbs_in, step, transition, is_made, makes, makes_in}
use Rattle.its_plain.proofs.StepLaws.{step_by}
use Rattle.its_plain.specs.Transcript.Licence.{Dots, dots_after, dots_after_line, most_dots}
use Rattle.its_plain.specs.Machine.{Machine}
use Rattle.its_plain.specs.Operator.{Block}
use Rattle.its_plain.specs.Transcript.{Walk, walk_after, next_line}
use Rattle.its_plain.specs.Transcript.Turns.{is_running}
use Rattle.its_direct.specs.Plain.{machine_of, is_touched}
use Rattle.its_direct.specs.Events.{Kept}
use Rattle.its_direct.specs.Steps.{Makes, touches}
use Rattle.its_direct.specs.declared.plain.Plain.{Plain}
use Rattle.its_verify.specs.Letters.{if_so, led_to}
use Rattle.its_verify.specs.JudgeState.{Again, dots_of, walk_of, Sure, Forgets, ForgetsBelow, Led, LedIf, forgotten}
use Rattle.its_verify.specs.declared.judge.Judge.{Judge}

pub same_dots : (f g : Dots) → ((k : ℕ) → f k ≡ g k) → f ≡ g
same_dots f g h = λ t. λ k. h k t

abbrev no_dot : Dots
no_dot k = 0

-- the start
copies : (n k : ℕ) → dots_of (replicate n 0) k ≡ no_dot k
copies zero k = refl
copies (suc n) zero = refl
copies (suc n) (suc k) = copies n k

pub no_dots : (ds : List ℕ) → ds ≡ replicate 96 0 → dots_of ds ≡ (λ k. 0)
no_dots ds is = same_dots (dots_of ds) no_dot (λ k. ap (λ (xs : List ℕ). dots_of xs k) is ∙ copies 96 k)

pub sure_is : (new : Judge) (mid : Plain) → Kept mid → new.plain ≡ mid → Sure new
sure_is new mid kept p = record { kept = subst Kept (sym p) kept }

pub sure_still : (old new : Judge) → new.plain ≡ old.plain → Sure old → Sure new
sure_still old new p sure = record { kept = subst Kept (sym p) sure.kept }

-- slots that are touched, one by one
pub forget_start : (p : Plain) (ds : List ℕ) → ForgetsBelow 0 p ds ds
forget_start p ds k =
    let none : ltb k 0 ≡ false = grind (arith, nat_tests) in
    rw none refl

below_more : (k n : ℕ) → k ≢ n → ltb k (n + 1) ≡ ltb k n
below_more k n ne = grind (arith, nat_tests)

past_own : (n : ℕ) → ltb n n ≡ false
past_own n = grind (arith, nat_tests)

below_own : (n : ℕ) → ltb n (n + 1) ≡ true
below_own n = grind (arith, nat_tests)

pub forget_one : (p : Plain) (old ds : List ℕ) (n d e : ℕ) (b : Bool) → b ≡ slice_index_or p.touched n b → d ≡ slice_index_or ds n d
    → e ≡ forgotten b d → n < length p.touched → n < length ds
    → ForgetsBelow n p old ds → ForgetsBelow (n + 1) p old (slice_set ds n e)
forget_one p old ds n d e b at place is within room h k =
    elim (cases_eq k n) [
      | inl same ↦
          (let mark : is_touched p n ≡ b = get_or_default p.touched n false b within ∙ sym at in
          let so : dots_of ds n ≡ forgotten (ltb n n && is_touched p n) (dots_of old n) = h n in
          let was : d ≡ dots_of old n = place ∙ sym (get_or_default ds n 0 d room) ∙ so ∙ rw (past_own n) refl in
          rw same (rw (below_own n, mark) (get_or-set_same ds n e 0 room ∙ is ∙ ap (forgotten b) was)))
      | inr ne ↦ get_or-set_other ds n k e 0 ne ∙ h k ∙ ap (λ (c : Bool). forgotten (c && is_touched p k) (dots_of old k)) (sym (below_more k n ne))
    ]

pub forget_end : (p q : Plain) (old ds : List ℕ) (n : ℕ) → length p.touched ≤ n → q ≡ p → ForgetsBelow n q old ds → Forgets p old ds
forget_end p q old ds n all is h k =
    elim (cases_Bool (ltb k n)) [
      | inl below ↦ (let so : dots_of ds k ≡ forgotten (ltb k n && is_touched p k) (dots_of old k) = subst
          (λ (r : Plain). ForgetsBelow n r old ds) is h k in rw below at so)
      | inr past ↦
          (let so : dots_of ds k ≡ forgotten (ltb k n && is_touched p k) (dots_of old k) = subst (λ (r : Plain). ForgetsBelow n r old ds) is h k in
          let far : n ≤ k = grind (arith, nat_tests) in
          let none : is_touched p k ≡ false = get_or-eq_default p.touched false (omega (arith, far)) in
          rw past at so ∙ rw none refl)
    ]

-- `*`
pub step_is : (m : Machine) (i : ℕ) (t : Transition) → transition m i ≡ Some t → step m i ≡ Some t.machine
step_is m i t is = step_by m i (Some t) is

pub disturbed_is : (m : Machine) (i k : ℕ) (t : Transition) → transition m i ≡ Some t → disturbed m i k ≡ among k t.disturbs
unfolding disturbed
disturbed_is m i k t is = ap (λ (o : Option Transition). among k (disturbs_in o)) is

pub makes_is : (m : Machine) (i k : ℕ) (t : Transition) → transition m i ≡ Some t → makes m i k ≡ is_made m t.machine k
unfolding makes
makes_is m i k t is = ap (makes_in m k) is

forgets_nothing : (b : Bool) (d : ℕ) → d ≡ 0 → forgotten b d ≡ d
forgets_nothing true d is = sym is
forgets_nothing false d is = refl

other_dot : (b : Bool) (d : ℕ) → forgotten b d ≡ (if b then 0 else d)
other_dot true d = refl
other_dot false d = refl

after_step : (old : Judge) (mid : Plain) (i k : ℕ) (t : Transition) (ds : List ℕ) → i < length old.dots → transition (machine_of old.plain) i ≡ Some t
    → is_touched mid k ≡ touches (machine_of old.plain) t k → dots_of ds k ≡ forgotten (is_touched mid k) (dots_of (slice_set old.dots i 0) k)
    → dots_of ds k ≡ dots_after (machine_of old.plain) (dots_of old.dots) i Step k
after_step old mid i k t ds room is marks h =
    elim (cases_eq k i) [
      | inl own ↦
          (let here : dots_of (slice_set old.dots i 0) k ≡ 0 = rw own (get_or-set_same old.dots i 0 0 room) in
          let test : (k == i) ≡ true = eq-eqb k i own in
          h ∙ forgets_nothing (is_touched mid k) (dots_of (slice_set old.dots i 0) k) here ∙ here ∙ sym (rw test refl))
      | inr ne ↦
          (let there : dots_of (slice_set old.dots i 0) k ≡ dots_of old.dots k = get_or-set_other old.dots i k 0 0 ne in
          let test : (k == i) ≡ false = ne_eqb k i ne in
          h ∙ ap (forgotten (is_touched mid k)) there ∙ ap (λ (b : Bool). forgotten b (dots_of old.dots k)) marks
          ∙ other_dot (touches (machine_of old.plain) t k) (dots_of old.dots k)
          ∙ sym (rw (test, disturbed_is (machine_of old.plain) i k t is, makes_is (machine_of old.plain) i k t is) refl))
    ]

pub step_led : (b : Bool) (old new : Judge) (mid : Plain) (i : ℕ) → b ≡ true → Makes b (transition (machine_of old.plain) i) old.plain mid → new.plain ≡ mid
    → Forgets mid (slice_set old.dots i 0) new.dots → i < length old.dots → Led old new i Step
step_led false old new mid i is makes p f room = absurd (false≢true is)
step_led true old new mid i is makes p f room =
    let t = makes.transition in
    let to : Some t.machine ≡ Some (machine_of new.plain) = ap Some (sym makes.steps.machine ∙ ap machine_of (sym p)) in
    record {
      leads = λ b n. step_is (machine_of old.plain) i t makes.is ∙ to;
      dots = same_dots (dots_of new.dots) (dots_after (machine_of old.plain) (dots_of old.dots) i Step)
          (λ k. after_step old mid i k t new.dots room makes.is (makes.steps.touched k) (f k));
      place = ap (λ (q : Plain). q.place) p ∙ makes.steps.place;
    }

pub step_not_led : (b : Bool) (old : Judge) (mid : Plain) (i : ℕ) → b ≡ false → Makes b (transition (machine_of old.plain) i) old.plain mid
    → (c : Block) (n : ℕ) → led_to (walk_of old c n) i Step ≡ None
step_not_led true old mid i is makes c n = absurd (false≢true (sym is))
step_not_led false old mid i is makes c n = step_by (machine_of old.plain) i None makes.0

pub makes_place : (b : Bool) (o : Option Transition) (old new : Plain) → Makes b o old new → new.place ≡ old.place
makes_place true o old new makes = makes.steps.place
makes_place false o old new makes = ap (λ (q : Plain). q.place) makes.1

-- `.`
pub dot_led : (old new : Judge) (i d : ℕ) → d ≡ slice_index_or old.dots i d → is_running ((machine_of old.plain).jobs i) ≡ true → d < 16 → i < length old.dots
    → new.plain ≡ old.plain → new.dots ≡ slice_set old.dots i (d + 1) → Led old new i Work
dot_led old new i d at run few room p is =
    let count : dots_of old.dots i ≡ d = get_or_default old.dots i 0 d room ∙ sym at in
    record {
      leads = λ b n. (let less : ltb (dots_of old.dots i) most_dots ≡ true = lt-ltb (dots_of old.dots i) most_dots (omega (arith, count, few)) in
          rw (run, less) (ap (λ (q : Plain). Some (machine_of q)) (sym p)));
      dots = same_dots (dots_of new.dots) (dots_after (machine_of old.plain) (dots_of old.dots) i Work) (λ k.
          ap (λ (xs : List ℕ). dots_of xs k) is
          ∙ elim (cases_eq k i) [
            | inl own ↦
                (let test : (k == i) ≡ true = eq-eqb k i own in
                let here : dots_of (slice_set old.dots i (d + 1)) k ≡ d + 1 = rw own (get_or-set_same old.dots i (d + 1) 0 room) in
                let was : dots_of old.dots k ≡ d = rw own count in
                here ∙ ap (λ (m : ℕ). m + 1) (sym was) ∙ sym (rw test refl))
            | inr ne ↦
                (let test : (k == i) ≡ false = ne_eqb k i ne in
                get_or-set_other old.dots i k (d + 1) 0 ne ∙ sym (rw test refl))
          ]);
      place = ap (λ (q : Plain). q.place) p;
    }

pub dot_still : (old : Judge) (i : ℕ) → is_running ((machine_of old.plain).jobs i) ≡ false → (b : Block) (n : ℕ) → led_to (walk_of old b n) i Work ≡ None
dot_still old i off b n = rw off refl

pub dot_not_led : (old : Judge) (i d : ℕ) → d ≡ slice_index_or old.dots i d → 16 ≤ d → i < length old.dots → (b : Block) (n : ℕ)
    → led_to (walk_of old b n) i Work ≡ None
dot_not_led old i d at many room b n =
    let count : dots_of old.dots i ≡ d = get_or_default old.dots i 0 d room ∙ sym at in
    let far : ltb (dots_of old.dots i) most_dots ≡ false = grind (arith, nat_tests, count, many) in
    rw (far, and_right (is_running ((machine_of old.plain).jobs i)) false refl) refl

-- `w` and `-`
stays : (old new : Judge) (i : ℕ) (p : Pace) → new.plain ≡ old.plain → new.dots ≡ old.dots
    → ((b : Block) (n : ℕ) → led_to (walk_of old b n) i p ≡ Some (machine_of old.plain))
    → ((k : ℕ) → dots_after (machine_of old.plain) (dots_of old.dots) i p k ≡ dots_of old.dots k) → Led old new i p
stays old new i p is ds leads same = record {
  leads = λ b n. leads b n ∙ ap (λ (q : Plain). Some (machine_of q)) (sym is);
  dots = same_dots (dots_of new.dots) (dots_after (machine_of old.plain) (dots_of old.dots) i p) (λ k. ap (λ (xs : List ℕ). dots_of xs k) ds ∙ sym (same k));
  place = ap (λ (q : Plain). q.place) is;
}

pub wait_led : (b : Bool) (old new : Judge) (i : ℕ) → b ≡ false → is_running ((machine_of old.plain).jobs i) ≡ true
    → Makes b (transition (machine_of old.plain) i) old.plain new.plain
    → new.dots ≡ old.dots → Led old new i Wait
wait_led true old new i is run makes ds = absurd (false≢true (sym is))
wait_led false old new i is run makes ds =
    let none : step (machine_of old.plain) i ≡ None = step_by (machine_of old.plain) i None makes.0 in
    stays old new i Wait makes.1 ds (λ b n. rw (run, none) refl) (λ k. refl)

pub wait_not_led : (b : Bool) (old : Judge) (mid : Plain) (i : ℕ) → b ≡ true → Makes b (transition (machine_of old.plain) i) old.plain mid
    → (c : Block) (n : ℕ) → led_to (walk_of old c n) i Wait ≡ None
wait_not_led false old mid i is makes c n = absurd (false≢true is)
wait_not_led true old mid i is makes c n =
    let some : step (machine_of old.plain) i ≡ Some makes.transition.machine = step_is (machine_of old.plain) i makes.transition makes.is in
    rw (some, and_right (is_running ((machine_of old.plain).jobs i)) false refl) refl

pub waited : (b : Bool) (old new : Judge) (i : ℕ) → is_running ((machine_of old.plain).jobs i) ≡ true
    → Makes b (transition (machine_of old.plain) i) old.plain new.plain → new.dots ≡ old.dots
    → LedIf (not b) old new i Wait
waited true old new i run makes ds = wait_not_led true old new.plain i refl makes
waited false old new i run makes ds = wait_led false old new i refl run makes ds

pub wait_still : (old : Judge) (i : ℕ) → is_running ((machine_of old.plain).jobs i) ≡ false → (b : Block) (n : ℕ) → led_to (walk_of old b n) i Wait ≡ None
wait_still old i off b n = rw off refl

pub off_led : (b : Bool) (old : Judge) (i : ℕ) → is_running ((machine_of old.plain).jobs i) ≡ b → LedIf (not b) old old i Off
off_led true old i is = λ c n. rw is refl
off_led false old i is = stays old old i Off refl refl (λ b n. rw is refl) (λ k. refl)

-- the state of the walk after a line
by_touch : (touched marked : Bool) (d : ℕ) → touched ≡ marked → forgotten touched d ≡ (if marked then 0 else d)
by_touch touched true d is = rw is refl
by_touch touched false d is = rw is refl

pub line_walk : (old new : Judge) (b after : Block) (n : ℕ) (m : Machine) (disturbs : ℕ → Bool) → machine_of new.plain ≡ m
    → ((k : ℕ) → is_touched new.plain k ≡ disturbs k)
    → Forgets new.plain old.dots new.dots → next_line (walk_after (walk_of old b n) m disturbs after) ≡ walk_of new after (n + 1)
line_walk old new b after n m disturbs is marks f =
    let dots : dots_after_line (dots_of old.dots) disturbs ≡ dots_of new.dots =
    same_dots (dots_after_line (dots_of old.dots) disturbs) (dots_of new.dots)
    (λ k. sym (f k ∙ by_touch (is_touched new.plain k) (disturbs k) (dots_of old.dots k) (marks k))) in
    ap (λ (x : Machine). after_with x (dots_after_line (dots_of old.dots) disturbs)) (sym is) ∙ ap (after_with (machine_of new.plain)) dots
  where
    after_with : Machine → Dots → Walk
    after_with x d = record { machine = x; dots = d; block = after; line = n + 1 }

-- if nothing changed but whether it ended
pub led_beside : (b : Bool) (old mid new : Judge) (i : ℕ) (p : Pace) → new.plain ≡ mid.plain → new.dots ≡ mid.dots → LedIf b old mid i p → LedIf b old new i p
led_beside false old mid new i p plain ds led = led
led_beside true old mid new i p plain ds led = record {
  leads = λ c n. led.leads c n ∙ ap (λ (x : Plain). Some (machine_of x)) (sym plain);
  dots = ap dots_of ds ∙ led.dots;
  place = ap (λ (x : Plain). x.place) plain ∙ led.place;
}

-- a letter that changed nothing is licensed again
kept_if : (c : Bool) (m n : Machine) → if_so c m ≡ Some n → m ≡ n
kept_if true m n is = same_Some m n is
kept_if false m n is = absurd (none-some n is)

still_waits : (old mid : Judge) (i : ℕ) → Led old mid i Wait → Led mid mid i Wait
still_waits old mid i led = record {
  leads = λ b n.
      (let same : machine_of old.plain ≡ machine_of mid.plain =
      kept_if (is_running ((machine_of old.plain).jobs i) && is_none (step (machine_of old.plain) i)) (machine_of old.plain)
      (machine_of mid.plain) (led.leads b n) in
      subst (λ (m : Machine). if_so (is_running (m.jobs i) && is_none (step m i)) m ≡ Some (machine_of mid.plain)) same (led.leads b n));
  dots = same_dots (dots_of mid.dots) (dots_after (machine_of mid.plain) (dots_of mid.dots) i Wait) (λ k. refl);
  place = refl;
}

still_off : (old mid : Judge) (i : ℕ) → Led old mid i Off → Led mid mid i Off
still_off old mid i led = record {
  leads = λ b n.
      (let same : machine_of old.plain ≡ machine_of mid.plain =
      kept_if (not (is_running ((machine_of old.plain).jobs i))) (machine_of old.plain) (machine_of mid.plain) (led.leads b n) in
      subst (λ (m : Machine). if_so (not (is_running (m.jobs i))) m ≡ Some (machine_of mid.plain)) same (led.leads b n));
  dots = same_dots (dots_of mid.dots) (dots_after (machine_of mid.plain) (dots_of mid.dots) i Off) (λ k. refl);
  place = refl;
}

pub again : (old mid : Judge) (i : ℕ) (p : Pace) (licensed : Bool) → licensed ≡ true → LedIf licensed old mid i p → Again p mid i
again old mid i Step licensed is led = tt
again old mid i Work licensed is led = tt
again old mid i Wait true is led = still_waits old mid i led
again old mid i Wait false is led = absurd (false≢true is)
again old mid i Off true is led = still_off old mid i led
again old mid i Off false is led = absurd (false≢true is)
