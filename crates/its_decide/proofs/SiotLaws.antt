-- The call SIOT by its name, the job into which it reaches, and what it moves.
use Rattle.std.specs.Prelude.{if◌then◌else◌, ◌≡◌, ◌==◌, ◌&&◌, ℕ, Bool, true, false, List, Option, Some, None, Result, Ok, Err, is_some, option_map, refl}
use Rattle.std.proofs.Common.{ap, sym, ◌∙◌}
use Rattle.std.proofs.lemmas.Bool.{eq-eqb}
use Rattle.its_records.specs.declared.calls.Ask.{Ask}
use Rattle.its_records.specs.declared.jobs.Channel.{Channel}
use Rattle.its_records.specs.declared.jobs.Channel.TheVariants.{Usr}
use Rattle.its_records.specs.declared.jobs.Job.{Job}
use Rattle.its_frame.specs.declared.name.CallName.{CallName}
use Rattle.its_frame.specs.declared.name.CallName.TheVariants.{Siot}
use Rattle.its_frame.specs.declared.decision.Decision.{Decision}
use Rattle.its_frame.specs.Calls.{call_named, is_siot}
use Rattle.its_plain.specs.Call.Arguments.{input}
use Rattle.its_plain.specs.Call.Device.{siot_call}
use Rattle.its_plain.specs.Call.Step.{decision}
use Rattle.its_plain.specs.Call.Decide.{argument_of, decided, decided_by, listed, reach, reached_by, target, target_by}
use Rattle.its_plain.specs.Machine.{Machine, Whole}
use Rattle.its_plain.specs.Call.Tests.{fails}
use Rattle.its_plain.specs.Machine.View.{View, view}
use Rattle.its_plain.proofs.TargetLaws.{reach_named, target_on}
use Rattle.its_shared.specs.Called.{channel_under}
use Rattle.its_shared.proofs.NumberLaws.{usr_on}
use Rattle.its_decide.specs.Seen.{machine_seen, raw_with}
use Rattle.its_decide.specs.declared.caller.Seen.{Seen}
use Rattle.its_decide.specs.Moving.{change_of, found, halted, moved_alone, moved_by, moved_on, moving, next_moved, outcome, shift_of}
use Rattle.its_decide.specs.declared.moving.Halt.{Halt}
use Rattle.its_decide.specs.declared.moving.Halt.TheVariants as halts
use Rattle.its_decide.specs.declared.moving.NextMove.{NextMove}
use Rattle.its_decide.specs.declared.moving.Shift.{Shift}
use Rattle.its_decide.specs.declared.moving.Shift.TheVariants as shifts

pub siot_target : (q : Whole) (a : Ask) (o : Option ℕ) → a.fail ≡ 0 → call_named a.name ≡ Some Siot → o ≡ reached_by q (input a 0) → o ≡ target q a
unfolding target
siot_target q a o z e is =
    is
    ∙ sym (ap (λ (b : Bool). if b then target_by q a (argument_of (call_named a.name)) else None) (eq-eqb a.fail 0 z)
    ∙ ap (λ (n : Option CallName). target_by q a (argument_of n)) e)

-- what SIOT moves is what its decision moves
shift_back : (s : Shift) → shift_of (change_of s) ≡ Some s
shift_back (shifts.Move n at) = refl
shift_back _ = refl

pub moved_moving : (m : NextMove) → Some m ≡ moved_by (moving m)
moved_moving m = sym (ap (option_map (λ (s : Shift). record { next = m.next; left = m.left; held = m.held; shift = s })) (shift_back m.shift))

unmoved : (v : View) (a : Ask) (h : Halt) → None ≡ moved_by (halted v a h)
unmoved v a (halts.Error n) = refl
unmoved v a _ = refl

pub found_moves : (v : View) (a : Ask) (r : Result NextMove Halt) → found r ≡ moved_by (outcome v a r)
found_moves v a (Ok m) = moved_moving m
found_moves v a (Err h) = unmoved v a h

-- the rule of what moves next, case by case
siot_decides : (m : Machine) (j : ℕ) (q : Whole) (a : Ask) → a.fail ≡ 0 → call_named a.name ≡ Some Siot
    → decision m j q a ≡ siot_call (view m j q (target q a)) a
unfolding decision decided
siot_decides m j q a z e =
    let v = view m j q (target q a) in
    ap (λ (b : Bool). if b then decided_by v a (call_named a.name) else fails v a a.fail) (eq-eqb a.fail 0 z) ∙ ap (decided_by v a) e

pub moved_failed : (m : Machine) (j : ℕ) (q : Whole) (a : Ask) → (a.fail == 0) ≡ false → None ≡ next_moved m j q a
unfolding next_moved
moved_failed m j q a f = sym (ap (λ (b : Bool). if b && is_siot (call_named a.name) then moved_alone (reach m j q a) (decision m j q a) else None) f)

pub moved_other : (m : Machine) (j : ℕ) (q : Whole) (a : Ask) → a.fail ≡ 0 → is_siot (call_named a.name) ≡ false → None ≡ next_moved m j q a
unfolding next_moved
moved_other m j q a z f =
    sym
    (ap (λ (b : Bool). if b && is_siot (call_named a.name) then moved_alone (reach m j q a) (decision m j q a) else None) (eq-eqb a.fail 0 z)
    ∙ ap (λ (b : Bool). if b then moved_alone (reach m j q a) (decision m j q a) else None) f)

moved_siot : (m : Machine) (j : ℕ) (q : Whole) (a : Ask) → a.fail ≡ 0 → call_named a.name ≡ Some Siot
    → moved_alone (listed (target q a)) (siot_call (view m j q (target q a)) a) ≡ next_moved m j q a
unfolding next_moved
moved_siot m j q a z e =
    sym
    (ap (λ (b : Bool). if b && is_siot (call_named a.name) then moved_alone (reach m j q a) (decision m j q a) else None) (eq-eqb a.fail 0 z)
    ∙ ap (λ (n : Option CallName). if is_siot n then moved_alone (reach m j q a) (decision m j q a) else None) e
    ∙ ap (λ (ks : List ℕ). moved_alone ks (decision m j q a)) (reach_named m j q a Siot z e)
    ∙ ap (moved_alone (listed (target q a))) (siot_decides m j q a z e))

reaching_by : (o : Option ℕ) (d : Decision) → is_some o ≡ true → None ≡ moved_alone (listed o) d
reaching_by (Some s) d t = refl
reaching_by None d t = cc

pub moved_reaching : (m : Machine) (j : ℕ) (q : Whole) (a : Ask) (o : Option ℕ) → a.fail ≡ 0 → call_named a.name ≡ Some Siot
    → o ≡ reached_by q (input a 0) → is_some o ≡ true → None ≡ next_moved m j q a
moved_reaching m j q a o z e is t =
    let d = siot_call (view m j q (target q a)) a in
    reaching_by o d t ∙ ap (λ (k : Option ℕ). moved_alone (listed k) d) (siot_target q a o z e is) ∙ moved_siot m j q a z e

-- a channel on an inferior is one through which SIOT reaches
moved_through : (x : Seen) (k : ℕ) (j : Job) (a : Ask) (o : Option ℕ) (c : Channel) (d : Decision) → a.fail ≡ 0
    → call_named a.name ≡ Some Siot → o ≡ reached_by (raw_with x k j) (input a 0) → o ≡ None
    → channel_under j (input a 0) ≡ c → moved_on c d ≡ moved_alone (listed (target (raw_with x k j) a)) d
moved_through x k j a o (Usr s write at) d z e is none on =
    sym (ap (λ (t : Option ℕ). moved_alone (listed t) d) (target_on (raw_with x k j) a Siot 0 s at write z e refl
    (usr_on x.files.now j (input a 0) s at write on)))
moved_through x k j a o c d z e is none on = ap (λ (t : Option ℕ). moved_alone (listed t) d) (sym none ∙ siot_target (raw_with x k j) a o z e is)

pub moved_next : (x : Seen) (k : ℕ) (j : Job) (a : Ask) (o : Option ℕ) (r : Option NextMove) → a.fail ≡ 0 → call_named a.name ≡ Some Siot
    → o ≡ reached_by (raw_with x k j) (input a 0) → o ≡ None
    → r ≡ moved_on (channel_under j (input a 0)) (siot_call (view (machine_seen x) k (raw_with x k j) (target (raw_with x k j) a)) a)
    → r ≡ next_moved (machine_seen x) k (raw_with x k j) a
moved_next x k j a o r z e is none h =
    let q = raw_with x k j in
    let d = siot_call (view (machine_seen x) k q (target q a)) a in
    h ∙ moved_through x k j a o (channel_under j (input a 0)) d z e is none refl ∙ moved_siot (machine_seen x) k q a z e
