-- A part of SIOT is the decision of its call, which reaches no other job; and each such decision is
-- a part.
use Rattle.std.specs.Prelude.{if◌then◌else◌, ◌==◌, ◌≡◌, ◌&&◌, ℕ, Bool, true, false, List, Option, Some, None, Result, Ok, Err, IfSome, [], option_map, refl}
use Rattle.std.proofs.Common.{sym, ◌∙◌, ap}
use Rattle.std.proofs.lemmas.Bool.{eq-eqb}
use Rattle.its_records.specs.declared.calls.Ask.{Ask}
use Rattle.its_records.specs.declared.jobs.Channel.{Channel}
use Rattle.its_records.specs.declared.jobs.Channel.TheVariants.{Usr}
use Rattle.its_records.specs.declared.jobs.Job.{Job}
use Rattle.its_files.specs.Files.{Store}
use Rattle.its_files.specs.declared.entry.Mark.{Mark}
use Rattle.its_frame.specs.Calls.{call_named, is_siot}
use Rattle.its_frame.specs.declared.decision.Decision.{Decision}
use Rattle.its_frame.specs.declared.name.CallName.{CallName}
use Rattle.its_frame.specs.declared.name.CallName.TheVariants.{Siot}
use Rattle.its_jobs.specs.Table.{job_at}
use Rattle.its_shared.specs.Called.{channel_under}
use Rattle.its_shared.specs.Parts.{chan_of}
use Rattle.its_shared.proofs.NumberLaws.{under, usr_on}
use Rattle.its_plain.specs.Call.Arguments.{input}
use Rattle.its_plain.specs.Call.Basic.{channel_at, is_oneself}
use Rattle.its_plain.specs.Call.Device.{siot_call}
use Rattle.its_plain.specs.Call.Step.{decision}
use Rattle.its_plain.specs.Call.Decide.{argument_of, decided, decided_by, inferior_on, listed, reach, target, target_by}
use Rattle.its_plain.specs.Machine.{Machine, Whole}
use Rattle.its_plain.specs.Call.Tests.{fails}
use Rattle.its_plain.specs.Machine.View.{View, view}
use Rattle.its_plain.proofs.TargetLaws.{reach_named, target_on}
use Rattle.its_world.specs.World.{raw_at, state_of}
use Rattle.its_world.specs.declared.world.World.{World}
use Rattle.call_basic.specs.Parts.{change_of, going, part_in, part_of, stop_of}
use Rattle.call_basic.specs.Seen.{raw_with, seen_by}
use Rattle.call_basic.specs.declared.transfer.Moved.{Moved}
use Rattle.call_basic.specs.declared.transfer.Moved.TheVariants as moved
use Rattle.call_basic.specs.declared.transfer.NextByte.{NextByte}
use Rattle.call_basic.specs.declared.transfer.Stop.{Stop}
use Rattle.call_basic.specs.declared.transfer.Stop.TheVariants as stops
use Rattle.call_basic.proofs.RawLaws.{raw_here}
use Rattle.call_core.specs.Parts.{asks_siot, going_alone, is_usr, moved_of, next_part, part_by}
use Rattle.call_core.proofs.RawLaws.{decision_here}

siot_decided : (v : View) (a : Ask) → a.fail ≡ 0 → call_named a.name ≡ Some Siot → decided v a ≡ siot_call v a
unfolding decided
siot_decided v a z e = ap (λ (b : Bool). if b then decided_by v a (call_named a.name) else fails v a a.fail) (eq-eqb a.fail 0 z) ∙ ap (decided_by v a) e

-- what holds of a part that is there
of_part : (r : Option NextByte) (P Q : NextByte → Type 0) → ((p : NextByte) → P p → Q p) → IfSome r P → IfSome r Q
of_part (Some p) P Q f h = f p h
of_part None P Q f h = tt

pub each_part : {X : Type 0} (r : Option NextByte) → X → IfSome r (λ p. X)
each_part (Some p) x = x
each_part None x = tt

pub part_goes : (w : World) (s : ℕ) (j : Job) (a : Ask) (r : Option NextByte) → job_at w.jobs s ≡ Some j → a.fail ≡ 0 → call_named a.name ≡ Some Siot
    → IfSome r (λ p. going p ≡ siot_call (seen_by w s j a) a)
    → IfSome r (λ p. IfSome (raw_at w.files w.core w.jobs w.alarms.items s) (λ q. going p ≡ decision (state_of w).raw s q a))
part_goes w s j a r h z e g =
    of_part r (λ p. going p ≡ siot_call (seen_by w s j a) a)
    (λ p. IfSome (raw_at w.files w.core w.jobs w.alarms.items s) (λ q. going p ≡ decision (state_of w).raw s q a))
    (λ p t. decision_here w s j a (going p) h (t ∙ sym (siot_decided (seen_by w s j a) a z e))) g

-- a channel that is on no inferior reaches nobody
inferior_by : (s : Store) (c : Channel) → is_usr c ≡ false → inferior_on (chan_of s c) ≡ None
inferior_by s (Usr k b at) h = cc
inferior_by s _ h = refl

either_none : (b : Bool) (o : Option ℕ) → o ≡ None → (if b then None else o) ≡ None
either_none true o e = refl
either_none false o e = e

untargeted : (q : Whole) (a : Ask) → a.fail ≡ 0 → call_named a.name ≡ Some Siot → inferior_on (channel_at q.channels (input a 0)) ≡ None → target q a ≡ None
unfolding target
untargeted q a z e h =
    ap (λ (b : Bool). if b then target_by q a (argument_of (call_named a.name)) else None) (eq-eqb a.fail 0 z)
    ∙ ap (λ (o : Option CallName). target_by q a (argument_of o)) e
    ∙ either_none (is_oneself (input a 0)) (inferior_on (channel_at q.channels (input a 0))) h

alone : (m : Machine) (j : ℕ) (q : Whole) (a : Ask) → a.fail ≡ 0 → call_named a.name ≡ Some Siot
    → inferior_on (channel_at q.channels (input a 0)) ≡ None → reach m j q a ≡ []
alone m j q a z e h = reach_named m j q a Siot z e ∙ ap listed (untargeted q a z e h)

pub part_alone : (w : World) (s : ℕ) (j : Job) (a : Ask) (r : Option NextByte) → job_at w.jobs s ≡ Some j → a.fail ≡ 0 → call_named a.name ≡ Some Siot
    → IfSome r (λ p. is_usr (channel_under j (input a 0)) ≡ false)
    → IfSome r (λ p. IfSome (raw_at w.files w.core w.jobs w.alarms.items s) (λ q. reach (state_of w).raw s q a ≡ []))
part_alone w s j a r h z e g =
    of_part r (λ p. is_usr (channel_under j (input a 0)) ≡ false)
    (λ p. IfSome (raw_at w.files w.core w.jobs w.alarms.items s) (λ q. reach (state_of w).raw s q a ≡ []))
    (λ p t. raw_here (λ q. reach (state_of w).raw s q a ≡ []) w s j h
    (alone (state_of w).raw s (raw_with w s j) a z e
    (ap inferior_on (sym (under w.files j (input a 0))) ∙ inferior_by w.files (channel_under j (input a 0)) t))) g

-- the part that is done is that of the decision
moved_back : (x : Moved) → moved_of (change_of x) ≡ Some x
moved_back (moved.Move n at) = refl
moved_back _ = refl

part_going : (p : NextByte) → Some p ≡ part_by (going p)
part_going p = sym (ap (option_map (λ (x : Moved). record { moved = x; held = p.held; next = p.next; left = p.left })) (moved_back p.moved))

unparted : (j : Job) (a : Ask) (s : Stop) → None ≡ part_by (stop_of j a s)
unparted j a (stops.Fails n) = refl
unparted j a _ = refl

pub part_found : (j : Job) (a : Ask) (r : Result NextByte Stop) → part_in r ≡ part_by (part_of j a r)
part_found j a (Ok p) = part_going p
part_found j a (Err s) = unparted j a s

-- the rule of the part that is done next, case by case
pub part_other : (o : Option Whole) (k : Option Mark) (m : Machine) (j : ℕ) (a : Ask) → asks_siot a ≡ false → IfSome o (λ q. None ≡ next_part k m j q a)
unfolding next_part
part_other None k m j a f = tt
part_other (Some q) (Some x) m j a f = refl
part_other (Some q) None m j a f = sym (ap (λ (b : Bool). if b then going_alone (reach m j q a) (decision m j q a) else None) f)

pub part_marked : (o : Option Whole) (k : Option Mark) (n : ℕ) (m : Machine) (j : ℕ) (a : Ask)
    → option_map (λ (x : Mark). x.owner) k ≡ Some n → IfSome o (λ q. None ≡ next_part k m j q a)
unfolding next_part
part_marked None k n m j a h = tt
part_marked (Some q) (Some x) n m j a h = refl
part_marked (Some q) None n m j a h = cc

part_siot : (m : Machine) (j : ℕ) (q : Whole) (a : Ask) → a.fail ≡ 0 → call_named a.name ≡ Some Siot
    → going_alone (listed (target q a)) (siot_call (view m j q (target q a)) a) ≡ next_part None m j q a
unfolding next_part decision
part_siot m j q a z e =
    sym
    (ap (λ (b : Bool). if b && is_siot (call_named a.name) then going_alone (reach m j q a) (decision m j q a) else None) (eq-eqb a.fail 0 z)
    ∙ ap (λ (n : Option CallName). if is_siot n then going_alone (reach m j q a) (decision m j q a) else None) e
    ∙ ap (λ (ks : List ℕ). going_alone ks (decision m j q a)) (reach_named m j q a Siot z e)
    ∙ ap (going_alone (listed (target q a))) (siot_decided (view m j q (target q a)) a z e))

part_on : (w : World) (s : ℕ) (j : Job) (a : Ask) (c : Channel) (d : Decision) → a.fail ≡ 0 → call_named a.name ≡ Some Siot → channel_under j (input a 0) ≡ c
    → (if is_usr c then None else part_by d) ≡ going_alone (listed (target (raw_with w s j) a)) d
part_on w s j a (Usr k b at) d z e is =
    sym (ap (λ (o : Option ℕ). going_alone (listed o) d) (target_on (raw_with w s j) a Siot 0 k at b z e refl (usr_on w.files j (input a 0) k at b is)))
part_on w s j a c d z e is =
    sym
    (ap (λ (o : Option ℕ). going_alone (listed o) d)
    (untargeted (raw_with w s j) a z e (ap inferior_on (sym (under w.files j (input a 0)) ∙ ap (chan_of w.files) is) ∙ inferior_by w.files c refl)))

pub part_next : (w : World) (s : ℕ) (j : Job) (a : Ask) (r : Option NextByte) → job_at w.jobs s ≡ Some j → a.fail ≡ 0
    → call_named a.name ≡ Some Siot → w.files.mark ≡ None
    → r ≡ (if is_usr (channel_under j (input a 0)) then None else part_by (siot_call (seen_by w s j a) a))
    → IfSome (raw_at w.files w.core w.jobs w.alarms.items s) (λ q. r ≡ next_part w.files.mark (state_of w).raw s q a)
part_next w s j a r h z e unmarked is =
    let q = raw_with w s j in
    raw_here (λ x. r ≡ next_part w.files.mark (state_of w).raw s x a) w s j h
    (is
    ∙ part_on w s j a (channel_under j (input a 0)) (siot_call (seen_by w s j a) a) z e refl
    ∙ part_siot (state_of w).raw s q a z e
    ∙ ap (λ (k : Option Mark). next_part k (state_of w).raw s q a) (sym unmarked))
