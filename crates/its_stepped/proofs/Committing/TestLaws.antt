-- How calls decide: the first test that holds, and what every call shows that ends without a
-- change.
use Rattle.std.specs.Prelude.{if◌then◌else◌, ◌≡◌, ◌≢◌, ◌≤◌, ℕ, ◌+◌, Bool, true, false, Option, Some, None, IfSome, List, [], ◌∷◌, length, refl}
use Rattle.std.proofs.Common.{inl, arith}
use Rattle.its_word.specs.declared.access.Fault.{Fault}
use Rattle.its_records.specs.declared.calls.Ask.{Ask}
use Rattle.its_records.specs.declared.calls.Site.{Site}
use Rattle.its_word.specs.declared.plan.Store.{Store}
use Rattle.its_frame.specs.Left.{kept}
use Rattle.its_frame.specs.declared.change.Change.{Change}
use Rattle.its_frame.specs.declared.decision.Decision.{Decision}
use Rattle.its_frame.specs.declared.name.CallName.TheVariants.{Iot}
use Rattle.its_plain.specs.Call.Arguments.{input}
use Rattle.its_plain.specs.Call.Decide.{call_named}
use Rattle.its_plain.specs.Machine.{Whole, Machine}
use Rattle.its_plain.specs.Call.Tests.{Test, first, fails, faults, number_at, out}
use Rattle.its_plain.specs.Machine.View.{View}
use Rattle.its_stepped.specs.State.{State}
use Rattle.its_stepped.specs.Tick.{makes_page, reserves}
use Rattle.its_stepped.specs.Sound.{Stored, Paged, IsWaitable, most_owed}
use Rattle.its_stepped.specs.Quiet.{AllQuiet}
use Rattle.its_stepped.specs.Duty.{AllSpare, parts_in, Waiting_by, Ending_by, Duty}
use Rattle.its_stepped.specs.Calling.{Calling}
use Rattle.its_stepped.proofs.Frame.PageLaws.{reserves_none}
use Rattle.its_stepped.proofs.Unwinding.UnwindLaws.{most_few}

-- the first test that holds: what each stop shows if its test holds, and the rest if each test
-- fails
abbrev pub EachStops : (Decision → Type 0) → List Test → Type 0
EachStops P [] = Unit {0}
EachStops P (t ∷ ts) = (t.holds ≡ true → P t.stop) × EachStops P ts

abbrev pub Passed : List Test → Type 0
Passed [] = Unit {0}
Passed (t ∷ ts) = (t.holds ≡ false) × Passed ts

pub by_test : (P : Decision → Type 0) (b : Bool) (c d : Decision) → (b ≡ true → P c) → (b ≡ false → P d) → P (if b then c else d)
by_test P true c d h k = h refl
by_test P false c d h k = k refl

pub first_holds : (P : Decision → Type 0) (ts : List Test) (d : Decision) → EachStops P ts → (Passed ts → P d) → P (first ts d)
first_holds P [] d h k = k tt
first_holds P (t ∷ ts) d h k = by_test P t.holds t.stop (first ts d) h.0 (λ e. first_holds P ts d h.1 (λ p. k (e, p)))

-- a call that reserves no page has none
no_page_by : (a : Ask) (n : ℕ) (r : Option ℕ) → reserves a ≡ false → IfSome r (Paged a n) → r ≡ None
no_page_by a n None e h = refl
no_page_by a n (Some p) e h = let t = h.reserves in cc

pub no_page : (m : Machine) (v : State) (j : ℕ) (own : Whole) (s : Site) (a : Ask) (n : ℕ) → Calling m v j own s a n
    → makes_page (call_named a.name) (input a 0) ≡ false → v.reserved j ≡ None
no_page m v j own s a n c e = no_page_by a n (v.reserved j) (reserves_none a e) c.page

-- a call that waits
pub waits_duty : (m : Machine) (v : State) (j : ℕ) (own : Whole) (s : Site) (a : Ask) (n : ℕ) → Calling m v j own s a n
    → makes_page (call_named a.name) (input a 0) ≡ false
    → IsWaitable (call_named a.name) → Waiting_by v j a
waits_duty m v j own s a n c e w = record { page = no_page m v j own s a n c e; waitable = w }

-- a reserved page and the pending words leave room for a store and the last step
room_by : (a : Ask) (n : ℕ) (r : Option ℕ) → n ≤ most_owed a → IfSome r (Paged a n) → kept r + n ≤ 2
room_by a n None few h = let m = most_few a in omega arith
room_by a n (Some p) few h = let z = h.owes in omega arith

pub room : (m : Machine) (v : State) (j : ℕ) (own : Whole) (s : Site) (a : Ask) (n : ℕ) → Calling m v j own s a n → kept (v.reserved j) + n ≤ 2
room m v j own s a n c = room_by a n (v.reserved j) c.debts.few c.page

-- a call that ends: it changes what spares its own job, and closes nothing, and stores one word at
-- most
pub ending_duty : (m : Machine) (v : State) (j : ℕ) (own : Whole) (s : Site) (a : Ask) (n : ℕ) (cs : List Change) (ss : List Store) → Calling m v j own s a n
    → AllQuiet cs j v → AllSpare cs j v → parts_in cs ≡ 0 → Stored own.core ss → length ss ≤ 1 → Ending_by v j own n cs ss
ending_duty m v j own s a n cs ss c quiet spare parts stores few = record {
  quiet = quiet;
  stores = inl (spare, stores);
  few = let r = room m v j own s a n c in omega arith;
}

number_few : (o : Option ℕ) (w : ℕ) → length (number_at o w) ≤ 1
number_few None w = omega arith
number_few (Some p) w = omega arith

pub out_few : (ps : List ℕ) (w : ℕ) → length (out ps w) ≤ 1
out_few [] w = omega arith
out_few (p ∷ ps) w = omega arith

-- it ends with a number, with a fault, or with an output
pub fails_duty : (m : Machine) (v : State) (j : ℕ) (x : View) (s : Site) (a : Ask) (n k : ℕ) → Calling m v j x.own s a n → Duty v j x.own s a n (fails x a k)
fails_duty m v j x s a n k c = ending_duty m v j x.own s a n [] (number_at a.error k) c tt tt refl (c.fetched.error k) (number_few a.error k)

pub faults_duty : (m : Machine) (v : State) (j : ℕ) (x : View) (s : Site) (a : Ask) (n : ℕ) (f : Fault) → Calling m v j x.own s a n
    → Duty v j x.own s a n (faults x f)
faults_duty m v j x s a n f c = ending_duty m v j x.own s a n [] [] c tt tt refl tt (omega arith)

pub nothing_duty : (m : Machine) (v : State) (j : ℕ) (x : View) (s : Site) (a : Ask) (n : ℕ) → Calling m v j x.own s a n → Ending_by v j x.own n [] []
nothing_duty m v j x s a n c = ending_duty m v j x.own s a n [] [] c tt tt refl tt (omega arith)

pub output_duty : (m : Machine) (v : State) (j : ℕ) (x : View) (s : Site) (a : Ask) (n w : ℕ) → Calling m v j x.own s a n → call_named a.name ≢ Some Iot
    → Ending_by v j x.own n [] (out a.outputs.items w)
output_duty m v j x s a n w c ne = ending_duty m v j x.own s a n [] (out a.outputs.items w) c tt tt refl (c.fetched.output ne w) (out_few a.outputs.items w)
