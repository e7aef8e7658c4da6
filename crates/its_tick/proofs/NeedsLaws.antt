-- What a call needs before it is tried, by its name: whom it reaches, and whether it is one on
-- files.
use Rattle.std.specs.Prelude.{if◌then◌else◌, ◌≡◌, ◌==◌, ◌<◌, ℕ, Bool, true, false, Option, Some, None, IfSome, is_some, List, [], ◌∷◌, ◌++◌, refl}
use Rattle.std.proofs.Common.{sym, ◌∙◌, ap}
use Rattle.its_word.specs.Limits.{slots}
use Rattle.its_word.specs.Core.{Core}
use Rattle.its_records.specs.Tree.{slots_below}
use Rattle.its_records.specs.declared.calls.Ask.{Ask}
use Rattle.its_records.specs.declared.jobs.Job.{Job}
use Rattle.its_core.specs.Cores.{Cores, core_at}
use Rattle.its_files.specs.Files.{Store}
use Rattle.its_jobs.specs.Table.{Table, job_at, superior_at}
use Rattle.its_frame.specs.declared.name.CallName.{CallName}
use Rattle.its_frame.specs.declared.name.CallName.TheVariants.{Logout, Uclose}
use Rattle.its_frame.specs.declared.name.OnFiles.TheVariants.{Never}
use Rattle.its_plain.specs.Machine.Change.{superiors}
use Rattle.its_plain.specs.Call.Decide.{call_row, call_named, listed, with_below, target_by, argument_of, target, reach_by, reach}
use Rattle.its_plain.specs.Machine.{Whole, Machine}
use Rattle.its_stepped.specs.Forest.{Forest}
use Rattle.its_stepped.specs.Tick.{helps, helps_by, is_on_files}
use Rattle.its_stepped.proofs.Keeping.ForestLaws.{job_few, inferior_stands}
use Rattle.its_stepped.proofs.Committing.TargetLaws.{target_inferior}
use Rattle.its_world.specs.World.{state_of, alarm_at, raw_of, raw_at}
use Rattle.its_world.specs.declared.world.World.{World}
use Rattle.its_world.proofs.StorageLaws.{raw_has}
use Rattle.its_tick.specs.Ticks.{call_asked, closes_job, logs_out}
use Rattle.its_tick.proofs.ReachLaws.{raw_is}

-- each is found by the call that is asked for
target_if : (b : Bool) (q : Whole) (a : Ask) → (if b then target_by q a (argument_of (call_named a.name)) else None) ≡ target_by q a
    (argument_of (if b then call_named a.name else None))
target_if true q a = refl
target_if false q a = refl

target_asked : (q : Whole) (a : Ask) → target q a ≡ target_by q a (argument_of (call_asked a))
unfolding target
target_asked q a = target_if (a.fail == 0) q a

reach_if : (b : Bool) (m : Machine) (j : ℕ) (q : Whole) (a : Ask) → target q a ≡ target_by q a (argument_of (if b then call_named a.name else None))
    → (if b then reach_by m j q a (call_named a.name) else []) ≡ reach_by m j q a (if b then call_named a.name else None)
reach_if true m j q a e = refl
reach_if false m j q a e = sym (ap listed e)

reach_asked : (m : Machine) (j : ℕ) (q : Whole) (a : Ask) → reach m j q a ≡ reach_by m j q a (call_asked a)
unfolding reach
reach_asked m j q a = reach_if (a.fail == 0) m j q a (target_asked q a)

helps_if : (b : Bool) (q : Whole) (a : Ask) → (if b then helps_by q a (call_named a.name) else false) ≡ helps_by q a (if b then call_named a.name else None)
helps_if true q a = refl
helps_if false q a = refl

helps_asked : (q : Whole) (a : Ask) → helps q a ≡ helps_by q a (call_asked a)
unfolding helps
helps_asked q a = helps_if (a.fail == 0) q a

all_of : (p : Option Whole) (P : Whole → Type 0) → ((q : Whole) → P q) → IfSome p P
all_of (Some q) P h = h q
all_of None P h = tt

-- no call
pub none_reached : (p : Option Whole) (m : Machine) (j : ℕ) (a : Ask) (o : Option CallName) → o ≡ call_asked a → o ≡ None → IfSome p (λ q. [] ≡ reach m j q a)
none_reached p m j a o e none = all_of p (λ q. [] ≡ reach m j q a)
    (λ q. sym (reach_asked m j q a ∙ ap (reach_by m j q a) (sym e ∙ none)
    ∙ ap listed (target_asked q a ∙ ap (λ (c : Option CallName). target_by q a (argument_of c)) (sym e ∙ none))))

pub none_helped : (p : Option Whole) (a : Ask) (o : Option CallName) → o ≡ call_asked a → o ≡ None → IfSome p (λ q. false ≡ helps q a)
none_helped p a o e none = all_of p (λ q. false ≡ helps q a) (λ q. sym (helps_asked q a ∙ ap (helps_by q a) (sym e ∙ none)))

-- a call that its name says is never one on files
pub never_helped : (p : Option Whole) (a : Ask) (n : CallName) → call_asked a ≡ Some n → (call_row n).files ≡ Never → IfSome p (λ q. false ≡ helps q a)
never_helped p a n e never = all_of p (λ q. false ≡ helps q a) (λ q. sym (helps_asked q a ∙ ap (helps_by q a) e ∙ ap (is_on_files q a) never))

-- whom a call reaches: by whether it is LOGOUT, and whether it is UCLOSE
abbrev reach_to : Machine → Bool → Option ℕ → List ℕ
reach_to m true o = with_below m o
reach_to m false o = listed o

reach_to_none : (m : Machine) (b : Bool) → reach_to m b None ≡ []
reach_to_none m true = refl
reach_to_none m false = refl

named_reach : (m : Machine) (j : ℕ) (q : Whole) (a : Ask) (n : CallName)
    → reach_by m j q a (Some n) ≡ (if logs_out n then slots_below (superiors m) j ++ listed q.superior else reach_to m (closes_job n) (target q a))
named_reach m j q a Logout = refl
named_reach m j q a Uclose = refl
named_reach m j q a _ = refl

reach_is : (m : Machine) (j : ℕ) (q : Whole) (a : Ask) (n : CallName) (b : Bool) → call_asked a ≡ Some n → logs_out n ≡ b
    → reach m j q a ≡ (if b then slots_below (superiors m) j ++ listed q.superior else reach_to m (closes_job n) (target q a))
reach_is m j q a n b e i =
    reach_asked m j q a ∙ ap (reach_by m j q a) e ∙ named_reach m j q a n
    ∙ ap (λ (b : Bool). if b then slots_below (superiors m) j ++ listed q.superior else reach_to m (closes_job n) (target q a)) i

tree_of : (s : Store) (c : Core) (o : Option ℕ) (l : Option (ℕ × ℕ)) (i : Option Job) (m : Machine) (j : ℕ) (a : Ask) (n : CallName)
    → call_asked a ≡ Some n → logs_out n ≡ true
    → IfSome (raw_of s c o l i) (λ q. slots_below (superiors m) j ++ listed o ≡ reach m j q a)
tree_of s c o l (Some i) m j a n e is = sym (reach_is m j _ a n true e is)
tree_of s c o l None m j a n e is = tt

pub tree_reached : (s : Store) (c : Cores) (t : Table) (ls : List (Option (ℕ × ℕ))) (m : Machine) (j : ℕ) (a : Ask) (n : CallName)
    (b : Bool) → call_asked a ≡ Some n → b ≡ logs_out n → b ≡ true
    → IfSome (raw_at s c t ls j) (λ q. slots_below (superiors m) j ++ listed (superior_at t j) ≡ reach m j q a)
tree_reached s c t ls m j a n b e i is = tree_of s (core_at c j) (superior_at t j) (alarm_at ls j) (job_at t j) m j a n e (sym i ∙ is)

-- one that its name says reaches nobody
pub name_reached : (p : Option Whole) (m : Machine) (j : ℕ) (a : Ask) (n : CallName) (b : Bool) → call_asked a ≡ Some n → b ≡ logs_out n
    → b ≡ false → (call_row n).reaches ≡ None
    → IfSome p (λ q. [] ≡ reach m j q a)
name_reached p m j a n b e i is none = all_of p (λ q. [] ≡ reach m j q a)
    (λ q. let nobody : target q a ≡ None = target_asked q a ∙ ap (λ (c : Option CallName). target_by q a (argument_of c)) e ∙ ap (target_by q a) none in
    sym (reach_is m j q a n false e (sym i ∙ is) ∙ ap (reach_to m (closes_job n)) nobody ∙ reach_to_none m (closes_job n)))

-- any other by its target
target_reached : (p : Option Whole) (m : Machine) (j : ℕ) (a : Ask) (n : CallName) (c : Bool) (o r : Option ℕ) → call_asked a ≡ Some n
    → logs_out n ≡ false → closes_job n ≡ c
    → IfSome p (λ q. o ≡ target q a) → o ≡ r → IfSome p (λ q. reach_to m c r ≡ reach m j q a)
target_reached (Some q) m j a n c o r e stays closes h is = sym (reach_is m j q a n false e stays ∙ (λ t. reach_to m (closes t) ((sym h ∙ is) t)))
target_reached None m j a n c o r e stays closes h is = tt

pub branch_reached : (p : Option Whole) (m : Machine) (j : ℕ) (a : Ask) (n : CallName) (c : Bool) (o : Option ℕ) (k : ℕ)
    → call_asked a ≡ Some n → logs_out n ≡ false → IfSome p (λ q. o ≡ target q a)
    → o ≡ Some k → c ≡ closes_job n → c ≡ true → IfSome p (λ q. slots_below (superiors m) k ++ k ∷ [] ≡ reach m j q a)
branch_reached p m j a n c o k e stays h is f closes = target_reached p m j a n true o (Some k) e stays (sym f ∙ closes) h is

pub one_reached : (p : Option Whole) (m : Machine) (j : ℕ) (a : Ask) (n : CallName) (c : Bool) (o : Option ℕ) (k : ℕ)
    → call_asked a ≡ Some n → logs_out n ≡ false → IfSome p (λ q. o ≡ target q a)
    → o ≡ Some k → c ≡ closes_job n → c ≡ false → IfSome p (λ q. k ∷ [] ≡ reach m j q a)
one_reached p m j a n c o k e stays h is f keeps = target_reached p m j a n false o (Some k) e stays (sym f ∙ keeps) h is

none_by : (p : Option Whole) (m : Machine) (j : ℕ) (a : Ask) (b : Bool) → IfSome p (λ q. reach_to m b None ≡ reach m j q a)
    → IfSome p (λ q. [] ≡ reach m j q a)
none_by (Some q) m j a b h = sym (reach_to_none m b) ∙ h
none_by None m j a b h = tt

pub nobody_reached : (p : Option Whole) (m : Machine) (j : ℕ) (a : Ask) (n : CallName) (o : Option ℕ) → call_asked a ≡ Some n
    → logs_out n ≡ false → IfSome p (λ q. o ≡ target q a) → o ≡ None
    → IfSome p (λ q. [] ≡ reach m j q a)
nobody_reached p m j a n o e stays h is = none_by p m j a (closes_job n) (target_reached p m j a n (closes_job n) o None e stays refl h is)

-- a job that a call reaches into is an inferior, and has one of the slots that there are
target_below : (m : Machine) (j : ℕ) (a : Ask) (o : Option ℕ) (k : ℕ) (p : Option Whole) → Forest m → m.jobs j ≡ p → is_some p ≡ true
    → IfSome p (λ q. o ≡ target q a) → o ≡ Some k → k < slots
target_below m j a o k (Some q) forest at some h is = job_few m forest k (inferior_stands m k j (target_inferior m j q a k forest at (sym h ∙ is)))
target_below m j a o k None forest at some h is = cc

pub target_few : (w : World) (j : ℕ) (a : Ask) (o : Option ℕ) (k : ℕ) → Forest (state_of w).raw → is_some (job_at w.jobs j) ≡ true
    → IfSome (raw_at w.files w.core w.jobs w.alarms.items j) (λ q. o ≡ target q a) → o ≡ Some k → k < slots
target_few w j a o k forest some h is =
    target_below (state_of w).raw j a o k (raw_at w.files w.core w.jobs w.alarms.items j) forest (raw_is w j)
    (ap is_some (sym (raw_is w j)) ∙ raw_has w j ∙ some) h is
