-- What a call may rely on when it decides, in addition to its tests: what its decoding looked at,
-- what is pending and reserved, and that the jobs that it reaches are in user mode (docs/STEPS.md,
-- "Commit").
-- No promise rests on this.
use Rattle.std.specs.Prelude.{◌≡◌, ◌≢◌, ℕ, ◌%◌, ◌^◌, true, false, Some, None, IfSome, [], ◌∷◌, slice_index_or}
use Rattle.its_word.specs.Core.{Core, can_store, store}
use Rattle.its_records.specs.declared.calls.Ask.{Ask}
use Rattle.its_records.specs.declared.calls.Operand.{Operand}
use Rattle.its_records.specs.declared.calls.Site.{Site}
use Rattle.its_records.specs.declared.jobs.Job.{Job}
use Rattle.its_frame.specs.declared.name.CallName.TheVariants.{Sleep, Iot, Siot}
use Rattle.its_plain.specs.Call.Arguments.{place_of_input, in_footprint, is_shared}
use Rattle.its_plain.specs.Call.Step.{among}
use Rattle.its_plain.specs.Machine.Change.{superiors}
use Rattle.its_plain.specs.Call.Decide.{call_named, reach}
use Rattle.its_plain.specs.Call.Footprint.{variable, with_inputs}
use Rattle.its_plain.specs.Machine.{Whole, Machine}
use Rattle.its_plain.specs.Call.Tests.{number_at, out}
use Rattle.its_stepped.specs.State.{State}
use Rattle.its_stepped.specs.Tick.{reserves, helps, quarters}
use Rattle.its_stepped.specs.Sound.{Stands, Stored, Debts, Paged}
use Rattle.its_stepped.specs.Quiet.{IsStill}
use Rattle.its_stepped.specs.Forest.{Forest}

-- the arguments of SIOT, whose pointer and count are at these places
pub record Transfer (a : Ask) (p q : ℕ) : Type 0 where
  pub channel : Operand
  pub pointer : ℕ
  pub count : ℕ
  pub inputs : a.inputs.items ≡ channel ∷ variable pointer p ∷ variable count q ∷ []

-- what the decoding has checked: the error address and, except for `.IOT`, the output address allow
-- a store; places are addresses, and those of inputs are words of the footprint; SLEEP has one
-- argument, and SIOT three
pub record Fetched (c : Core) (a : Ask) : Type 0 where
  pub error : (w : ℕ) → Stored c (number_at a.error w)
  pub output : call_named a.name ≢ Some Iot → (w : ℕ) → Stored c (out a.outputs.items w)
  pub address : slice_index_or a.outputs.items 0 0 % 2 ^ 18 ≡ slice_index_or a.outputs.items 0 0
  pub input : (k p : ℕ) → place_of_input a k ≡ Some p → p % 2 ^ 18 ≡ p
  pub known : (k p : ℕ) → place_of_input a k ≡ Some p → in_footprint p a ≡ true
  pub sleeper : (p : ℕ) → call_named a.name ≡ Some Sleep → a.fail ≡ 0 → place_of_input a 0 ≡ Some p → (v : ℕ) × (a.inputs.items ≡ record { value = v; place = Some p } ∷ [])
  pub mover : (p q : ℕ) → call_named a.name ≡ Some Siot → a.fail ≡ 0 → place_of_input a 1 ≡ Some p → place_of_input a 2 ≡ Some q → Transfer a p q

-- that the decoding looks at these, that a call is still there after a store outside its footprint,
-- that a call of SLEEP is still there after its new time, and one of SIOT after its new pointer and
-- count
pub record Decoding : Type 0 where
  pub fetched : (c : Core) (j : Job) (s : Site) (a : Ask) → Stands c j s a → Fetched c a
  pub slept : (c : Core) (j : Job) (s : Site) (a : Ask) (p v w : ℕ) → Stands c j s a → a.inputs.items ≡ record { value = v; place = Some p } ∷ [] → is_shared p a ≡ false
      → can_store c p ≡ true → Stands (store c p w) j s (record a { inputs = record { items = record { value = w; place = Some p } ∷ [] } })
  pub spared : (c : Core) (j : Job) (s : Site) (a : Ask) (p w : ℕ) → Stands c j s a → in_footprint p a ≡ false → Stands (store c p w) j s a
  pub moved : (c : Core) (j : Job) (s : Site) (a : Ask) (x : Operand) (v p k q w n : ℕ) → Stands c j s a → a.inputs.items ≡ x ∷ variable v p ∷ variable k q ∷ []
      → is_shared p a ≡ false → is_shared q a ≡ false → can_store c p ≡ true → can_store c q ≡ true
      → Stands (store (store c p w) q n) j s (with_inputs a (x ∷ variable w p ∷ variable n q ∷ []))

-- the call of job own in slot j, with its last n arguments pending: m is the plain machine that it
-- decides on, and v the state that its commit finds. A page that it reserves exists, and is clear
pub record Calling (m : Machine) (v : State) (j : ℕ) (own : Whole) (s : Site) (a : Ask) (n : ℕ) : Type 0 where
  pub stands : Stands own.core own.job s a
  pub fetched : Fetched own.core a
  pub debts : Debts own.core a n
  pub page : IfSome (v.reserved j) (Paged a n)
  pub full : reserves a ≡ true → v.reserved j ≡ Some quarters
  pub still : n ≡ 0 → IsStill (v.frames j)
  pub reached : (k : ℕ) → among k (reach m j own a) ≡ true → v.frames k ≡ None
  pub apart : among j (reach m j own a) ≡ false
  pub here : m.jobs j ≡ Some own
  pub tree : (k : ℕ) → superiors v.raw k ≡ superiors m k
  pub forest : Forest m
  pub empty : (k : ℕ) → m.jobs k ≡ None → v.frames k ≡ None
  pub unmarked : helps own a ≡ true → v.mark ≡ None
