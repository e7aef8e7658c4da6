-- What a decision promises of the rest of its call: its changes, its stores and its registers can
-- be carried out.
-- No promise rests on this.
use Rattle.std.specs.Prelude.{◌≡◌, ◌≤◌, ◌<◌, ◌^◌, ℕ, true, Option, Some, None, IfSome, List, [], ◌∷◌, length}
use Rattle.its_word.specs.Byte.{has_size}
use Rattle.its_word.specs.Core.{Core, can_store}
use Rattle.its_word.specs.Stores.{first_fault, stored}
use Rattle.its_records.specs.declared.calls.Ask.{Ask}
use Rattle.its_frame.specs.declared.change.Change.{Change}
use Rattle.its_frame.specs.declared.change.Change.TheVariants.{Remove}
use Rattle.its_frame.specs.declared.decision.Decision.{Decision}
use Rattle.its_frame.specs.declared.decision.Decision.TheVariants.{Waits, Goes, Ends, Gone}
use Rattle.its_frame.specs.declared.decision.Held.{Held}
use Rattle.its_plain.specs.Call.Arguments.{input, debts, with_new_values}
use Rattle.its_plain.specs.Call.Step.{deposited}
use Rattle.its_plain.specs.Machine.Change.{effect, effects}
use Rattle.its_plain.specs.Machine.{Machine, core_of}
use Rattle.its_shared.specs.Can.{CanMakeAll, HasJob}

-- a byte that a call holds can be stored: its word can be written, and its pointer, input 1 of the
-- call with its new values, shows a byte of some size
pub record HeldFits (c : Core) (a : Ask) (h : Held) : Type 0 where
  pub many : 1 < length a.inputs.items
  pub below : h.place < 2 ^ 18
  pub can : can_store c h.place ≡ true
  pub size : has_size (input a 1) ≡ true

-- the core once it is stored
abbrev pub held_in : Core → Ask → Option Held → Core
held_in c a (Some h) = stored c (deposited c (input a 1) h ∷ [])
held_in c a None = c

-- a part of a call can be made in a core: first a byte that it holds is stored, then its last
-- arguments, all of which are words
pub record GoesOn (c : Core) (a : Ask) (h : Option Held) (vs : List ℕ) : Type 0 where
  pub few : length vs ≤ 2
  pub held : IfSome h (HeldFits c (with_new_values a vs))
  pub read : length (debts (with_new_values a vs) (length vs)) ≡ length vs
  pub debts : first_fault (held_in c (with_new_values a vs) h) (debts (with_new_values a vs) (length vs)) ≡ None

-- the changes are possible, and slot j has a job after them
pub record Carries (m : Machine) (j : ℕ) (cs : List Change) : Type 0 where
  pub can : CanMakeAll cs j m
  pub job : HasJob (effects cs j m) j

-- the core of slot j after changes of its call
abbrev pub core_behind : Machine → ℕ → List Change → Core
core_behind m j cs = core_of ((effects cs j m).jobs j)

-- the decision of slot j's call can be carried out: its changes, and after them its stores and its
-- registers
abbrev pub CanCarryOut : Machine → ℕ → Ask → Decision → Type 0
CanCarryOut m j a (Waits r) = Unit {0}
CanCarryOut m j a (Goes cs h vs) = Carries m j cs.items × GoesOn (core_behind m j cs.items) a h vs.items
CanCarryOut m j a (Ends cs ss e) = Carries m j cs.items × (first_fault (core_behind m j cs.items) ss.items ≡ None) × (e.pc < 2 ^ 18)
CanCarryOut m j a (Gone cs) = CanMakeAll cs.items j (effect (Remove j) j m)
