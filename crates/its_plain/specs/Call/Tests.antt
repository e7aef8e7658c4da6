-- How a call decides: its tests in their order, the first of which that holds stops it, and the
-- ways in which a call ends (docs/CALLS.md, "How a call ends").
-- A promise rests on this.
use Rattle.std.specs.Prelude.{if◌then◌else◌, ℕ, Bool, Option, Some, None, List, [], ◌∷◌}
use Rattle.its_word.specs.declared.access.Fault.{Fault}
use Rattle.its_records.specs.declared.calls.Ask.{Ask}
use Rattle.its_word.specs.declared.plan.Store.{Store}
use Rattle.its_frame.specs.declared.change.Change.{Change}
use Rattle.its_frame.specs.declared.decision.Decision.{Decision}
use Rattle.its_frame.specs.declared.decision.Decision.TheVariants.{Goes, Ends}
use Rattle.its_frame.specs.declared.decision.Held.{Held}
use Rattle.its_plain.specs.Machine.Registers.{bit_of, with_pending}
use Rattle.its_plain.specs.Machine.Own.{exit_of, with_advance}
use Rattle.its_plain.specs.Machine.View.{View}

-- a test, and the decision of a call if it holds
pub record Test : Type 0 where
  pub holds : Bool
  pub stop : Decision

infix 75 ◌⇒◌
abbrev pub ◌⇒◌ : Bool → Decision → Test
b ⇒ d = record { holds = b; stop = d }

-- the first test that holds decides; if none does, this decision
abbrev pub first : List Test → Decision → Decision
first [] d = d
first (t ∷ ts) d = if t.holds then t.stop else first ts d

-- the call finishes: changes, stores, and PC past the call and the instruction after it
abbrev pub finishes : View → List Change → List Store → Decision
finishes v cs ss = Ends (record { items = cs }) (record { items = ss }) (exit_of (with_advance 2 v.own.job))

-- it fails with a number, which is stored at the error address if there is one; PC gains 1
abbrev pub number_at : Option ℕ → ℕ → List Store
number_at (Some p) n = record { at = p; word = n } ∷ []
number_at None n = []

abbrev pub fails : View → Ask → ℕ → Decision
fails v a n = Ends (record { items = [] }) (record { items = number_at a.error n }) (exit_of (with_advance 1 v.own.job))

-- it faults: the pending bit is set, and PC stays
abbrev pub faults : View → Fault → Decision
faults v f = Ends (record { items = [] }) (record { items = [] }) (exit_of (with_pending v.own.job (bit_of f)))

-- a part of it is done; PC stays
abbrev pub goes : List Change → Option Held → List ℕ → Decision
goes cs h vs = Goes (record { items = cs }) h (record { items = vs })

-- the output of a call, if it has one
abbrev pub out : List ℕ → ℕ → List Store
out (p ∷ ps) w = record { at = p; word = w } ∷ []
out [] w = []
