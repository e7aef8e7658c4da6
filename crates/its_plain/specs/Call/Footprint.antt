-- The words that a call depends on, and what it means that a call is still there.
-- A promise rests on this.
use Rattle.std.specs.Prelude.{◌≡◌, ◌<◌, ◌≤◌, ◌==◌, ◌||◌, ℕ, ◌+◌, ◌*◌, ◌^◌, Bool, List, length, Some, Ok, count_by, nat_lt, IfSome}
use Rattle.std.specs.List.{list_any}
use Rattle.its_word.specs.Core.{Core}
use Rattle.its_word.specs.Limits.{budget}
use Rattle.its_records.specs.declared.calls.Ask.{Ask}
use Rattle.its_records.specs.declared.calls.Operand.{Operand}
use Rattle.its_records.specs.declared.calls.Site.{Site}
use Rattle.its_records.specs.declared.jobs.Job.{Job}
use Rattle.its_plain.specs.Unit.{Called, unit}
use Rattle.its_plain.specs.Call.Decode.{ask}

-- whether a place is one of some, and how often it is among them
abbrev pub among : ℕ → List ℕ → Bool
among p places = list_any (λ q. q == p) places

unfoldable pub times : ℕ → List ℕ → ℕ
times p places = count_by (λ q. q == p) places

-- a word of the footprint: a decode word, or the word of an input or of the control
unfoldable pub in_footprint : ℕ → Ask → Bool
in_footprint p k = among p k.decode.items || among p k.operand.items

-- a word of an argument that is a decode word too, or the word of another argument
unfoldable pub is_shared : ℕ → Ask → Bool
is_shared p k = among p k.decode.items || nat_lt 1 (times p k.operand.items)

-- an input that is no immediate: the value of the word at a place
abbrev pub variable : ℕ → ℕ → Operand
variable value place = record { value = value; place = Some place }

-- a call with other inputs
abbrev pub with_inputs : Ask → List Operand → Ask
with_inputs k inputs = record k { inputs = record { items = inputs } }

-- the unit of a job is this call, and it asks for this
pub record Stands (c : Core) (j : Job) (s : Site) (k : Ask) : Type 0 where
  pub unit_is : unit c j ≡ Called s
  pub ask_is : ask c s ≡ Ok k

-- the numbers of a site are those of a call
pub record SiteFits (s : Site) : Type 0 where
  pub pc : s.pc < 2 ^ 18
  pub e : s.e < 2 ^ 18
  pub channel : IfSome s.channel (λ n. n < 16)
  pub used : s.used ≤ budget
  pub room : length s.decode.items ≤ 2 * s.used + 2
