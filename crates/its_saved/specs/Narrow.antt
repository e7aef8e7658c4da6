-- What no type says of the numbers of a machine, and every run keeps.
-- No promise rests on this.
use Rattle.std.specs.Prelude.{◌<◌, ◌^◌, ℕ, IfSome, List, [], ◌∷◌}
use Rattle.its_plain.specs.Machine.{Symbol, Machine}
use Rattle.its_plain.specs.Operator.Clock.{alarm_in}
use Rattle.its_saved.specs.Readable.{BytesWorded}

-- the address of each symbol has 18 bits
abbrev pub AreAddressed : List Symbol → Type 0
AreAddressed [] = Unit {0}
AreAddressed (x ∷ xs) = (x.1 < 2 ^ 18) × AreAddressed xs

-- addresses of symbols have 18 bits, next times of alarms 36, and bytes at consoles 7: the lines of
-- a session and the calls of jobs have such numbers alone
pub record Narrow (m : Machine) : Type 0 where
  pub symbols : (k : ℕ) → AreAddressed (m.symbols k)
  pub alarms : (k : ℕ) → IfSome (alarm_in (m.jobs k)) (λ a. a.1 < 2 ^ 36)
  pub bytes : (c : ℕ) → BytesWorded (m.consoles c)
