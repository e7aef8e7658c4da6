-- Turns in a circle of n slots: after each turn of one, the next that runs has its turn.
-- A promise rests on this.
use Rattle.std.specs.Prelude.{ℕ, zero, suc, ◌+◌, ◌-◌, ◌<◌, ◌≤◌, ◌≡◌, nat_lt, Bool, true, false, Option, Some, None, cond}

-- the first that runs of n slots from k on
unfoldable pub first_running : (ℕ → Bool) → ℕ → ℕ → Option ℕ
first_running runs zero k = None
first_running runs (suc n) k = cond (runs k) (Some k) (first_running runs n (k + 1))

-- the one of the first part of the circle, and if that has none, the one of the second part
abbrev pub or_else : Option ℕ → Option ℕ → Option ℕ
or_else (Some s) o = Some s
or_else None o = o

-- whose turn comes after that of the last slot: the slots after it are looked at first, and then
-- those from slot 0 up to it, with itself as the final one
unfoldable pub robin : ℕ → (ℕ → Bool) → ℕ → Option ℕ
robin n runs last = or_else (first_running runs (n - (last + 1)) (last + 1)) (first_running runs (last + 1) 0)

-- how many slots lie between the last one and slot s, on the way around the circle: none before the
-- next one, n - 1 before itself
abbrev pub between : ℕ → ℕ → ℕ → ℕ
between n last s = cond (nat_lt last s) (s - (last + 1)) (s + n - (last + 1))

-- slot s is the one that runs and is the nearest on that way
pub record IsNext (n : ℕ) (runs : ℕ → Bool) (last s : ℕ) : Type 0 where
  pub within : s < n
  pub running : runs s ≡ true
  pub nearest : (k : ℕ) → k < n → runs k ≡ true → between n last s ≤ between n last k

-- none of the n slots runs
pub record Nobody (n : ℕ) (runs : ℕ → Bool) : Type 0 where
  pub none : (k : ℕ) → k < n → runs k ≡ false

-- whose turn it is after the last one: the nearest on the way, and nobody's exactly if no slot runs
abbrev pub Turn : ℕ → (ℕ → Bool) → ℕ → Option ℕ → Type 0
Turn n runs last (Some s) = IsNext n runs last s
Turn n runs last None = Nobody n runs
