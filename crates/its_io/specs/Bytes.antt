-- What a source gives and a sink takes, and when they fail.
-- No promise rests on this.
use Rattle.std.specs.Prelude.{◌≡◌, ◌≤◌, ◌+◌, ◌-◌, ◌^◌, ℕ, min, List, ◌++◌, Result, OnOk, OnErr}
use Rattle.std.specs.declared.option.Option.{Option}
use Rattle.std.specs.Io.KnownBytes.{Appends}

-- the count of faults after one more, which stays at its last value
abbrev pub next_fault : ℕ → ℕ
next_fault faults = min (faults + 1) (2 ^ 64 - 1)

-- a count of faults went up, or is at its last value
abbrev pub Rose : ℕ → ℕ → Type 0
Rose before now = next_fault before ≤ now

-- a count of faults is as it was if no error comes, and one more if one does
pub record HasCause {T E : Type 0} (before now : ℕ) (result : Result T E) : Type 0 where
  pub later : before ≤ now
  pub kept : OnOk result (now ≡ before)
  pub failed : OnErr result (now ≡ next_fault before)

-- the bytes written are the first of these
pub record Wrote (old new : Option (List ℕ)) (wrote bytes : List ℕ) : Type 0 where
  pub appended : Appends old new wrote
  pub rest : (more : List ℕ) × (bytes ≡ wrote ++ more)
