-- The turns of each RUN are fair (docs/MACHINE.md, "Turns in a circle").
-- A promise rests on this.
use Rattle.std.specs.Prelude.{◌≡◌, ◌≢◌, ◌<◌, ◌==◌, ℕ, Bool, true, false, List, [], ◌∷◌, ◌++◌}
use Rattle.std.specs.List.{list_any}
use Rattle.its_records.specs.Item.{Item}
use Rattle.its_word.specs.Limits.{slots}
use Rattle.its_print.specs.Printing.{Line}
use Rattle.its_plain.specs.Transcript.Course.{Deed, Lines, Turns, Letter, Moment, run_of}
use Rattle.its_plain.specs.Machine.{Machine}
use Rattle.its_plain.specs.Transcript.Turns.{runs}

-- a turn: the machine that its choice finds, and the slot that is chosen
pub record Turn : Type 0 where
  pub machine : Machine
  pub slot : ℕ

-- the turns of the RUN on line k of the session, among these moments
abbrev pub with_turn : Bool → Machine → Deed → List Turn → List Turn
with_turn true m (Turns s) ts = record { machine = m; slot = s } ∷ ts
with_turn true m (Lines e) ts = ts
with_turn true m (Letter i p) ts = ts
with_turn false m d ts = ts

abbrev pub turns_on : ℕ → List Moment → List Turn
turns_on k [] = []
turns_on k (t ∷ ts) = with_turn (t.line == k) t.machine t.deed (turns_on k ts)

-- a slot's job runs at each of these choices
abbrev pub RunsAt : ℕ → List Turn → Type 0
RunsAt k [] = Unit {0}
RunsAt k (t ∷ ts) = (runs t.machine k ≡ true) × RunsAt k ts

-- one of these turns is the slot's
abbrev pub has_turn : ℕ → List Turn → Bool
has_turn k ts = list_any (λ t. t.slot == k) ts

-- between two turns of one slot each other slot has a turn, if its job runs at each choice after
-- the first of the two, up to and with the choice of the second
pub record Fair (ts : List Turn) : Type 0 where
  pub each : (before between after : List Turn) (a z : Turn) (k : ℕ)
      → ts ≡ before ++ (a ∷ (between ++ (z ∷ after)))
      → z.slot ≡ a.slot → k < slots → k ≢ a.slot → RunsAt k (between ++ z ∷ []) → has_turn k between ≡ true

-- the turns of each RUN of a session are fair, in the run of these events, which show these lines
pub record FairTurns (es : List Item) (lines : List Line) : Type 0 where
  pub fair : (k : ℕ) → Fair (turns_on k (run_of es lines).moments)
