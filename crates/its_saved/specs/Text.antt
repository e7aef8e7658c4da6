-- The lines of the state part that a system is saved in, in the form that a session has: the lines
-- of its machine (`Saving.saved`), SYSTEM first, then who had the last turn, and READY last. And
-- what such lines lead to, when a session obeys them.
-- No promise rests on this.
use Rattle.std.specs.Prelude.{if◌then◌else◌, ◌≡◌, ◌==◌, ℕ, ◌+◌, Bool, false, true, List, [], ◌∷◌, ◌++◌, length, map}
use Rattle.its_records.specs.declared.session.Event.{Event}
use Rattle.its_records.specs.declared.session.Event.TheVariants as events
use Rattle.its_records.specs.declared.state_line.StateLine.{StateLine}
use Rattle.its_records.specs.declared.state_line.StateLine.TheVariants as states
use Rattle.its_session.specs.Writing.{lines_text}
use Rattle.its_plain.specs.Machine.{Machine}
use Rattle.its_plain.specs.Operator.{Block, Does, no_block}
use Rattle.its_plain.specs.Operator.Files.{name_in}
use Rattle.its_plain.specs.Operator.State.{restored}
use Rattle.its_plain.specs.Transcript.{Walk, at_start, walk_after, next_line}
use Rattle.its_plain.specs.Transcript.Turns.{highest}
use Rattle.its_saved.specs.StateLine.{StateLine as Saved}
use Rattle.its_saved.specs.StateLine as saves
use Rattle.its_saved.specs.Saving.{saved}

-- a line in the form that a session has: words of a file or of a core, RO, SYM and REGS name no
-- file and no job, since they are about the last one
abbrev pub line_of : Saved → StateLine
line_of (saves.System v) = states.System v
line_of (saves.Clock n) = states.Clock n
line_of (saves.File n) = states.File (name_in n 0) (name_in n 1) (name_in n 2)
line_of (saves.FileWords n ws) = states.FileWords (record { items = ws })
line_of (saves.Job s u j c) = states.Job s u j c
line_of (saves.CoreWords s a ws) = states.CoreWords a (record { items = ws })
line_of (saves.ReadOnly s k) = states.ReadOnly k
line_of (saves.Symbol s x a) = states.Symbol x a
line_of (saves.Regs s r) = states.Regs r
line_of (saves.Alarm s a) = states.Alarm s a.0 a.1
line_of (saves.Under s t) = states.Under s t
line_of (saves.Tty s n w) = states.Tty s n w
line_of (saves.Disk s n x at) = states.Disk s n (name_in x 0) (name_in x 1) (name_in x 2) at
line_of (saves.Draft s n x) = states.Draft s n (name_in x 0) (name_in x 1) (name_in x 2)
line_of (saves.Wrote s n ws) = states.Wrote s n (record { items = ws })
line_of (saves.Usr s n t w at) = states.Usr s n t w at
line_of (saves.Join s n l w x y) = states.Join s n l w x y
line_of (saves.Sent l ws) = states.Sent l (record { items = ws })
line_of (saves.EndShut l w) = states.EndShut l w
line_of (saves.Bytes c false bs) = states.Input c (record { items = bs })
line_of (saves.Bytes c true bs) = states.Output c (record { items = bs })
line_of (saves.Hold c s) = states.Hold c s

abbrev pub lines_of : List Saved → List StateLine
lines_of ls = map line_of ls

-- TURN, if RUN has given a turn
abbrev pub turn_lines : ℕ → List StateLine
turn_lines last = if last == highest then [] else states.Turn last ∷ []

-- all lines of a machine after a turn of slot `last`
abbrev pub saved_lines : Machine → ℕ → List StateLine
saved_lines m last = lines_of (saved m) ++ (turn_lines last ++ states.Ready ∷ [])

-- their events, and their text
abbrev pub saved_events : List StateLine → List Event
saved_events ls = map events.Restore ls

abbrev pub state_text : List StateLine → List ℕ
state_text ls = lines_text (saved_events ls)

-- these lines lead from one state of a session to another: none of them is refused, and none shows
-- anything
pub data Obeys : Walk → List StateLine → Walk → Type 0 where
  no_line : {v : Walk} → Obeys v [] v
  a_line : {v w : Walk} {l : StateLine} {ls : List StateLine} {n : Machine} {touched : ℕ → Bool} {b : Block}
      → restored v.machine v.block l ≡ Does n [] touched b
      → Obeys (next_line (walk_after v n touched b)) ls w
      → Obeys v (l ∷ ls) w

-- obeyed from the start of a session, these lines lead to this machine, outside blocks, and no slot
-- has dots then
pub record Restored (ls : List StateLine) (m : Machine) : Type 0 where
  pub walk : Walk
  pub obeys : Obeys at_start ls walk
  pub machine : walk.machine ≡ m
  pub block : walk.block ≡ no_block
  pub dots : (k : ℕ) → walk.dots k ≡ 0
  pub line : walk.line ≡ 1 + length ls
