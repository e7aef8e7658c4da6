-- How many steps of unwinding a frame is from user mode (docs/STEPS.md, "Unwinding").
-- No promise rests on this.
use Rattle.std.specs.Prelude.{◌≤◌, ℕ, ◌+◌, Bool, true, Option, Some, None, length, count_by}
use Rattle.its_records.specs.declared.calls.Owed.{Owed}
use Rattle.its_records.specs.declared.calls.Owed.TheVariants.{Store, GiveBack, Unlink, Link, Free, Leave}
use Rattle.its_frame.specs.declared.frame.Frame.{Frame}
use Rattle.its_frame.specs.declared.frame.Frame.TheVariants.{Entered, Parsed, Asked, Holding, Waiting, Moving, Ending}

-- a file step is still to be performed only if the frame's file steps are pending; any other step
-- always is
abbrev pub is_made_by : Bool → Owed → Bool
is_made_by marked (Store a w) = true
is_made_by marked GiveBack = true
is_made_by marked Unlink = marked
is_made_by marked Link = marked
is_made_by marked Free = marked
is_made_by marked (Leave e) = true

-- one step for a reserved page
abbrev pub kept : Option ℕ → ℕ
kept (Some n) = 1
kept None = 0

-- the number of unwinding steps to user mode
abbrev pub left_of : Bool → Frame → ℕ
left_of marked (Entered f) = 1
left_of marked (Parsed f) = 1
left_of marked (Asked f) = 1
left_of marked (Holding f) = kept f.page + f.owes + 1
left_of marked (Waiting f) = f.owes + 1
left_of marked (Moving f) = 4
left_of marked (Ending f) = count_by (is_made_by marked) f.owed.items

-- a frame whose pending steps are so few that four steps of unwinding are enough
abbrev pub Few : Frame → Type 0
Few (Entered f) = Unit {0}
Few (Parsed f) = Unit {0}
Few (Asked f) = Unit {0}
Few (Holding f) = kept f.page + f.owes ≤ 3
Few (Waiting f) = f.owes ≤ 3
Few (Moving f) = Unit {0}
Few (Ending f) = length f.owed.items ≤ 4
