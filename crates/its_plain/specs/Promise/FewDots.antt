-- At most twelve `.` in a row, beside the sixteen of the licence (docs/MACHINE.md, "Ticks and
-- letters").
-- A promise rests on this.
use Rattle.std.specs.Prelude.{◌<◌, ℕ, List}
use Rattle.std.specs.List.{AllByRecursion}
use Rattle.its_records.specs.Item.{Item}
use Rattle.its_records.specs.declared.calls.Pace.TheVariants.{Work}
use Rattle.its_print.specs.Printing.{Line}
use Rattle.its_plain.specs.Transcript.Course.{Deed, Letter, Moment, run_of}
use Rattle.its_plain.specs.Transcript.Licence.{Dots}

-- no more `.` than this come between two `*` of a job that is not disturbed
abbrev pub most_in_a_row : ℕ
most_in_a_row = 12

-- a `.` comes only when fewer than the most came since the last `*` of the job, its last
-- disturbance or its making
abbrev pub FewAt : Dots → Deed → Type 0
FewAt d (Letter i Work) = d i < most_in_a_row
FewAt d _ = Unit {0}

-- each moment of the run of these events, which show these lines
pub record FewDots (es : List Item) (lines : List Line) : Type 0 where
  pub few : AllByRecursion (λ (t : Moment). FewAt t.dots t.deed) (run_of es lines).moments
