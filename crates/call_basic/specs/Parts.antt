-- A part of SIOT that moves a byte, or why it moves none, as decisions.
-- No promise rests on this.
use Rattle.std.specs.Prelude.{ℕ, Option, Some, None, Result, Ok, Err, [], ◌∷◌}
use Rattle.its_records.specs.declared.calls.Ask.{Ask}
use Rattle.its_records.specs.declared.jobs.Job.{Job}
use Rattle.its_frame.specs.declared.change.Change.{Change}
use Rattle.its_frame.specs.declared.change.Change.TheVariants as changes
use Rattle.its_frame.specs.declared.decision.Decision.{Decision}
use Rattle.its_frame.specs.declared.decision.Decision.TheVariants as decisions
use Rattle.its_plain.specs.Machine.Registers.{bit_of, with_pending}
use Rattle.its_plain.specs.Machine.Own.{exit_of, with_advance}
use Rattle.its_plain.specs.Call.Tests.{goes, number_at}
use Rattle.call_basic.specs.declared.transfer.Moved.{Moved}
use Rattle.call_basic.specs.declared.transfer.Moved.TheVariants as moved
use Rattle.call_basic.specs.declared.transfer.NextByte.{NextByte}
use Rattle.call_basic.specs.declared.transfer.Stop.{Stop}
use Rattle.call_basic.specs.declared.transfer.Stop.TheVariants.{Fails, Faults, Finishes, Waits}

-- the change of a part
abbrev pub change_of : Moved → Change
change_of (moved.Move n at) = changes.Move n at
change_of (moved.Append n w) = changes.Append n w
change_of (moved.Take c) = changes.Take c
change_of (moved.Put c b) = changes.Put c b
change_of (moved.Send l w) = changes.Send l w
change_of (moved.Receive l) = changes.Receive l

abbrev pub going : NextByte → Decision
going p = goes (change_of p.moved ∷ []) p.held (p.next ∷ p.left ∷ [])

-- what a job with these registers decides if SIOT moves no byte
abbrev pub stop_of : Job → Ask → Stop → Decision
stop_of j a (Fails n) = decisions.Ends (record { items = [] }) (record { items = number_at a.error n }) (exit_of (with_advance 1 j))
stop_of j a (Faults f) = decisions.Ends (record { items = [] }) (record { items = [] }) (exit_of (with_pending j (bit_of f)))
stop_of j a Finishes = decisions.Ends (record { items = [] }) (record { items = [] }) (exit_of (with_advance 2 j))
stop_of j a (Waits r) = decisions.Waits r

abbrev pub part_of : Job → Ask → Result NextByte Stop → Decision
part_of j a (Ok p) = going p
part_of j a (Err s) = stop_of j a s

abbrev pub part_in : Result NextByte Stop → Option NextByte
part_in (Ok p) = Some p
part_in (Err s) = None

abbrev pub stop_in : Job → Ask → Result ℕ Stop → Option Decision
stop_in j a (Ok n) = None
stop_in j a (Err s) = Some (stop_of j a s)
