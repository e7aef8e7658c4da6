-- The faults of a sink, and what a flow says of its sink's faults.
-- No promise rests on this.
use Rattle.std.specs.Prelude.{◌≡◌, ◌≢◌, ◌≤◌, ℕ}
use Rattle.its_io.specs.Bytes.{next_fault}
use Rattle.its_top.specs.declared.sessions.flow.Flow.{Flow}
use Rattle.its_top.specs.declared.sessions.flow.Flow.TheVariants as flows

-- a count of faults is as it was if a flow is no fault, and one more if it is one
pub record FlowCause (flow : Flow) (before now : ℕ) : Type 0 where
  pub later : before ≤ now
  pub unfailed : flow ≢ flows.Fault → now ≡ before
  pub fault : flow ≡ flows.Fault → now ≡ next_fault before
