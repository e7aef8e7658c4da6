-- The decision is made on the raw job of the slot.
use Rattle.std.specs.Prelude.{◌≡◌, true, None}
use Rattle.std.proofs.Common.{sym}
use Rattle.its_stepped.specs.Tick.{helps}
use Rattle.call_core.proofs.RawLaws.{decision_here, raw_there}
use Rattle.call_core.proofs.calls.decide.Goals as goal

pub decided-requires-clause-unmarked : goal.decided-requires-clause-unmarked
decided-requires-clause-unmarked c =
    raw_there (λ q. helps q c.args.ask.now ≡ true → c.args.w.now.files.mark ≡ None) c.args.w.now c.args.slot c.in-Some.job.now
    (sym c.in-Some.ensures.job) c.requires.unmarked

pub returns : goal.returns
returns c = decision_here c.args.w.now c.args.slot c.in-Some.job.now c.args.ask.now c.decided.result (sym c.in-Some.ensures.job) c.decided.ensures
