use Rattle.its_monitor.proofs.RungLaws.{clock_state}
use Rattle.its_monitor.proofs.clock.set_clock.Goals as goal

pub returns-clause-row : goal.returns-clause-row
returns-clause-row c = clock_state c.args.w.now c.set_clock.new.self c.args.clock c.set_clock.ensures
