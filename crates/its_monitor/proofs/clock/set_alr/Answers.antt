use Rattle.its_monitor.proofs.RungLaws.{alr_set, alr_tidy}
use Rattle.its_monitor.proofs.clock.set_alr.Goals as goal

pub returns-clause-row : goal.returns-clause-row
returns-clause-row c = alr_set c.args.w.now _ c.args.slot c.with_alr.result c.in-Some.job c.registers.result c.registers.ensures
    c.in-Some.is c.with_alr.ensures c.put_registers.ensures

pub returns-clause-tidy : goal.returns-clause-tidy
returns-clause-tidy c = alr_tidy c.args.w.now _ c.args.slot c.with_alr.result c.in-Some.job c.registers.result c.registers.ensures
    c.in-Some.is c.with_alr.ensures c.put_registers.ensures c.requires.tidy
