use Rattle.std.proofs.Common.{ap}
use Rattle.its_direct.specs.declared.plain.Plain.{Plain}
use Rattle.its_direct.proofs.ClockLaws.{periods_kept}
use Rattle.its_direct.proofs.plain.Plain.advance.Goals as goal

pub alarms_go_off-requires-clause-periods : goal.alarms_go_off-requires-clause-periods
alarms_go_off-requires-clause-periods c = periods_kept c.args.self.now c.set_clock.new.self c.requires.alarmed c.requires.tidy
    (ap (λ (p : Plain). p.alarms) c.set_clock.ensures)
