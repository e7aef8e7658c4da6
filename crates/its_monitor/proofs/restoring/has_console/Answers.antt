use Rattle.std.proofs.Common.{sym, ◌∙◌}
use Rattle.its_monitor.proofs.JobLineLaws.{has_console_is, no_console_is}
use Rattle.its_monitor.proofs.restoring.has_console.Goals as goal

pub returns-in-Some : goal.returns-in-Some
returns-in-Some c = c.is_some.ensures ∙ has_console_is c.args.w.now c.args.s c.in-Some.job (sym c.registers.ensures ∙ c.in-Some.is)

pub returns-in-None : goal.returns-in-None
returns-in-None c = no_console_is c.args.w.now c.args.s (sym c.registers.ensures ∙ c.in-None.is)
