use Rattle.std.proofs.Common.{◌∙◌}
use Rattle.its_monitor.proofs.FileLaws.{helped_plain}
use Rattle.its_monitor.proofs.SettledLaws.{settled_is}
use Rattle.its_monitor.proofs.monitor.Monitor.settle.Goals as goal

pub returns-clause-plain : goal.returns-clause-plain
returns-clause-plain c = helped_plain c.unwind_all.new.w c.help.new.w c.help.ensures ∙ c.unwind_all.ensures.plain

pub returns-clause-settled : goal.returns-clause-settled
returns-clause-settled c = settled_is c.unwind_all.new.w c.help.new.w c.unwind_all.ensures.frames c.help.ensures
