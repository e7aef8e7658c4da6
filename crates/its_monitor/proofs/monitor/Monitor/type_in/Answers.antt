use Rattle.its_monitor.proofs.TypingLaws.{type_room, type_kept}
use Rattle.its_monitor.proofs.monitor.Monitor.type_in.Goals as goal

pub returns-clause-waits : goal.returns-clause-waits
returns-clause-waits c = type_room _ _ _ c.type_in.ensures.kept

pub returns-clause-kept : goal.returns-clause-kept
returns-clause-kept c = type_kept c.args.self.now.world c.type_in.new.self c.args.console c.args.b c.type_in.ensures.typed c.requires.kept
