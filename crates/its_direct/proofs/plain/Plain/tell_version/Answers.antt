use Rattle.its_direct.proofs.EventLaws.{told_version}
use Rattle.its_direct.proofs.plain.Plain.tell_version.Goals as goal

pub returns-clause-told : goal.returns-clause-told
returns-clause-told c = told_version c.args.self.now c.version.new.self c.args.v c.version.ensures.done
