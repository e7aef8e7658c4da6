use Rattle.its_direct.proofs.EventLaws.{told_drain}
use Rattle.its_direct.proofs.plain.Plain.tell_drain.Goals as goal

pub returns-clause-told : goal.returns-clause-told
returns-clause-told c = told_drain c.args.self.now c.drain-bytes.new.self c.args.c c.args.n _ c.drain-bytes.ensures.drained c.drain-bytes.ensures.done
