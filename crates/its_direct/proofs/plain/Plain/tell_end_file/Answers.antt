use Rattle.its_direct.proofs.EventLaws.{told_end}
use Rattle.its_direct.proofs.plain.Plain.tell_end_file.Goals as goal

pub returns-clause-told : goal.returns-clause-told
returns-clause-told c = told_end c.args.self.now c.end_file.new.self c.end_file.ensures.done
