use Rattle.its_direct.proofs.EventLaws.{told_dir}
use Rattle.its_direct.proofs.plain.Plain.tell_dir.Goals as goal

pub returns-clause-told : goal.returns-clause-told
returns-clause-told c = told_dir c.args.self.now c.touch_none.new.self c.touch_none.ensures c.args.d
