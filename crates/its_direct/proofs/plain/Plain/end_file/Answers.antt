use Rattle.its_direct.proofs.FileLaws.{ended, ended_tidy}
use Rattle.its_direct.proofs.plain.Plain.end_file.Goals as goal

pub returns-clause-done : goal.returns-clause-done
returns-clause-done c = ended c.args.self.now c.set_place.new.self c.touch_none.new.self c.set_place.ensures c.touch_none.ensures

pub returns-clause-tidy : goal.returns-clause-tidy
returns-clause-tidy c = ended_tidy c.args.self.now c.set_place.new.self c.touch_none.new.self c.set_place.ensures c.touch_none.ensures c.requires.tidy
