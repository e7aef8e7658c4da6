use Rattle.its_direct.proofs.FileLaws.{file_done, file_tidy}
use Rattle.its_direct.proofs.plain.Plain.make_file.Goals as goal

pub returns-in-Ok-clause-done : goal.returns-in-Ok-clause-done
returns-in-Ok-clause-done c = file_done c.args.self.now c.add_file.new.self c.set_place.new.self c.touch_none.new.self _ c.in-Ok.ensures.done
    c.set_place.ensures c.touch_none.ensures

pub returns-in-Ok-clause-tidy : goal.returns-in-Ok-clause-tidy
returns-in-Ok-clause-tidy c = file_tidy c.add_file.new.self c.set_place.new.self c.touch_none.new.self _ c.set_place.ensures c.touch_none.ensures
    c.add_file.ensures.tidy
