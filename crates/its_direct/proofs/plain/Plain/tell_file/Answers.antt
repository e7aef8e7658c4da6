use Rattle.its_direct.proofs.LoadLaws.{placed_tidy}
use Rattle.its_direct.proofs.SlotLaws.{touched_tidy}
use Rattle.its_direct.proofs.StateLaws.{restores_file, restores_file_refused}
use Rattle.its_direct.proofs.plain.Plain.tell_file.Goals as goal

pub returns-in-Ok-clause-restores : goal.returns-in-Ok-clause-restores
returns-in-Ok-clause-restores c =
    restores_file c.args.self.now c.last_named-slot.result.0 _ c.last_named-slot.ensures c.add_file.new.self
    c.set_place.new.self c.touch_none.new.self c.args.d c.args.x c.args.y c.in-Ok.ensures.done c.set_place.ensures c.touch_none.ensures

pub returns-in-Err-clause-restores : goal.returns-in-Err-clause-restores
returns-in-Err-clause-restores c = restores_file_refused c.args.self.now c.add_file.new.self c.args.d c.args.x c.args.y _ c.in-Err.ensures.refused

pub returns-in-Ok-clause-tidy : goal.returns-in-Ok-clause-tidy
returns-in-Ok-clause-tidy c = touched_tidy _ _ _ c.touch_none.ensures (placed_tidy _ _ _ c.set_place.ensures c.add_file.ensures.tidy)
