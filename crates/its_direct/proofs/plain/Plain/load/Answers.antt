use Rattle.its_direct.proofs.LoadLaws.{load_done, placed_tidy}
use Rattle.its_direct.proofs.SlotLaws.{touched_tidy}
use Rattle.its_direct.proofs.plain.Plain.load.Goals as goal

pub returns-in-Ok-clause-done : goal.returns-in-Ok-clause-done
returns-in-Ok-clause-done c =
    load_done c.args.self.now _ c.hold_console.new.self c.set_place.new.self c.touch_only.new.self _ c.args.u c.args.j c.args.console
    c.within.ensures c.in-Ok.ensures.slot
    (rw c.numbered.ensures.value at c.in-Ok.ensures.made)
    c.hold_console.ensures.row c.set_place.ensures c.touch_only.ensures

pub returns-in-Ok-clause-tidy : goal.returns-in-Ok-clause-tidy
returns-in-Ok-clause-tidy c = touched_tidy _ _ _ c.touch_only.ensures (placed_tidy _ _ _ c.set_place.ensures c.hold_console.ensures.tidy)
