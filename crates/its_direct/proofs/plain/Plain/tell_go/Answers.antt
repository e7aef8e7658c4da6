use Rattle.its_direct.proofs.EventLaws.{told_go, told_go_refused}
use Rattle.its_direct.proofs.plain.Plain.tell_go.Goals as goal

pub returns-in-Ok-clause-told : goal.returns-in-Ok-clause-told
returns-in-Ok-clause-told c = told_go c.args.self.now c.go.new.self c.set_place.new.self c.block_slot-slot.result c.args.a
    c.block_slot-slot.ensures.place c.in-Ok.ensures.done c.set_place.ensures

pub returns-in-Err-clause-told : goal.returns-in-Err-clause-told
returns-in-Err-clause-told c = told_go_refused c.args.self.now c.go.new.self c.block_slot-slot.result c.args.a _
    c.block_slot-slot.ensures.place c.in-Err.ensures.refused
