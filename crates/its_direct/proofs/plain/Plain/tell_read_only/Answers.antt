use Rattle.std.proofs.Common.{subst, sym}
use Rattle.its_records.specs.declared.session.Event.TheVariants as events
use Rattle.its_direct.specs.Events.{Told}
use Rattle.its_direct.proofs.EventLaws.{told_read_only}
use Rattle.its_direct.proofs.plain.Plain.tell_read_only.Goals as goal

pub returns-clause-told : goal.returns-clause-told
returns-clause-told c =
    subst (Told (events.ReadOnly c.args.page) c.args.self.now c.read_only.new.self) (sym c.answered.ensures)
    (told_read_only c.args.self.now c.read_only.new.self c.block_slot-slot.result c.args.page c.read_only.result
    c.block_slot-slot.ensures.place c.read_only.ensures.done c.read_only.ensures.refused)
