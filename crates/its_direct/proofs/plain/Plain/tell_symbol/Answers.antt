use Rattle.std.proofs.Common.{subst, sym}
use Rattle.its_records.specs.declared.session.Event.TheVariants as events
use Rattle.its_direct.specs.Events.{Told}
use Rattle.its_direct.proofs.EventLaws.{told_symbol}
use Rattle.its_direct.proofs.plain.Plain.tell_symbol.Goals as goal

pub returns-clause-told : goal.returns-clause-told
returns-clause-told c =
    subst (Told (events.Symbol c.args.name c.args.a) c.args.self.now c.symbol.new.self) (sym c.answered.ensures)
    (told_symbol c.args.self.now c.symbol.new.self c.block_slot-slot.result c.args.name c.args.a c.symbol.result
    c.block_slot-slot.ensures.place c.symbol.ensures.done c.symbol.ensures.refused)
