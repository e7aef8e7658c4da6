use Rattle.std.proofs.Common.{subst, sym}
use Rattle.its_records.specs.declared.session.Event.TheVariants as events
use Rattle.its_direct.specs.Events.{Told}
use Rattle.its_direct.proofs.EventLaws.{told_words_in}
use Rattle.its_direct.proofs.plain.Plain.tell_words.Goals as goal

pub returns-clause-told : goal.returns-clause-told
returns-clause-told c =
    subst (Told (events.Words c.args.a c.args.words.now) c.args.self.now c.load_words.new.self) (sym c.answered.ensures)
    (told_words_in c.args.self.now c.load_words.new.self c.block_slot-slot.result c.args.a c.args.words.now _ c.load_words.result
    c.as_slice.ensures.value c.block_slot-slot.ensures.place c.load_words.ensures.done c.load_words.ensures.refused)
