use Rattle.std.proofs.Common.{subst, sym}
use Rattle.its_records.specs.declared.session.Event.TheVariants as events
use Rattle.its_direct.specs.Events.{Told}
use Rattle.its_direct.proofs.EventLaws.{told_append_in}
use Rattle.its_direct.proofs.plain.Plain.tell_append.Goals as goal

pub returns-clause-told : goal.returns-clause-told
returns-clause-told c =
    subst (Told (events.Append c.args.words.now) c.args.self.now c.append_words.new.self) (sym c.answered.ensures)
    (told_append_in c.args.self.now c.append_words.new.self _ c.args.words.now _ c.append_words.result c.as_slice.ensures.value
    c.block_file-d.ensures c.append_words.ensures.done c.append_words.ensures.refused)
