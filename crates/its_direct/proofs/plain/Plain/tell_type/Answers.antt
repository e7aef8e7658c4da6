use Rattle.its_direct.proofs.EventLaws.{told_type_in}
use Rattle.its_direct.proofs.plain.Plain.tell_type.Goals as goal

pub returns-clause-told : goal.returns-clause-told
returns-clause-told c = told_type_in c.args.self.now c.type_in-dropped.new.self c.args.c _ c.args.bytes.now _ c.as_slice.ensures.value
    c.type_in-dropped.ensures.dropped c.type_in-dropped.ensures.done
