use Rattle.its_direct.proofs.ToldLaws.{told_place}
use Rattle.its_direct.proofs.plain.Plain.event.Goals as goal

pub returns-clause-place : goal.returns-clause-place
returns-clause-place c = told_place c.args.event.now c.args.self.now c.event_row.new.self c.event_row.result c.event_row.ensures.told
