use Rattle.its_direct.proofs.AskLaws.{address_fails, argument_found, place_fails}
use Rattle.its_direct.proofs.step.asking.argument.Goals as goal

pub returns-in-Ok-placed-clause-reads : goal.returns-in-Ok-placed-clause-reads
returns-in-Ok-placed-clause-reads c = argument_found _ _ _ c.in-Ok.a _ _ _ c.in-Ok.ensures.answer c.address.ensures.reads
    c.address.ensures.used _ c.in-Ok-placed.ensures

pub returns-in-Err-placed-clause-reads : goal.returns-in-Err-placed-clause-reads
returns-in-Err-placed-clause-reads c = place_fails _ _ _ c.in-Ok.a _ _ _ c.in-Ok.ensures.answer c.address.ensures.reads
    c.address.ensures.used _ c.in-Err-placed.ensures

pub returns-in-Err-clause-reads : goal.returns-in-Err-clause-reads
returns-in-Err-clause-reads c = address_fails _ _ _ _ _ _ c.in-Err.ensures.answer c.address.ensures.reads
