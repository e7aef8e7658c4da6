use Rattle.its_direct.proofs.EffectLaws.{inf_set, inf_tidied, nobody_here}
use Rattle.its_direct.proofs.plain.Plain.tell.Goals as goal

pub returns-in-Some-clause-row : goal.returns-in-Some-clause-row
returns-in-Some-clause-row c = inf_set c.args.self.now _ c.args.slot _ _ _ c.job.ensures c.in-Some.is c.with_bits.ensures c.put_job.ensures

pub returns-in-Some-clause-tidy : goal.returns-in-Some-clause-tidy
returns-in-Some-clause-tidy c = inf_tidied c.args.self.now _ c.args.slot _ _ _ c.job.ensures c.in-Some.is c.with_bits.ensures
    c.put_job.ensures c.requires.tidy

pub returns-in_default-clause-row : goal.returns-in_default-clause-row
returns-in_default-clause-row c = nobody_here c.args.self.now c.args.slot _ _ c.job.ensures c.in_default.is
