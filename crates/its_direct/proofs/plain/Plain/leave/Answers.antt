use Rattle.its_direct.proofs.EffectLaws.{registers_left, left_tidied, nobody_here}
use Rattle.its_direct.proofs.plain.Plain.leave.Goals as goal

pub returns-in-Some-clause-row : goal.returns-in-Some-clause-row
returns-in-Some-clause-row c = registers_left c.args.self.now _ c.args.slot _ _ _ c.args.exit c.job.ensures c.in-Some.is c.left_with.ensures c.put_job.ensures

pub returns-in-Some-clause-tidy : goal.returns-in-Some-clause-tidy
returns-in-Some-clause-tidy c = left_tidied c.args.self.now _ c.args.slot _ _ _ c.args.exit c.job.ensures c.in-Some.is c.left_with.ensures
    c.requires.pc c.put_job.ensures c.requires.tidy

pub returns-in_default-clause-row : goal.returns-in_default-clause-row
returns-in_default-clause-row c = nobody_here c.args.self.now c.args.slot _ _ c.job.ensures c.in_default.is
