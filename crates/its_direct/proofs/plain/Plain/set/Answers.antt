use Rattle.its_direct.proofs.EffectLaws.{variable_set, variable_tidied, nobody_here}
use Rattle.its_direct.proofs.SlotLaws.{placed_at}
use Rattle.its_direct.proofs.plain.Plain.set.Goals as goal

pub returns-in-Some-clause-row : goal.returns-in-Some-clause-row
returns-in-Some-clause-row c = variable_set c.args.self.now _ c.args.slot _ _ _ c.args.variable c.args.value c.job.ensures c.in-Some.is
    c.with_variable.ensures.set c.put_job.ensures

pub returns-in-Some-clause-tidy : goal.returns-in-Some-clause-tidy
returns-in-Some-clause-tidy c =
    variable_tidied c.args.self.now _ c.args.slot _ _ _ c.args.variable c.args.value c.job.ensures c.in-Some.is c.with_variable.ensures.set
    (c.with_variable.ensures.pc (placed_at _ _ _ _ c.job.ensures c.in-Some.is c.requires.tidy)) c.put_job.ensures c.requires.tidy

pub returns-in_default-clause-row : goal.returns-in_default-clause-row
returns-in_default-clause-row c = nobody_here c.args.self.now c.args.slot _ _ c.job.ensures c.in_default.is
