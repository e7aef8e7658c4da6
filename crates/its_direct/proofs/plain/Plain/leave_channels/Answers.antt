use Rattle.its_direct.proofs.RemovalLaws.{left_sweep, empty_sweep}
use Rattle.its_direct.proofs.plain.Plain.leave_channels.Goals as goal

pub returns-in-Some : goal.returns-in-Some
returns-in-Some c = left_sweep c.args.self.now c.put_job.new.self c.args.root c.args.slot _ c.in-Some.job _ c.job.ensures c.in-Some.is
    c.requires.stays c.leave_each.ensures c.put_job.ensures

pub returns-in_default : goal.returns-in_default
returns-in_default c = empty_sweep c.args.self.now c.args.root c.args.slot _ c.job.ensures c.in_default.is c.requires.stays
