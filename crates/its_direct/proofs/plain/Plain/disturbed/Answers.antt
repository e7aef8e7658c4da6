use Rattle.its_direct.proofs.CallStepLaws.{reach_seen}
use Rattle.its_direct.proofs.plain.Plain.disturbed.Goals as goal

pub returns : goal.returns
returns c = reach_seen c.args.self.now c.seen.result c.args.slot c.args.job.now c.args.ask.now c.disturbed_by.result c.seen.ensures c.disturbed_by.ensures
