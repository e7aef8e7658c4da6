use Rattle.std.proofs.Common.{◌∙◌}
use Rattle.its_direct.proofs.CallStepLaws.{decision_seen, lent_fits}
use Rattle.its_direct.proofs.plain.Plain.decided.Goals as goal

pub decide-requires-clause-fits : goal.decide-requires-clause-fits
decide-requires-clause-fits c = lent_fits c.args.self.now c.seen.result c.seen.ensures c.requires.kept.tidy c.requires.kept.forest

pub returns : goal.returns
returns c = c.decide.ensures ∙ decision_seen c.args.self.now c.seen.result c.args.slot c.args.job.now c.args.ask.now c.seen.ensures
