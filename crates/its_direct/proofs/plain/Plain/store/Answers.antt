use Rattle.its_direct.proofs.EffectLaws.{core_tidied}
use Rattle.its_direct.proofs.plain.Plain.store.Goals as goal

pub returns-clause-tidy : goal.returns-clause-tidy
returns-clause-tidy c = core_tidied c.args.self.now _ _ _ c.requires.job c.make_stores.ensures c.requires.tidy
