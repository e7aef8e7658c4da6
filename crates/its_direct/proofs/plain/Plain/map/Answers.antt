use Rattle.its_direct.proofs.EffectLaws.{made_tidied}
use Rattle.its_direct.proofs.plain.Plain.map.Goals as goal

pub returns-clause-tidy : goal.returns-clause-tidy
returns-clause-tidy c = made_tidied c.args.self.now _ _ c.args.page _ c.requires.can c.new_page.ensures c.requires.tidy
