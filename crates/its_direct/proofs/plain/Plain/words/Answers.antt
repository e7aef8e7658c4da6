use Rattle.its_direct.proofs.ShownLaws.{words_found}
use Rattle.its_direct.proofs.plain.Plain.words.Goals as goal

pub returns-in-Some-words_from-clause-shown : goal.returns-in-Some-words_from-clause-shown
returns-in-Some-words_from-clause-shown c =
    words_found c.args.self.now c.args.slot c.args.a c.args.n _ _ _ _ c.job.ensures c.in-Some.is c.words_from.ensures c.in-Some-words_from.is
