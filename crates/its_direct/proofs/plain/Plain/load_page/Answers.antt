use Rattle.std.proofs.Common.{refl}
use Rattle.its_direct.proofs.LoadedLaws.{page_becomes}
use Rattle.its_direct.proofs.plain.Plain.load_page.Goals as goal

pub returns : goal.returns
returns c = page_becomes c.args.self.now _ _ _ c.lay_word.ensures.core c.lay_word.ensures.reserved refl (record { is = refl })
