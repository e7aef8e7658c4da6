use Rattle.its_direct.proofs.LoadedLaws.{laid_reserved}
use Rattle.its_direct.proofs.lines.words.lay_word.Goals as goal

pub returns-clause-reserved : goal.returns-clause-reserved
returns-clause-reserved c = laid_reserved c.args.core.now c.map_zeros.new.self c.put.new.self c.map_zeros.ensures.reserved c.put.ensures.reserved
