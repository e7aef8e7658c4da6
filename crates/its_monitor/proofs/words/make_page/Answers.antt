-- The core alone is another.
use Rattle.std.proofs.Common.{refl}
use Rattle.its_monitor.proofs.PageLaws.{page_becomes}
use Rattle.its_monitor.proofs.words.make_page.Goals as goal

pub returns-clause-made : goal.returns-clause-made
returns-clause-made c = page_becomes c.args.w.now _ c.args.slot _ c.map_zeros.ensures.made c.map_zeros.ensures.reserved refl
