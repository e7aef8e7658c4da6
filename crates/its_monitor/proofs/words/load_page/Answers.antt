use Rattle.its_monitor.proofs.PageLaws.{page_then_store}
use Rattle.its_monitor.proofs.words.load_page.Goals as goal

pub returns-clause-loaded : goal.returns-clause-loaded
returns-clause-loaded c = page_then_store c.args.w.now c.make_page.new.w c.store.new.self c.args.slot c.args.a _ _ c.make_page.ensures.made c.store.ensures
