use Rattle.std.proofs.Common.{arith, sym, ◌∙◌}
use Rattle.its_saving.proofs.BoundLaws.{link_none, link_words}
use Rattle.its_saving.proofs.keeping.keep_link.Goals as goal

pub returns-in-Some : goal.returns-in-Some
returns-in-Some c = link_words c.args.pipes.now c.args.l _ _ (sym c.link.ensures ∙ c.in-Some.is) c.keep_link_names.ensures.x c.keep_link_names.ensures.y
    (let n = c.words_waiting.ensures.count in omega arith) c.keep_sent.ensures

pub returns-in-None : goal.returns-in-None
returns-in-None c = link_none c.args.pipes.now c.args.l (sym c.link.ensures ∙ c.in-None.is)
