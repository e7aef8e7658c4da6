use Rattle.std.proofs.Common.{Ok, ap, sym, ◌∙◌}
use Rattle.its_core.specs.Cores.{core_at}
use Rattle.its_stepped.specs.TwoParts.{fetch_by, fetch_of}
use Rattle.its_decode.proofs.AskLaws.{both_parts}
use Rattle.its_decode.proofs.asking.fetch_site.Goals as goal

pub returns-in-Some-clause-asks : goal.returns-in-Some-clause-asks
unfolding fetch_of
returns-in-Some-clause-asks c =
    both_parts _ _ _ _ (ap (fetch_by (core_at c.args.core.now c.args.slot) c.args.site.now c.args.block.now) c.in-Some.is ∙ ap Ok (sym c.ask_iot.ensures))

pub returns-in_ok-fetch_ask-in-None-clause-asks : goal.returns-in_ok-fetch_ask-in-None-clause-asks
unfolding fetch_of
returns-in_ok-fetch_ask-in-None-clause-asks c =
    both_parts _ _ _ _ (ap (fetch_by (core_at c.args.core.now c.args.slot) c.args.site.now c.args.block.now) c.in-None.is
    ∙ c.in_ok-fetch_ask-in-None.ensures.fetched)
