use Rattle.std.proofs.Common.{ap, ◌∙◌}
use Rattle.std.proofs.lemmas.Result.{err_from_is_err_and}
use Rattle.its_core.specs.Cores.{core_at}
use Rattle.its_stepped.specs.TwoParts.{parse_by, parse_of}
use Rattle.its_decode.proofs.AskLaws.{unparsed}
use Rattle.its_decode.proofs.asking.parse_site.Goals as goal

pub returns-in_err-parse_block-in-None-clause-ask : goal.returns-in_err-parse_block-in-None-clause-ask
unfolding parse_of
returns-in_err-parse_block-in-None-clause-ask c =
    let p = err_from_is_err_and c.from_residual.result c.from_residual.ensures.1 in
    rw (p.1, p.2) (unparsed _ _ _ (ap (parse_by (core_at c.args.core.now c.args.slot) c.args.site.now) c.in-None.is
    ∙ c.in_err-parse_block-in-None.ensures.fault))
