use Rattle.std.proofs.Common.{rules}
use Rattle.its_saving.proofs.BoundLaws.{three_below}
use Rattle.its_saving.proofs.keeping.keep_three.Goals as goal

pub returns : goal.returns
returns c =
    let w = c.well_formed in
    three_below c.args.words _ _ _ _ _ _ (search rules) c.value.ensures.value c.value.ensures.below c.value-2.ensures.value c.value-2.ensures.below
    c.value-3.ensures.value c.value-3.ensures.below
