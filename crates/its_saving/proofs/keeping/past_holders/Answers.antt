use Rattle.its_saving.proofs.BoundLaws.{holder_past}
use Rattle.its_saving.proofs.keeping.past_holders.Goals as goal

pub returns : goal.returns
returns c = λ n past. holder_past c.args.w.now.holders c.keep_eight.ensures n past
