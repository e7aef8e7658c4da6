use Rattle.std.proofs.Common.{refl}
use Rattle.its_saved.specs.StateLine as state
use Rattle.its_saving.proofs.WritingLaws.{writes_line}
use Rattle.its_saving.proofs.jobs.write_under.Goals as goal

pub returns : goal.returns
returns g c = writes_line _ _ _ _ _ (state.Under c.args.s c.args.t) _ refl c.write_line.ensures
