use Rattle.std.proofs.Common.{refl}
use Rattle.its_saved.specs.StateLine as state
use Rattle.its_saving.proofs.WritingLaws.{writes_line}
use Rattle.its_saving.proofs.jobs.write_period.Goals as goal

pub returns : goal.returns
returns g c = writes_line _ _ _ _ _ (state.Alarm c.args.s c.args.alarm) _ refl c.write_line.ensures
