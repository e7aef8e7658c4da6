use Rattle.std.proofs.Common.{refl}
use Rattle.its_saved.specs.StateLine as state
use Rattle.its_saving.proofs.WritingLaws.{writes_line}
use Rattle.its_saving.proofs.jobs.write_symbol.Goals as goal

pub returns : goal.returns
returns g c = writes_line _ _ _ _ _ (state.Symbol c.args.s c.args.symbol.0 c.args.symbol.1) _ refl c.write_line.ensures
