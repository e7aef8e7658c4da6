use Rattle.std.proofs.Common.{refl}
use Rattle.its_saved.specs.StateLine as state
use Rattle.its_saving.proofs.WritingLaws.{writes_line}
use Rattle.its_saving.proofs.channels.write_tty.Goals as goal

pub returns : goal.returns
returns g c = writes_line _ _ _ _ _ (state.Tty c.args.s c.args.n c.args.write) _ refl c.write_line.ensures
