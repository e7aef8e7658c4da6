use Rattle.its_saved.specs.Saving.{registers_of}
use Rattle.its_saved.specs.StateLine as state
use Rattle.its_saving.proofs.WritingLaws.{writes_line}
use Rattle.its_saving.proofs.jobs.write_registers.Goals as goal

pub returns : goal.returns
returns g c = writes_line _ _ _ _ _ (state.Regs c.args.s (registers_of c.args.job.now)) _ c.regs_of.ensures c.write_line.ensures
