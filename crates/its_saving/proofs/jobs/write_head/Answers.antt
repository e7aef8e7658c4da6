use Rattle.its_saved.specs.StateLine as state
use Rattle.its_saving.proofs.WritingLaws.{writes_line}
use Rattle.its_saving.proofs.jobs.write_head.Goals as goal

pub returns : goal.returns
returns g c = writes_line _ _ _ _ _ (state.Job c.args.s c.args.job.now.uname c.args.job.now.jname c.args.job.now.console) _ c.head_of.ensures
    c.write_line.ensures
