use Rattle.its_files.proofs.DirectoryLaws.{helped_unmarked}
use Rattle.its_top.proofs.PerformLaws.{show_performed, show_refused}
use Rattle.its_top.proofs.sessions.filing.find_file.Goals as goal

pub returns-in-Ok-clause-performed : goal.returns-in-Ok-clause-performed
returns-in-Ok-clause-performed c = λ b. show_performed _ b _ _ _ _ _ c.in-Ok.ensures.found c.file.ensures.state
    (helped_unmarked c.args.m.now.world.files _ c.file.ensures.files) c.in-Ok.ensures.file

pub returns-in-Err-clause-performed : goal.returns-in-Err-clause-performed
returns-in-Err-clause-performed c = λ b. show_refused _ b b _ _ _ _ _ c.in-Err.ensures.refused.0 c.in-Err.ensures.refused.1
