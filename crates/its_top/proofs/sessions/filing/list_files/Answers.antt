use Rattle.its_top.proofs.PerformLaws.{dir_performed}
use Rattle.its_top.proofs.sessions.filing.list_files.Goals as goal

pub returns-clause-performed : goal.returns-clause-performed
returns-clause-performed c = λ b. dir_performed _ b _ _ _ c.count_files-count.ensures.state c.count_files-count.ensures.count
    c.count_files-count.ensures.unmarked
