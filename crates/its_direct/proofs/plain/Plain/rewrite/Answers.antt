use Rattle.its_direct.proofs.LineLaws.{rewritten, rewritten_tidy}
use Rattle.its_direct.proofs.plain.Plain.rewrite.Goals as goal

pub returns-clause-done : goal.returns-clause-done
returns-clause-done c = rewritten _ _ _ _ _ _ c.within.ensures c.requires.job c.requires.channels c.put_job.ensures c.touch_only.ensures

pub returns-clause-tidy : goal.returns-clause-tidy
returns-clause-tidy c = rewritten_tidy _ _ _ _ _ _ c.requires.job c.requires.channels c.requires.pc c.put_job.ensures c.touch_only.ensures c.requires.tidy
