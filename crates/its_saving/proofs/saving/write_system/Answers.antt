use Rattle.its_saving.proofs.WritableLaws.{writable}
use Rattle.its_saving.proofs.WritingLaws.{all_put, begun_put, cause_put}
use Rattle.its_saving.proofs.saving.write_system.Goals as goal

pub write_to_ready-requires : goal.write_to_ready-requires
write_to_ready-requires g c = record { writable = writable c.args.w.now c.requires.kept c.requires.settled }

pub returns-clause-all : goal.returns-clause-all
returns-clause-all g c = all_put _ _ _ _ _ _ c.write_to_ready.ensures

pub returns-clause-begun : goal.returns-clause-begun
returns-clause-begun g c = begun_put _ _ _ _ _ _ c.write_to_ready.ensures

pub returns-clause-cause : goal.returns-clause-cause
returns-clause-cause g c = cause_put _ _ _ _ _ _ c.write_to_ready.ensures
