use Rattle.its_direct.proofs.LoadLaws.{placed_tidy}
use Rattle.its_direct.proofs.SlotLaws.{touched_tidy}
use Rattle.its_direct.proofs.StateLaws.{restores_job, restores_job_refused}
use Rattle.its_direct.proofs.plain.Plain.tell_job.Goals as goal

pub returns-in-Ok-clause-restores : goal.returns-in-Ok-clause-restores
returns-in-Ok-clause-restores c =
    restores_job c.args.self.now c.last_named-d.result.0 _ c.last_named-d.ensures c.make_job_at.new.self
    c.set_place.new.self c.touch_only.new.self c.args.s c.args.u c.args.j c.args.console c.within.ensures c.in-Ok.ensures.done c.set_place.ensures
    c.touch_only.ensures

pub returns-in-Err-clause-restores : goal.returns-in-Err-clause-restores
returns-in-Err-clause-restores c =
    restores_job_refused c.args.self.now c.make_job_at.new.self c.args.s c.args.u c.args.j c.args.console _ c.in-Err.ensures.refused

pub returns-in-Ok-clause-tidy : goal.returns-in-Ok-clause-tidy
returns-in-Ok-clause-tidy c = touched_tidy _ _ _ c.touch_only.ensures (placed_tidy _ _ _ c.set_place.ensures c.make_job_at.ensures.tidy)
