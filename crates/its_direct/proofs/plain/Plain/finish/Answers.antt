use Rattle.its_direct.proofs.ActLaws.{job_along, fault_along, job_still, finished}
use Rattle.its_direct.proofs.plain.Plain.finish.Goals as goal

pub store-requires-clause-job : goal.store-requires-clause-job
store-requires-clause-job c = job_along _ _ c.args.slot c.apply.ensures.row.machine c.requires.job

pub store-requires-clause-can : goal.store-requires-clause-can
store-requires-clause-can c = fault_along _ _ c.args.slot c.args.stores.now c.apply.ensures.row.machine c.requires.stores

pub leave-requires-clause-job : goal.leave-requires-clause-job
leave-requires-clause-job c = job_still _ _ c.args.slot _ c.store.ensures.row.machine (job_along _ _ c.args.slot c.apply.ensures.row.machine c.requires.job)

pub returns-clause-row : goal.returns-clause-row
returns-clause-row c = finished c.args.self.now _ _ _ c.args.slot _ c.args.stores.now c.args.exit c.apply.ensures.row c.store.ensures.row c.leave.ensures.row
