use Rattle.std.proofs.Common.{◌∷◌, []}
use Rattle.its_plain.specs.Call.Arguments.{with_new_values}
use Rattle.its_plain.specs.Machine.Change.{effect}
use Rattle.its_decide.specs.Moving.{change_of}
use Rattle.its_direct.specs.Plain.{machine_of}
use Rattle.its_direct.proofs.ActLaws.{job_along, job_still}
use Rattle.its_direct.proofs.MovedLaws.{debts_can, held_fits, went_on}
use Rattle.its_direct.proofs.plain.Plain.move_one.Goals as goal

pub shift-requires-clause-can : goal.shift-requires-clause-can
shift-requires-clause-can c = let can = c.requires.carries.can in can.0

pub put_held-requires-clause-job : goal.put_held-requires-clause-job
put_held-requires-clause-job c = job_along _ _ c.args.slot c.shift.ensures.row.machine c.requires.carries.job

pub put_held-requires-clause-fits : goal.put_held-requires-clause-fits
put_held-requires-clause-fits c =
    held_fits _ (effect (change_of c.args.moved.now.shift) c.args.slot (machine_of c.args.self.now)) c.args.slot
    (with_new_values c.args.ask.now (c.args.moved.now.next ∷ c.args.moved.now.left ∷ [])) c.args.moved.now.held
    c.shift.ensures.row.machine c.requires.part.held

pub store_two-requires-clause-job : goal.store_two-requires-clause-job
store_two-requires-clause-job c = job_still _ _ c.args.slot _ c.put_held.ensures.row.machine
    (job_along _ _ c.args.slot c.shift.ensures.row.machine c.requires.carries.job)

pub store_two-requires-clause-can : goal.store_two-requires-clause-can
store_two-requires-clause-can c =
    debts_can c.shift.new.self c.put_held.new.self (effect (change_of c.args.moved.now.shift) c.args.slot (machine_of c.args.self.now))
    c.args.slot (with_new_values c.args.ask.now (c.args.moved.now.next ∷ c.args.moved.now.left ∷ [])) c.args.moved.now.held _
    c.shift.ensures.row.machine c.requires.carries.job c.put_held.ensures.row.machine c.requires.part.debts

pub returns-clause-row : goal.returns-clause-row
returns-clause-row c =
    went_on c.args.self.now c.shift.new.self c.put_held.new.self c.store_two.new.self c.args.slot
    (effect (change_of c.args.moved.now.shift) c.args.slot (machine_of c.args.self.now)) c.args.ask.now c.args.moved.now.held
    (c.args.moved.now.next ∷ c.args.moved.now.left ∷ [])
    c.shift.ensures.row c.put_held.ensures.row c.store_two.ensures.row
