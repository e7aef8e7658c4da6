use Rattle.std.proofs.Common.{ap, ◌∙◌, subst, List}
use Rattle.its_word.specs.Stores.{first_fault}
use Rattle.its_word.specs.declared.plan.Store.{Store}
use Rattle.its_plain.specs.Call.Arguments.{with_new_values}
use Rattle.its_plain.specs.Machine.Change.{effects, in_job}
use Rattle.its_plain.specs.Machine.{core_of}
use Rattle.its_plain.specs.Machine.Own.{with_stores}
use Rattle.its_direct.specs.Effects.{Becomes}
use Rattle.its_direct.specs.Plain.{machine_of}
use Rattle.its_direct.proofs.ActLaws.{job_along, job_still}
use Rattle.its_direct.proofs.MovedLaws.{debts_can, held_fits, went_on}
use Rattle.its_direct.proofs.plain.Plain.go_on.Goals as goal

pub put_held-requires-clause-job : goal.put_held-requires-clause-job
put_held-requires-clause-job c = job_along _ _ c.args.slot c.apply.ensures.row.machine c.requires.carries.job

pub put_held-requires-clause-fits : goal.put_held-requires-clause-fits
put_held-requires-clause-fits c =
    held_fits _ (effects c.args.changes.now c.args.slot (machine_of c.args.self.now)) c.args.slot
    (with_new_values c.args.ask.now c.args.values.now) c.args.held c.apply.ensures.row.machine c.requires.part.held

pub store-requires-clause-job : goal.store-requires-clause-job
store-requires-clause-job c = job_still _ _ c.args.slot _ c.put_held.ensures.row.machine
    (job_along _ _ c.args.slot c.apply.ensures.row.machine c.requires.carries.job)

pub store-requires-clause-can : goal.store-requires-clause-can
store-requires-clause-can c =
    ap (λ (ss : List Store). first_fault (core_of ((machine_of c.put_held.new.self).jobs c.args.slot)) ss) (c.deref.ensures.0 ∙ c.new_values.ensures)
    ∙ debts_can c.apply.new.self c.put_held.new.self (effects c.args.changes.now c.args.slot (machine_of c.args.self.now)) c.args.slot
    (with_new_values c.args.ask.now c.args.values.now) c.args.held _
    c.apply.ensures.row.machine c.requires.carries.job c.put_held.ensures.row.machine c.requires.part.debts

pub returns-clause-row : goal.returns-clause-row
returns-clause-row c =
    went_on c.args.self.now c.apply.new.self c.put_held.new.self c.store.new.self c.args.slot
    (effects c.args.changes.now c.args.slot (machine_of c.args.self.now)) c.args.ask.now c.args.held c.args.values.now
    c.apply.ensures.row c.put_held.ensures.row
    (subst (λ (ss : List Store). Becomes c.put_held.new.self c.store.new.self
    (in_job (machine_of c.put_held.new.self) c.args.slot (with_stores ss))) (c.deref.ensures.0 ∙ c.new_values.ensures) c.store.ensures.row)
