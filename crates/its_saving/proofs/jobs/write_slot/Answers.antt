use Rattle.std.proofs.Common.{None, refl, sym, ◌∙◌}
use Rattle.its_saving.specs.Parts.{jobs_lines}
use Rattle.its_saving.proofs.WritingLaws.{none_at, writes_at}
use Rattle.its_saving.proofs.jobs.write_slot.Goals as goal

pub returns-in-Some : goal.returns-in-Some
returns-in-Some g c = writes_at _ _ (jobs_lines c.args.w.now c.args.s) _ _ _ _ _ (sym c.in-Some.is ∙ c.registers.ensures) c.write_job.ensures

pub returns-in-None : goal.returns-in-None
returns-in-None g c = none_at _ _ (jobs_lines c.args.w.now c.args.s) _ _ None _ (sym c.in-None.is ∙ c.registers.ensures) refl
