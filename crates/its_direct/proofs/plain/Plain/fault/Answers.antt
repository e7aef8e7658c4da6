use Rattle.std.proofs.Common.{ap, ◌∙◌, bit_or, ℕ}
use Rattle.its_direct.proofs.CallStepLaws.{fault_row, fault_tidy}
use Rattle.its_direct.proofs.plain.Plain.fault.Goals as goal

pub returns-clause-row : goal.returns-clause-row
returns-clause-row c =
    fault_row c.args.self.now c.put_job.new.self c.touch_none.new.self c.args.slot c.args.job _ c.args.fault c.requires.job
    (ap (λ (n : ℕ). record c.args.job { pend1 = n }) (c.bitor.ensures ∙ ap (λ (n : ℕ). bit_or c.args.job.pend1 n) c.bit.ensures))
    c.put_job.ensures c.touch_none.ensures

pub returns-clause-tidy : goal.returns-clause-tidy
returns-clause-tidy c =
    fault_tidy c.args.self.now c.put_job.new.self c.touch_none.new.self c.args.slot c.args.job _ c.args.fault c.requires.job
    (ap (λ (n : ℕ). record c.args.job { pend1 = n }) (c.bitor.ensures ∙ ap (λ (n : ℕ). bit_or c.args.job.pend1 n) c.bit.ensures))
    c.put_job.ensures c.touch_none.ensures c.requires.tidy
