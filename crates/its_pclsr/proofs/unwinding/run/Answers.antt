use Rattle.std.proofs.Common.{sym, ◌∙◌}
use Rattle.its_pclsr.proofs.UnwindingLaws.{unwind_falls, unwind_goes_on, unwind_ends, unwind_keeps}
use Rattle.its_pclsr.proofs.ApartLaws.{off_then}
use Rattle.its_pclsr.proofs.unwinding.run.Goals as goal

pub loop-slot-smaller : goal.loop-slot-smaller
loop-slot-smaller c = unwind_falls _ _ _ (sym c.has_frame.ensures ∙ c.loop-slot-test.true) c.loop-slot.invariant.sound c.step.ensures.row

pub loop-slot-preserved : goal.loop-slot-preserved
loop-slot-preserved c = record {
  sound = unwind_keeps _ _ _ c.loop-slot.invariant.sound c.step.ensures.row;
  cores = off_then _ _ _ _ c.loop-slot.invariant.cores c.step.ensures.cores;
  tidy = c.step.ensures.tidy;
  rest = unwind_goes_on _ _ _ (sym c.has_frame.ensures ∙ c.loop-slot-test.true) c.loop-slot.invariant.sound c.step.ensures.row ∙ c.loop-slot.invariant.rest;
}

pub returns-clause-row : goal.returns-clause-row
returns-clause-row c = sym (unwind_ends _ _ (sym c.has_frame.ensures ∙ c.loop-slot-test.false)) ∙ c.loop-slot.invariant.rest
