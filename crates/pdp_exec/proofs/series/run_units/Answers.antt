use Rattle.std.proofs.Common.{◌∙◌, ◌≡◌, Bool, Some, None, arith, if◌then◌else◌, subst}
use Rattle.its_core.specs.Cores.{core_at}
use Rattle.pdp_exec.specs.Units.{after_unit, left}
use Rattle.pdp_exec.proofs.SeriesLaws.{units_next}
use Rattle.pdp_exec.proofs.series.run_units.Goals as goal

pub loop-made-preserved : goal.loop-made-preserved
loop-made-preserved c = record {
  pc = c.run_next.ensures.pc;
  left =
      units_next c.loop-made.made _ _ _ c.loop-made.invariant.left
      (subst (λ (b : Bool). after_unit (Some (left (core_at c.loop-made.core c.args.slot) c.loop-made.job)) ≡
      (if b then Some (left (core_at c.run_next.new.core c.args.slot) c.run_next.new.job) else None))
      c.if-not-run_next.false c.run_next.ensures.left);
  same = λ z. absurd (omega (arith, z));
  others = λ k ne. c.run_next.ensures.others k ne ∙ c.loop-made.invariant.others k ne;
  reserved = c.run_next.ensures.reserved ∙ c.loop-made.invariant.reserved;
  frames = c.run_next.ensures.frames ∙ c.loop-made.invariant.frames;
}
