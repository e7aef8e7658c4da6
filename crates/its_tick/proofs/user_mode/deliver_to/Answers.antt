use Rattle.std.specs.Prelude.{IfSome}
use Rattle.std.proofs.Common.{sym, ◌∙◌, ap, subst}
use Rattle.its_jobs.specs.Table.{job_at}
use Rattle.its_world.specs.World.{state_of, JobBecomes}
use Rattle.its_world.specs.Tidy.{Tidy}
use Rattle.its_world.specs.declared.world.World.{World}
use Rattle.its_tick.specs.Ticks.{with_channels}
use Rattle.its_tick.proofs.UserLaws.{delivery_done, some_is, stop_done, stop_sound, stop_stands}
use Rattle.its_tick.proofs.user_mode.deliver_to.Goals.{then-run_delivery, else-run_delivery}
use Rattle.its_commit.proofs.TidyLaws.{becomes_pages}
use Rattle.its_tick.proofs.FramesLaws.{stop_frames, quiet_frames}
use Rattle.its_tick.proofs.user_mode.deliver_to.Goals as goal

pub run_delivery-requires-clause-some : goal.run_delivery-requires-clause-some
run_delivery-requires-clause-some c = some_is _ _ c.requires.job

pub tell_superior-requires-clause-sound : goal.tell_superior-requires-clause-sound
tell_superior-requires-clause-sound c =
    stop_sound _ _ _ _ c.run_delivery.ensures.core (sym c.run_delivery.ensures.stops ∙ c.if-run_delivery.true) c.requires.kept

pub put_back-requires-clause-some : goal.put_back-requires-clause-some
put_back-requires-clause-some c = elim c.if-run_delivery.branch [
  | then-run_delivery w ↦
      stop_stands _ _ _ _ _ c.requires.job c.requires.frame c.requires.kept c.run_delivery.ensures.core
      (sym c.run_delivery.ensures.stops ∙ w.if-run_delivery.true) (ap state_of w.w-is ∙ w.tell_superior.ensures.row)
  | else-run_delivery w ↦ some_is _ _ (ap (λ (x : World). job_at x.jobs c.args.slot) w.w-is ∙ c.run_delivery.ensures.core.job.here ∙ c.requires.job)
]

pub put_back-requires-clause-tidy : goal.put_back-requires-clause-tidy
put_back-requires-clause-tidy c = elim c.if-run_delivery.branch [
  | then-run_delivery w ↦ subst Tidy (sym w.w-is) w.tell_superior.ensures.tidy
  | else-run_delivery w ↦ subst Tidy (sym w.w-is) c.run_delivery.ensures.tidy
]

pub returns-clause-row : goal.returns-clause-row
returns-clause-row c = elim c.if-run_delivery.branch [
  | then-run_delivery w ↦
      stop_done _ _ _ _ _ _ _ c.requires.job c.requires.frame c.requires.kept c.run_delivery.ensures.core
      (sym c.run_delivery.ensures.stops ∙ w.if-run_delivery.true)
      (ap state_of w.w-is ∙ w.tell_superior.ensures.row) c.run_delivery.ensures.job c.put_back.ensures.registers
  | else-run_delivery w ↦
      delivery_done _ _ _ _ _ _ c.requires.job c.requires.frame c.run_delivery.ensures.core c.run_delivery.ensures.job
      (subst (λ (x : World). IfSome (job_at x.jobs c.args.slot)
      (λ k. JobBecomes x c.put_back.new.w c.args.slot (with_channels k.channels c.run_delivery.new.job))) w.w-is c.put_back.ensures.registers)
      (sym c.run_delivery.ensures.stops ∙ w.if-run_delivery.false)
]

pub returns-clause-pages : goal.returns-clause-pages
returns-clause-pages c = elim c.if-run_delivery.branch [
  | then-run_delivery w ↦
      stop_frames c.args.w.now c.run_delivery.new.w c.args.slot c.args.job _ c.requires.job c.run_delivery.ensures.core
      (sym c.run_delivery.ensures.stops ∙ w.if-run_delivery.true)
      (c.put_back.ensures.pages ∙ ap (λ (x : World). x.core.frames) w.w-is ∙ w.tell_superior.ensures.pages)
  | else-run_delivery w ↦
      quiet_frames c.args.w.now c.args.slot c.args.job _ c.requires.job (sym c.run_delivery.ensures.stops ∙ w.if-run_delivery.false)
      (c.put_back.ensures.pages ∙ ap (λ (x : World). x.core.frames) w.w-is ∙ becomes_pages _ _ _ _ _ _ c.run_delivery.ensures.core)
]
