use Rattle.std.proofs.Common.{◌<◌, ℕ, Some, ap, refl, subst, sym, ◌∙◌}
use Rattle.its_records.specs.declared.jobs.Job.{Job}
use Rattle.its_core.specs.Cores.{core_at}
use Rattle.pdp_exec.specs.Units.{after_unit, left}
use Rattle.its_direct.specs.declared.plain.Plain.{Plain}
use Rattle.its_direct.proofs.SeriesLaws.{due_left, due_spent, series_jobs, series_made, series_tidy}
use Rattle.its_direct.proofs.SlotLaws.{core_becomes}
use Rattle.its_direct.proofs.TouchLaws.{none_touched}
use Rattle.its_direct.proofs.plain.Plain.units.Goals as goal

pub returns-clause-series : goal.returns-clause-series
returns-clause-series c =
    let a = core_becomes c.args.self.now _ _ _ (record { here = refl; others = c.run_units-made.ensures.others })
    c.run_units-made.ensures.reserved refl (record { is = refl }) in
    series_made c.args.self.now _ _ c.touch_none.new.self c.args.slot c.run_units-made.result c.args.job _ _ c.requires.job c.requires.runs
    a c.put_job.ensures c.touch_none.ensures c.run_units-made.ensures.left

pub returns-clause-jobs : goal.returns-clause-jobs
returns-clause-jobs c =
    let a = core_becomes c.args.self.now _ _ _ (record { here = refl; others = c.run_units-made.ensures.others })
    c.run_units-made.ensures.reserved refl (record { is = refl }) in
    series_jobs c.args.self.now _ _ c.touch_none.new.self c.args.slot c.run_units-made.result c.args.job _ _ c.requires.job c.requires.runs
    a c.put_job.ensures c.touch_none.ensures c.run_units-made.ensures.left

pub returns-clause-touched : goal.returns-clause-touched
returns-clause-touched c = λ some. none_touched c.touch_none.new.self.touched (ap (λ (p : Plain). p.touched) c.touch_none.ensures)

pub returns-clause-tidy : goal.returns-clause-tidy
returns-clause-tidy c =
    let a = core_becomes c.args.self.now _ _ _ (record { here = refl; others = c.run_units-made.ensures.others })
    c.run_units-made.ensures.reserved refl (record { is = refl }) in
    series_tidy c.args.self.now _ _ c.touch_none.new.self c.args.slot c.run_units-made.result c.args.job _ _ c.requires.job c.requires.runs
    a c.put_job.ensures c.touch_none.ensures c.run_units-made.ensures.left c.run_units-made.ensures.pc c.requires.tidy

pub returns-clause-most : goal.returns-clause-most
returns-clause-most c = λ less.
    let a = core_becomes c.args.self.now _ _ _ (record { here = refl; others = c.run_units-made.ensures.others })
    c.run_units-made.ensures.reserved refl (record { is = refl }) in
    due_left c.args.self.now _ _ c.touch_none.new.self c.args.slot _ _ a c.put_job.ensures c.touch_none.ensures (c.run_units-made.ensures.most less)

pub returns-then-made-eq0-clause-most : goal.returns-then-made-eq0-clause-most
returns-then-made-eq0-clause-most c = λ less.
    due_spent _ c.args.slot c.args.job c.requires.job
    (ap (λ (i : Job). after_unit (Some (left (core_at c.run_units-made.new.core c.args.slot) i)))
    (sym (c.run_units-made.ensures.same c.if-made-eq0.true).1)
    ∙ c.run_units-made.ensures.most (subst (λ (k : ℕ). k < c.args.n) (sym c.if-made-eq0.true) less))
