use Rattle.std.proofs.Common.{◌<◌, ℕ, ap, is_some, subst, sym}
use Rattle.its_direct.specs.Plain.{machine_of}
use Rattle.its_direct.specs.declared.plain.Plain.{Plain}
use Rattle.its_direct.proofs.InPlaceLaws.{in_due, in_jobs, in_place, in_series, in_tidy, in_touched, job_runs, none_due}
use Rattle.its_direct.proofs.plain.Plain.units_made.Goals as goal

pub units_in_place-made-requires-clause-pc : goal.units_in_place-made-requires-clause-pc
units_in_place-made-requires-clause-pc c = c.requires.tidy.addressed c.args.slot

pub returns-then-made-eq0-clause-most : goal.returns-then-made-eq0-clause-most
returns-then-made-eq0-clause-most c = λ less.
    none_due c.args.self.now c.units_in_place-made.new.self c.args.slot c.units_in_place-made.result c.args.n
    c.units_in_place-made.ensures.made (subst (λ (k : ℕ). k < c.args.n) (sym c.if-made-eq0.true) less)

pub returns-then-made-eq0-clause-series : goal.returns-then-made-eq0-clause-series
returns-then-made-eq0-clause-series c = ap machine_of (c.units_in_place-made.ensures.same c.if-made-eq0.true)

pub returns-then-made-eq0-clause-jobs : goal.returns-then-made-eq0-clause-jobs
returns-then-made-eq0-clause-jobs c = λ k. ap (λ (p : Plain). is_some ((machine_of p).jobs k)) (c.units_in_place-made.ensures.same c.if-made-eq0.true)

pub returns-clause-most : goal.returns-clause-most
returns-clause-most c = λ less.
    in_due c.args.self.now c.units_in_place-made.new.self c.touch_none.new.self c.args.slot c.units_in_place-made.result c.args.n
    c.units_in_place-made.ensures.made c.touch_none.ensures less

pub returns-clause-series : goal.returns-clause-series
returns-clause-series c =
    in_series c.args.self.now c.units_in_place-made.new.self c.touch_none.new.self c.args.slot c.units_in_place-made.result c.args.n
    c.units_in_place-made.ensures.made c.touch_none.ensures
    (job_runs c.args.self.now c.units_in_place-made.new.self c.args.slot c.units_in_place-made.result c.args.n
    c.units_in_place-made.ensures.made c.requires.runs)

pub returns-clause-jobs : goal.returns-clause-jobs
returns-clause-jobs c = in_jobs c.args.self.now c.units_in_place-made.new.self c.touch_none.new.self c.args.slot
    c.units_in_place-made.result c.args.n c.units_in_place-made.ensures.made c.touch_none.ensures

pub returns-clause-touched : goal.returns-clause-touched
returns-clause-touched c = λ some.
    in_touched c.args.self.now c.units_in_place-made.new.self c.touch_none.new.self c.args.slot c.units_in_place-made.result c.args.n
    c.units_in_place-made.ensures.made c.touch_none.ensures

pub returns-clause-place : goal.returns-clause-place
returns-clause-place c = in_place c.args.self.now c.units_in_place-made.new.self c.touch_none.new.self c.args.slot
    c.units_in_place-made.result c.args.n c.units_in_place-made.ensures.made c.touch_none.ensures

pub returns-clause-tidy : goal.returns-clause-tidy
returns-clause-tidy c =
    in_tidy c.args.self.now c.units_in_place-made.new.self c.touch_none.new.self c.args.slot c.units_in_place-made.result c.args.n
    c.units_in_place-made.ensures.made c.touch_none.ensures c.requires.tidy
