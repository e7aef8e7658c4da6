use Rattle.std.proofs.Common.{List, ◌-◌, arith, ap, sym, ◌∙◌, drop, length, take}
use Rattle.arrayvec.specs.ArrayVec.{array_vec_len}
use Rattle.its_records.specs.declared.calls.Pace.TheVariants.{Step}
use Rattle.its_print.specs.declared.runs.Run.{Run}
use Rattle.its_print.proofs.PutLaws.{run_ends, run_goes_on, run_length, runs_begin, runs_length}
use Rattle.its_print.proofs.put.put_runs.Goals as goal
use Rattle.its_print.proofs.put.put_runs.Goals.{then-next-last, else-next-last}

abbrev none : Run
none = record { pace = Step; more = 0 }

pub loop-run-init : goal.loop-run-init
loop-run-init c =
    let all = runs_length c.args.runs.now none c.in-len1-up.len_at_least in
    record {
      text = runs_begin _ _ c.args.runs.now none c.in-len1-up.len_at_least c.letter-last.ensures;
      some = omega arith;
      few = omega (arith, all, c.requires.few);
      len = omega (arith, all, c.requires.few);
    }

pub loop-run-preserved : goal.loop-run-preserved
loop-run-preserved c =
    let rest : List Run = take (length c.args.runs.now - 1) (drop 1 c.args.runs.now) in
    let more = run_length rest c.loop-run.run-index none c.loop-run-test.true in
    elim c.if-next-last.branch [
      | then-next-last w ↦
          (let same = run_goes_on c.loop-run.count c.loop-run.last rest c.loop-run.run-index none c.loop-run-test.true
          (sym c.letter-next.ensures ∙ w.if-next-last.true) in
          record { text = cc; some = omega arith; few = omega (arith, more); len = omega (arith, more, ap array_vec_len w.out-is) })
      | else-next-last w ↦
          (let other = run_ends c.loop-run.out.items c.loop-run.count c.loop-run.last rest c.loop-run.run-index none c.loop-run-test.true
          (λ e. w.if-next-last.false (c.letter-next.ensures ∙ e)) in
          record { text = cc; some = omega arith; few = omega (arith, more); len = omega (arith, more, ap array_vec_len w.out-is) })
    ]
