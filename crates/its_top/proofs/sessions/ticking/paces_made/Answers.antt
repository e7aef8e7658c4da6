use Rattle.std.proofs.Common.{◌≤◌, ◌+◌, ◌∙◌, refl, sym, ap, arith, length}
use Rattle.its_print.specs.Runs.{paces_in}
use Rattle.its_records.specs.declared.calls.Pace.TheVariants.{Off}
use Rattle.its_top.proofs.PaceLaws.{pacing_as, runs_start, same_letter, same_pace, other_letter}
use Rattle.its_top.proofs.sessions.ticking.paces_made.Goals.{then-eq, else-eq}
use Rattle.its_top.proofs.sessions.ticking.paces_made.Goals as goal

pub loop-made-init : goal.loop-made-init
loop-made-init c = record {
  sound = c.requires.sound;
  few = omega arith;
  room = omega (arith, ap length c.requires.empty);
  so_far = runs_start _ _ _ _ Off c.requires.empty;
}

pub loop-made-preserved : goal.loop-made-preserved
loop-made-preserved c =
    let few : c.loop-made.made + (1 + c.run_of-run.result.more) ≤ c.args.n = omega (arith, c.run_of-run.ensures.few, c.loop-made.invariant.few) in
    elim c.if-eq.branch [
      | then-eq w ↦
          (let so = same_letter _ _ _ _ _ _ _ _ _ c.run_of-run.result few c.loop-made.invariant.so_far c.run_of-run.ensures.state
          c.run_of-run.ensures.paces (same_pace _ _ (sym c.eq.ensures ∙ w.if-eq.true)) in
          record {
            sound = c.run_of-run.ensures.sound;
            few = few;
            room = omega (arith, w.count-is, ap (λ rs. length rs.items) w.runs-is, c.loop-made.invariant.room);
            so_far =
                pacing_as _ _ _ _ _ _ _ _ _ _ _ _ so refl (ap (λ rs. paces_in rs.items) w.runs-is) w.count-is w.last-is;
          })
      | else-eq w ↦
          (let so = other_letter _ _ _ _ _ _ _ _ _ _ c.run_of-run.result few c.loop-made.invariant.so_far c.run_of-run.ensures.state
          c.run_of-run.ensures.paces w.put_run.ensures.paces in
          record {
            sound = c.run_of-run.ensures.sound;
            few = few;
            room = omega (arith, w.count-is, w.put_run.ensures.few, ap (λ rs. length rs.items) w.runs-is, c.loop-made.invariant.room);
            so_far = pacing_as _ _ _ _ _ _ _ _ _ _ _ _ so refl (ap (λ rs. paces_in rs.items) w.runs-is) w.count-is w.last-is;
          })
    ]
