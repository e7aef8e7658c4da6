use Rattle.std.proofs.Common.{◌≡◌, ◌+◌, take}
use Rattle.its_print.specs.Runs.{paces_in}
use Rattle.its_top.specs.Generating.{marks}
use Rattle.its_top.proofs.TallyLaws.{marked_few, marked_next}
use Rattle.its_top.proofs.commands.generating.marks.Goals as goal

pub loop-run-preserved : goal.loop-run-preserved
loop-run-preserved c =
    let more : c.loop-run.count + c.mark-count.result ≡ marks (paces_in (take (c.loop-run.run-index + 1) c.args.runs.now)) =
    marked_next c.args.runs.now c.loop-run.run-index c.loop-run.count c.mark-count.result _ c.loop-run-test.true c.mark-count.ensures.count
    c.loop-run.invariant.count in
    record { count = more; few = marked_few c.args.runs.now (c.loop-run.run-index + 1) _ c.requires.few more }
