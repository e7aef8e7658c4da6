use Rattle.std.proofs.Common.{arith, refl, sym}
use Rattle.its_saved.specs.StateLine as state
use Rattle.its_saving.specs.Parts.{bytes_of}
use Rattle.its_saving.proofs.RowLaws.{nth_row, rows_each}
use Rattle.its_saving.proofs.WritingLaws.{each_all, each_cut, each_next, none_written, writes_at}
use Rattle.its_saving.proofs.consoles.write_bytes.Goals as goal

pub loop-row-init : goal.loop-row-init
loop-row-init g c = none_written _ _ _

pub loop-row-preserved : goal.loop-row-preserved
loop-row-preserved g c = each_next _ _ (nth_row (state.Bytes c.args.c c.args.output) 32 (bytes_of c.args.output c.args.console.now)) _ _ _ _ _ _ _
    refl c.loop-row.invariant c.in_ok-write_row.was c.write_row.ensures

pub returns : goal.returns
returns g c = writes_at _ _ (λ ls. ls) _ _ _ _ _ (sym
    (rows_each (state.Bytes c.args.c c.args.output) 32 (2) c.rows_of_bytes-row-end.result (bytes_of c.args.output c.args.console.now)
    (omega (arith, c.rows_of_bytes-row-end.ensures.least, c.waiting.ensures.count, c.waiting.ensures.most))
    (omega (arith, c.rows_of_bytes-row-end.ensures.within, c.waiting.ensures.count, c.waiting.ensures.most))
    (omega (arith, c.rows_of_bytes-row-end.ensures.least, c.waiting.ensures.count, c.waiting.ensures.most))))
    (each_all _ _ (nth_row (state.Bytes c.args.c c.args.output) 32 (bytes_of c.args.output c.args.console.now)) _ _ _ c.loop-row.row
    c.rows_of_bytes-row-end.result c.loop-row.invariant (omega (arith, c.loop-row-test.false)) (omega (arith, c.loop-row.auto.row-end)))

pub returns-in_err-write_row : goal.returns-in_err-write_row
returns-in_err-write_row g c = writes_at _ _ (λ ls. ls) _ _ _ _ _
    (sym (rows_each (state.Bytes c.args.c c.args.output) 32 (2) c.rows_of_bytes-row-end.result (bytes_of c.args.output c.args.console.now)
    (omega (arith, c.rows_of_bytes-row-end.ensures.least, c.waiting.ensures.count, c.waiting.ensures.most))
    (omega (arith, c.rows_of_bytes-row-end.ensures.within, c.waiting.ensures.count, c.waiting.ensures.most))
    (omega (arith, c.rows_of_bytes-row-end.ensures.least, c.waiting.ensures.count, c.waiting.ensures.most))))
    (each_cut _ _ (nth_row (state.Bytes c.args.c c.args.output) 32 (bytes_of c.args.output c.args.console.now)) _ _ _ _ _ _ _ _
    c.rows_of_bytes-row-end.result refl c.loop-row.invariant c.in_err-write_row.was c.write_row.ensures (omega (arith, c.loop-row-test.true))
    c.from_residual.ensures.0)
