use Rattle.std.proofs.Common.{arith, length, refl, sym}
use Rattle.its_files.specs.Files.{names_at, words_at}
use Rattle.its_saved.specs.StateLine as state
use Rattle.its_saving.proofs.RowLaws.{nth_row, rows_each}
use Rattle.its_saving.proofs.WritingLaws.{each_all, each_cut, each_next, none_written, writes_at}
use Rattle.its_saving.proofs.files.write_words.Goals as goal

pub loop-row-init : goal.loop-row-init
loop-row-init g c = none_written _ _ _

pub loop-row-preserved : goal.loop-row-preserved
loop-row-preserved g c = each_next _ _ (nth_row (state.FileWords (names_at c.args.files.now c.args.id)) 16 (words_at c.args.files.now c.args.id)) _ _
    _ _ _ _ _ refl c.loop-row.invariant c.in_ok-write_row.was c.write_row.ensures

pub returns : goal.returns
returns g c = writes_at _ _ (λ ls. ls) _ _ _ _ _ (sym
    (rows_each (state.FileWords (names_at c.args.files.now c.args.id)) 16 (length (words_at c.args.files.now c.args.id)) c.rows_of-row-end.result
    (words_at c.args.files.now c.args.id) (omega (arith, c.rows_of-row-end.ensures.least, c.length.ensures))
    (omega (arith, c.rows_of-row-end.ensures.within, c.length.ensures)) (omega (arith, c.rows_of-row-end.ensures.least, c.length.ensures))))
    (each_all _ _ (nth_row (state.FileWords (names_at c.args.files.now c.args.id)) 16 (words_at c.args.files.now c.args.id)) _ _ _ c.loop-row.row
    c.rows_of-row-end.result c.loop-row.invariant (omega (arith, c.loop-row-test.false)) (omega (arith, c.loop-row.auto.row-end)))

pub returns-in_err-write_row : goal.returns-in_err-write_row
returns-in_err-write_row g c = writes_at _ _ (λ ls. ls) _ _ _ _ _
    (sym (rows_each (state.FileWords (names_at c.args.files.now c.args.id)) 16 (length (words_at c.args.files.now c.args.id)) c.rows_of-row-end.result
    (words_at c.args.files.now c.args.id) (omega (arith, c.rows_of-row-end.ensures.least, c.length.ensures))
    (omega (arith, c.rows_of-row-end.ensures.within, c.length.ensures)) (omega (arith, c.rows_of-row-end.ensures.least, c.length.ensures))))
    (each_cut _ _ (nth_row (state.FileWords (names_at c.args.files.now c.args.id)) 16 (words_at c.args.files.now c.args.id)) _ _ _ _ _ _ _ _
    c.rows_of-row-end.result refl c.loop-row.invariant c.in_err-write_row.was c.write_row.ensures (omega (arith, c.loop-row-test.true))
    c.from_residual.ensures.0)
