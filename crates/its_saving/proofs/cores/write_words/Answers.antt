use Rattle.std.proofs.Common.{arith, refl, ◌-◌, ◌^◌}
use Rattle.its_core.specs.Cores.{core_at}
use Rattle.its_saving.proofs.CellLaws.{begun_of, span_begun, span_then, taken_of, words_cut, words_written}
use Rattle.its_saving.proofs.cores.write_words.Goals as goal

pub returns : goal.returns
returns g c = words_written _ _ _ _ _ _ _ _ _ _ c.args.s (core_at c.args.core.now c.args.s) c.new-words.ensures
    (span_then _ _ (core_at c.args.core.now c.args.s) _ _ _ _ _ _ _ _ _ 0 16 16 (2 ^ 18 - 16) (2 ^ 18) refl refl
    (taken_of _ _ _ _ _ _ _ _ _ _ _ c.in_ok-write_span.was c.write_span.ensures.takes)
    (taken_of _ _ _ _ _ _ _ _ _ _ _ c.in_ok-write_pages.was c.write_pages.ensures.takes)) c.end_row.ensures.writes

pub returns-in_err-write_span : goal.returns-in_err-write_span
returns-in_err-write_span g c = words_cut _ _ _ _ _ 16 _ _ c.args.s (core_at c.args.core.now c.args.s) (omega arith) c.from_residual.ensures.0
    c.new-words.ensures (begun_of _ _ _ _ _ _ _ _ _ _ _ c.in_err-write_span.was c.write_span.ensures.takes)

pub returns-in_err-write_pages : goal.returns-in_err-write_pages
returns-in_err-write_pages g c = words_cut _ _ _ _ _ (2 ^ 18) _ _ c.args.s (core_at c.args.core.now c.args.s) (omega arith)
    c.from_residual-in_err-write_pages.ensures.0 c.new-words.ensures
    (span_begun _ _ (core_at c.args.core.now c.args.s) _ _ _ _ _ _ _ 0 16 16 (2 ^ 18 - 16) (2 ^ 18) refl (omega arith)
    (taken_of _ _ _ _ _ _ _ _ _ _ _ c.in_ok-write_span.was c.write_span.ensures.takes)
    (begun_of _ _ _ _ _ _ _ _ _ _ _ c.in_err-write_pages.was c.write_pages.ensures.takes))
