use Rattle.std.proofs.Common.{◌∷◌, ◌+◌, ◌/◌, Ok, Err, Some, ap, ◌∙◌}
use Rattle.its_files.specs.Files.{words_at}
use Rattle.its_records.specs.declared.show.FileShow.{FileShow}
use Rattle.its_plain.specs.Operator.Files.{rows}
use Rattle.its_verify.specs.Showing.{names_line, text_lines}
use Rattle.its_verify.proofs.ShowingLaws.{same_says, fail_says, stop_says, text_is, then_says}
use Rattle.its_verify.proofs.ErrLaws.{err_says}
use Rattle.its_verify.proofs.showing.show_text.Goals as goal

pub returns-clause-says : goal.returns-clause-says
returns-clause-says g c =
    let n = c.show-count.result.length in
    let ws = words_at c.args.plain.now.files c.args.id in
    same_says c.show_rows.result c.args.reader.now c.show_rows.new.reader (g.S.Source.left c.args.src.now)
    (g.S.Source.left c.show_rows.new.src) (names_line c.args.names n ∷ rows ((n + 7) / 8) ws) (text_lines c.args.names ws)
    (text_is c.args.names n ws (ap (λ (x : FileShow). x.length) c.show-count.ensures))
    (then_says c.show_names.result c.show_rows.result c.args.reader.now c.show_names.new.reader c.show_rows.new.reader
    (g.S.Source.left c.args.src.now) (g.S.Source.left c.show_names.new.src) (g.S.Source.left c.show_rows.new.src)
    (names_line c.args.names n) (rows ((n + 7) / 8) ws) (c.in_ok-outcome.was ∙ ap Ok c.in_default.is) c.show_names.ensures.says c.show_rows.ensures.says)

pub returns-in-Some-clause-says : goal.returns-in-Some-clause-says
returns-in-Some-clause-says g c =
    let n = c.show-count.result.length in
    let ws = words_at c.args.plain.now.files c.args.id in
    same_says (Ok (Some c.in-Some.outcome)) c.args.reader.now c.show_names.new.reader (g.S.Source.left c.args.src.now)
    (g.S.Source.left c.show_names.new.src) (names_line c.args.names n ∷ rows ((n + 7) / 8) ws) (text_lines c.args.names ws)
    (text_is c.args.names n ws (ap (λ (x : FileShow). x.length) c.show-count.ensures))
    (stop_says c.show_names.result c.in-Some.outcome c.args.reader.now c.show_names.new.reader (g.S.Source.left c.args.src.now)
    (g.S.Source.left c.show_names.new.src)
    (names_line c.args.names n) (rows ((n + 7) / 8) ws) (c.in_ok-outcome.was ∙ ap Ok c.in-Some.is) c.show_names.ensures.says)

pub returns-in_err-outcome-clause-says : goal.returns-in_err-outcome-clause-says
returns-in_err-outcome-clause-says g c = λ next.
    (let n = c.show-count.result.length in
    let ws = words_at c.args.plain.now.files c.args.id in
    err_says _ c.in_err-outcome.field-0.0 _ _ _ _ _ _ c.from_residual.ensures.0
    (same_says (Err c.in_err-outcome.field-0.0) c.args.reader.now c.show_names.new.reader (g.S.Source.left c.args.src.now)
    (g.S.Source.left c.show_names.new.src) (names_line c.args.names n ∷ rows ((n + 7) / 8) ws) (text_lines c.args.names ws)
    (text_is c.args.names n ws (ap (λ (x : FileShow). x.length) c.show-count.ensures))
    (fail_says c.show_names.result c.in_err-outcome.field-0.0 c.args.reader.now c.show_names.new.reader (g.S.Source.left c.args.src.now)
    (g.S.Source.left c.show_names.new.src)
    (names_line c.args.names n) (rows ((n + 7) / 8) ws) c.in_err-outcome.was c.show_names.ensures.says) next))
