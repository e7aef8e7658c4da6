use Rattle.std.proofs.Common.{◌∷◌, ℕ, List, Ok, Err, Some, ap, length, map, sym, ◌∙◌}
use Rattle.its_files.specs.Files.{file_at as file_of}
use Rattle.its_print.specs.Printing.{Dir}
use Rattle.its_plain.specs.Operator.Files.{filed_line, files_in, listing}
use Rattle.its_direct.specs.Plain.{machine_of}
use Rattle.its_verify.proofs.ShowingLaws.{listing_is, same_says, fail_says, stop_says, then_says}
use Rattle.its_verify.proofs.ErrLaws.{err_says}
use Rattle.its_verify.proofs.showing.show_files.Goals as goal

pub returns-clause-says : goal.returns-clause-says
returns-clause-says g c =
    let files = c.args.plain.now.files in
    let ids = c.as_slice.result.now in
    let lines = map filed_line (map (file_of files) ids) in
    same_says c.show_each.result c.args.reader.now c.show_each.new.reader (g.S.Source.left c.args.src.now)
    (g.S.Source.left c.show_each.new.src) (Dir c.args.d c.len-n.result ∷ lines) (listing c.args.d (files_in c.args.d (machine_of c.args.plain.now).files))
    (listing_is files c.args.d c.len-n.result ids (files_in c.args.d (machine_of c.args.plain.now).files)
    (ap (map (file_of files)) c.as_slice.ensures.value ∙ c.listed-ids.ensures.files)
    (c.len-n.ensures.value ∙ ap (λ (xs : List ℕ). length xs) (sym c.as_slice.ensures.value)))
    (then_says c.expect.result c.show_each.result c.args.reader.now c.expect.new.self c.show_each.new.reader
    (g.S.Source.left c.args.src.now) (g.S.Source.left c.expect.new.src) (g.S.Source.left c.show_each.new.src)
    (Dir c.args.d c.len-n.result) lines (c.in_ok-outcome.was ∙ ap Ok c.in_default.is) c.expect.ensures.says c.show_each.ensures.says)

pub returns-in-Some-clause-says : goal.returns-in-Some-clause-says
returns-in-Some-clause-says g c =
    let files = c.args.plain.now.files in
    let ids = c.listed-ids.result.items in
    let lines = map filed_line (map (file_of files) ids) in
    same_says (Ok (Some c.in-Some.outcome)) c.args.reader.now c.expect.new.self (g.S.Source.left c.args.src.now)
    (g.S.Source.left c.expect.new.src) (Dir c.args.d c.len-n.result ∷ lines) (listing c.args.d (files_in c.args.d (machine_of c.args.plain.now).files))
    (listing_is files c.args.d c.len-n.result ids (files_in c.args.d (machine_of c.args.plain.now).files) c.listed-ids.ensures.files c.len-n.ensures.value)
    (stop_says c.expect.result c.in-Some.outcome c.args.reader.now c.expect.new.self (g.S.Source.left c.args.src.now) (g.S.Source.left c.expect.new.src)
    (Dir c.args.d c.len-n.result) lines (c.in_ok-outcome.was ∙ ap Ok c.in-Some.is) c.expect.ensures.says)

pub returns-in_err-outcome-clause-says : goal.returns-in_err-outcome-clause-says
returns-in_err-outcome-clause-says g c = λ next.
    (let files = c.args.plain.now.files in
    let ids = c.listed-ids.result.items in
    let lines = map filed_line (map (file_of files) ids) in
    err_says _ c.in_err-outcome.field-0.0 _ _ _ _ _ _ c.from_residual.ensures.0
    (same_says (Err c.in_err-outcome.field-0.0) c.args.reader.now c.expect.new.self (g.S.Source.left c.args.src.now)
    (g.S.Source.left c.expect.new.src) (Dir c.args.d c.len-n.result ∷ lines) (listing c.args.d (files_in c.args.d (machine_of c.args.plain.now).files))
    (listing_is files c.args.d c.len-n.result ids (files_in c.args.d (machine_of c.args.plain.now).files) c.listed-ids.ensures.files c.len-n.ensures.value)
    (fail_says c.expect.result c.in_err-outcome.field-0.0 c.args.reader.now c.expect.new.self (g.S.Source.left c.args.src.now)
    (g.S.Source.left c.expect.new.src)
    (Dir c.args.d c.len-n.result) lines c.in_err-outcome.was c.expect.ensures.says) next))
