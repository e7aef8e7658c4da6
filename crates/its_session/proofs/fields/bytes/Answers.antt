use Rattle.std.proofs.Common.{arith, sym, ◌∙◌}
use Rattle.std.proofs.lemmas.Grind.{common_steps}
use Rattle.its_session.proofs.RowLaws.{not_numbers}
use Rattle.its_session.proofs.fields.bytes.Goals as goal

pub returns-in_err-number : goal.returns-in_err-number
returns-in_err-number c =
    let bad = not_numbers c.args.words.now c.loop-word.word-index c.in_err-number.field-0.0 c.loop-word-test.true
    (sym c.number.ensures ∙ c.in_err-number.was) in
    grind (arith, common_steps)
