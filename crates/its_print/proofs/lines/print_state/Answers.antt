use Rattle.std.proofs.Common.{◌≡◌, ◌∙◌, ap, sym, List, ℕ, [], ◌∷◌, ◌++◌, codes}
use Rattle.its_word.specs.Text.{digits_of, spaced}
use Rattle.its_print.specs.Printing.{job_fields, symbol_fields, text_of_line}
use Rattle.its_print.proofs.LineLaws.{after_job}
use Rattle.its_print.proofs.lines.print_state.Goals as goal

pub returns-clause-text : goal.returns-clause-text
unfolding text_of_line
returns-clause-text c =
    let text = after_job (codes "S") (digits_of c.args.s) (job_fields c.args.show.now) (symbol_fields c.args.version c.args.show.now.symbol) in
    let first : c.push.new.self.items ≡ codes "S" = c.push.ensures.items ∙ ap (λ (t : List ℕ). t ++ 83 ∷ []) c.requires in
    c.push-2.ensures.items ∙ ap (λ t. t ++ 10 ∷ []) (
    c.put_symbol.ensures.text
    ∙ ap (λ t. spaced t (symbol_fields c.args.version c.args.show.now.symbol))
    (c.put_job.ensures.text ∙ ap (λ t. spaced t (job_fields c.args.show.now))
    (c.put_number.ensures.text ∙ ap (λ (n : ℕ). spaced c.push.new.self.items (digits_of n ∷ []))
    (c.from.ensures ∙ c.number.ensures.value) ∙ ap (λ t. spaced t (digits_of c.args.s ∷ [])) first))
    ∙ sym text)
