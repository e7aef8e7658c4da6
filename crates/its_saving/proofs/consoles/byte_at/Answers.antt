use Rattle.std.proofs.Common.{ap, slice_get, sym, ◌∙◌}
use Rattle.its_saving.specs.Parts.{bytes_of}
use Rattle.its_saving.proofs.consoles.byte_at.Goals as goal

pub returns-then-output : goal.returns-then-output
returns-then-output c = c.output_at.ensures ∙ ap (λ t. slice_get (bytes_of t c.args.console.now) c.args.k) (sym c.if-output.true)

pub returns-else-output : goal.returns-else-output
returns-else-output c = c.input_at.ensures ∙ ap (λ t. slice_get (bytes_of t c.args.console.now) c.args.k) (sym c.if-output.false)
