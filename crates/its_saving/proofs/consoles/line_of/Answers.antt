use Rattle.std.proofs.Common.{ap, sym}
use Rattle.its_saved.specs.StateLine as state
use Rattle.its_saved.specs.Text.{line_of}
use Rattle.its_saving.proofs.consoles.line_of.Goals as goal

pub returns-then-output : goal.returns-then-output
returns-then-output c = ap (λ t. line_of (state.Bytes c.args.c t c.args.bytes.items)) (sym c.if-output.true)

pub returns-else-output : goal.returns-else-output
returns-else-output c = ap (λ t. line_of (state.Bytes c.args.c t c.args.bytes.items)) (sym c.if-output.false)
