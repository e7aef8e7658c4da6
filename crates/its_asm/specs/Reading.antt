-- What the steps of reading a line give.
-- No promise rests on this.
use Rattle.std.specs.Prelude.{[]}
use Rattle.std.specs.Option.{option_map_or}
use Rattle.its_asm.specs.Expression.{Scope}
use Rattle.its_asm.specs.declared.expression.Names.{Names}

-- what an expression may name, in the form that the code has
abbrev pub scope_of : Names → Scope
scope_of n = record { symbols = option_map_or (λ s. s.now) n.symbols []; here = n.here }
