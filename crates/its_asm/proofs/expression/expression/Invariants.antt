use Rattle.std.proofs.Common.{◌≡◌, length}
use Rattle.its_asm.specs.Expression.{expression, sum_with}
use Rattle.its_asm.specs.Reading.{scope_of}
use Rattle.its_asm.proofs.expression.expression.Given as goal

abbrev pub decreases-loop-text : goal.decreases-loop-text
decreases-loop-text l = length l.rest

abbrev pub invariant-loop-text : goal.invariant-loop-text
invariant-loop-text l = sum_with (scope_of l.names) l.sum l.sign l.rest ≡ expression (scope_of l.names) l.fn.text
