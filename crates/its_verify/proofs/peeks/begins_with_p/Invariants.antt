use Rattle.std.proofs.Common.{◌≡◌, length}
use Rattle.std.specs.Prelude.{codes}
use Rattle.its_word.specs.Text.{words_of}
use Rattle.its_verify.specs.Lines.{begins_with}
use Rattle.its_verify.proofs.peeks.begins_with_p.Given as goal

abbrev pub decreases-loop-first : goal.decreases-loop-first
decreases-loop-first l = length l.rest

abbrev pub invariant-loop-first : goal.invariant-loop-first
invariant-loop-first l = begins_with (codes "P") (words_of l.rest) ≡ begins_with (codes "P") (words_of l.fn.line)
