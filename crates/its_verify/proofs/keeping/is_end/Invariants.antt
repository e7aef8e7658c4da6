use Rattle.std.proofs.Common.{◌≡◌, length}
use Rattle.std.specs.Prelude.{codes}
use Rattle.its_word.specs.Text.{words_of}
use Rattle.its_verify.specs.Verified.{is_only}
use Rattle.its_verify.proofs.keeping.is_end.Given as goal

abbrev pub decreases-loop-first : goal.decreases-loop-first
decreases-loop-first l = length l.rest

abbrev pub invariant-loop-first : goal.invariant-loop-first
invariant-loop-first l = is_only (codes "END") (words_of l.rest) ≡ is_only (codes "END") (words_of l.fn.line)
