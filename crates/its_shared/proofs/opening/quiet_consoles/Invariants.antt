use Rattle.std.proofs.Common.{◌≡◌, ℕ, slice_index_or, vec_len}
use Rattle.its_word.specs.Console.{quiet_console}
use Rattle.its_shared.proofs.opening.quiet_consoles.Given as goal

abbrev pub invariant-loop-c : goal.invariant-loop-c
invariant-loop-c l = (vec_len l.v ≡ l._c) × ((c : ℕ) → slice_index_or l.v.items c quiet_console ≡ quiet_console)
