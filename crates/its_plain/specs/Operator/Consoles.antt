-- The lines at a console: TYPE and DRAIN (docs/SESSION.md, "The lines").
-- A promise rests on this.
use Rattle.std.specs.Prelude.{ℕ, ◌-◌, List, ◌++◌, length, take, drop}
use Rattle.its_word.specs.Console.{most_waiting}
use Rattle.its_plain.specs.Machine.{Console, Machine}
use Rattle.its_plain.specs.Machine.Change.{on_console}

-- TYPE: the bytes that have room wait as input, at most 64 in all; those beyond that room are
-- dropped. DRAIN: up to n bytes of the output
abbrev pub with_typed : ℕ → List ℕ → Machine → Machine
with_typed c bytes m = on_console m c (λ x. record x { input = take most_waiting (x.input ++ bytes) })

abbrev pub dropped : Console → List ℕ → ℕ
dropped x bytes = length bytes - (most_waiting - length x.input)

abbrev pub after_drain : ℕ → ℕ → Machine → Machine
after_drain c n m = on_console m c (λ x. record x { output = drop n x.output })
