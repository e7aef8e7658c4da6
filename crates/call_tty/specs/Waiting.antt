-- When a call on a console waits, and what stops a transfer, in the forms that code answers.
-- No promise rests on this.
use Rattle.std.specs.Prelude.{◌||◌, ℕ, Bool, not, Option, nat_lt, length}
use Rattle.its_word.specs.Console.{Console, most_waiting}
use Rattle.its_plain.specs.Call.Tty.{is_empty, is_other}

abbrev pub cannot_take : Console → ℕ → Option ℕ → Bool
cannot_take x j holder = is_empty x.input || is_other j holder

abbrev pub cannot_put : Console → ℕ → Option ℕ → Bool
cannot_put x j holder = not (nat_lt (length x.output) most_waiting) || is_other j holder
