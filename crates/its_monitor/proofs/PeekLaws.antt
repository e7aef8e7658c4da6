-- Which words PEEK shows of a call.
use Rattle.std.specs.Prelude.{◌≡◌, ℕ, Option, Some, None}
use Rattle.std.proofs.Common.{sym, ◌∙◌, ap}
use Rattle.its_word.specs.Core.{Core, word_at}
use Rattle.its_records.specs.declared.calls.Ask.{Ask}
use Rattle.its_plain.specs.Call.Arguments.{place_of_input}
use Rattle.its_stepped.specs.Lines.{word_placed, word_of_input}

-- the word at the place of an input
pub word_there : (c : Core) (a : Ask) (k p : ℕ) (o v : Option ℕ) → o ≡ place_of_input a k → o ≡ Some p → v ≡ word_at c p → v ≡ word_of_input c a (Some k)
word_there c a k p o v is e g = g ∙ ap (word_placed c) (sym e ∙ is)

pub no_place : (c : Core) (a : Ask) (k : ℕ) (o : Option ℕ) → o ≡ place_of_input a k → o ≡ None → None ≡ word_of_input c a (Some k)
no_place c a k o is e = ap (word_placed c) (sym e ∙ is)
