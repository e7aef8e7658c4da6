-- The words that a caller of the library gives.
-- No promise rests on this.
use Rattle.std.specs.Prelude.{if◌then◌else◌, ◌==◌, ℕ, Option, List, [], ◌∷◌, length}
use Rattle.its_top.specs.declared.commands.words.Command.{Command}
use Rattle.its_top.specs.Commands.{command_of}

-- the words of a command: its name, and its number unless that is empty
abbrev pub words_of : List ℕ → List ℕ → List (List ℕ)
words_of name number = if length number == 0 then name ∷ [] else name ∷ number ∷ []

-- the command that they are, if any
abbrev pub command_in : List ℕ → List ℕ → Option Command
command_in name number = command_of (words_of name number)
