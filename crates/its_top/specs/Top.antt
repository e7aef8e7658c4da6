-- What the program did for the command that its words are. Promise and Outcomes follow from it.
-- No promise rests on this.
use Rattle.std.specs.Prelude.{◌≡◌, ℕ, false, Option, Some, None, IfSome, List}
use Rattle.its_asm_command.specs.Past.{runs_past}
use Rattle.its_verify.specs.Finds.{Unmade}
use Rattle.its_top.specs.declared.commands.status.Status.{Status}
use Rattle.its_top.specs.declared.commands.status.Status.TheVariants as statuses
use Rattle.its_top.specs.declared.commands.words.Command.{Command}
use Rattle.its_top.specs.declared.commands.words.Command.TheVariants.{Run, Check as CheckCommand, Gen, Verify as VerifyCommand, Asm as AsmCommand, Save as SaveCommand}
use Rattle.its_top.specs.Conclusion.{Session}
use Rattle.its_top.specs.Checking.{WroteText, Check}
use Rattle.its_top.specs.Generating.{generated_text}
use Rattle.its_top.specs.Assembling.{Asm}
use Rattle.its_top.specs.Saving.{Saves}
use Rattle.its_top.specs.Verifying.{Verify}
use Rattle.its_top.specs.Outcomes.{usage}

-- what the program did for a command, if memory was not refused
abbrev pub DoneFor : Option Command → Status → Option (List ℕ) → Option (List ℕ) → Option (List ℕ) → Option (List ℕ) → Type 0
DoneFor (Some Run) st left rest old new = Session st left rest old new
DoneFor (Some CheckCommand) st left rest old new = Check st left rest old new
DoneFor (Some (Gen n)) st left rest old new = WroteText st statuses.Done (generated_text n) old new × (rest ≡ left)
DoneFor (Some VerifyCommand) st left rest old new = Verify st left rest old new
DoneFor (Some AsmCommand) st left rest old new = Asm st left rest old new
DoneFor (Some SaveCommand) st left rest old new = Saves st left rest old new
DoneFor None st left rest old new = WroteText st statuses.Usage usage old new × (rest ≡ left)

-- if memory was refused, nothing was written, and only a command that keeps what it reads has read
-- anything: of a session and its transcript no more than the session. Words that are no command
-- need no memory, and a check needs none; that a text is too long is found without memory
abbrev pub Refrains : Option Command → Option (List ℕ) → Option (List ℕ) → Option (List ℕ) → Option (List ℕ) → Type 0
Refrains (Some VerifyCommand) left rest old new = (new ≡ old) × IfSome left (λ bytes. Unmade bytes rest)
Refrains (Some AsmCommand) left rest old new = (new ≡ old) × IfSome left (λ bytes. runs_past bytes ≡ false)
Refrains (Some CheckCommand) left rest old new = ⊥
Refrains None left rest old new = ⊥
Refrains c left rest old new = (rest ≡ left) × (new ≡ old)

abbrev pub Obeys : Option Command → Status → Option (List ℕ) → Option (List ℕ) → Option (List ℕ) → Option (List ℕ) → Type 0
Obeys c statuses.NoMemory left rest old new = Refrains c left rest old new
Obeys c st left rest old new = DoneFor c st left rest old new

pub record Obeyed (c : Option Command) (st : Status) (left rest old new : Option (List ℕ)) : Type 0 where
  pub obeys : Obeys c st left rest old new
