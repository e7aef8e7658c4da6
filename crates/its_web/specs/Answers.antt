-- What the answers of the library say: the statuses of the program that come with bytes, and what
-- the program says of these bytes.
-- No promise rests on this.
use Rattle.std.specs.Prelude.{if◌then◌else◌, ◌==◌, ◌≡◌, ◌≢◌, ◌≤◌, ◌<◌, ◌⊎◌, ℕ, Bool, true, false, Option, Some, None, IfSome, Result, List, [], length, take}
use Rattle.its_print.specs.Printing.{text}
use Rattle.its_session.specs.Events.{events_of}
use Rattle.its_stepped.specs.Lines.{stepped}
use Rattle.its_verify.specs.Verified.{answer_text, verified}
use Rattle.its_asm.specs.Assembly.{assembly}
use Rattle.its_asm.specs.declared.assembly.Image.{Image}
use Rattle.its_asm.specs.declared.reason.AsmFault.{AsmFault}
use Rattle.its_asm_command.specs.Past.{runs_past}
use Rattle.its_asm_command.specs.Written.{assembly_text}
use Rattle.its_top.specs.Checking.{checked, checked_text}
use Rattle.its_top.specs.Generating.{generated_text}
use Rattle.its_top.specs.Outcomes.{RunSays, CheckSays, VerifySays, AsmSays, SaveSays, OfGen, usage}
use Rattle.its_top.specs.Saving.{save_text}
use Rattle.its_top.specs.declared.commands.words.Command.{Command}
use Rattle.its_top.specs.declared.commands.words.Command.TheVariants as commands
use Rattle.its_top.specs.declared.commands.status.Status.{Status}
use Rattle.its_top.specs.declared.commands.status.Status.TheVariants as statuses

-- the exit status of the program. The sink has more room than the buffer, so it is full only if the
-- buffer is too short, and then the answer is 4 whatever the status; a sink that failed before
-- would be as one for which there was no memory
abbrev pub code_of : Status → ℕ
code_of statuses.Done = 0
code_of statuses.Usage = 1
code_of statuses.Refused = 2
code_of statuses.ReadFault = 3
code_of statuses.WriteFault = 5
code_of statuses.NoMemory = 5
code_of statuses.TooLong = 6

-- whether bytes come with it
abbrev pub gives : Status → Bool
gives statuses.Done = true
gives statuses.Usage = true
gives statuses.Refused = true
gives statuses.TooLong = true
gives _ = false

-- the status that an answer is, if bytes come with it
abbrev pub status_given : ℕ → Option Status
status_given n =
    if n == 0 then Some statuses.Done
    else (if n == 1 then Some statuses.Usage
    else (if n == 2 then Some statuses.Refused
    else (if n == 6 then Some statuses.TooLong
    else None)))

-- what the program says of `run`, of this input and with these bytes written: its source is read up
-- to some place
pub record Runs (bytes written : List ℕ) (status : Status) : Type 0 where
  pub rest : Option (List ℕ)
  pub says : RunSays status bytes rest (Some []) (Some written)

-- the same of `check`
pub record Checks (bytes written : List ℕ) (status : Status) : Type 0 where
  pub rest : Option (List ℕ)
  pub says : CheckSays status bytes rest (Some []) (Some written)

-- of `verify`
pub record Judges (bytes written : List ℕ) (status : Status) : Type 0 where
  pub rest : Option (List ℕ)
  pub says : VerifySays status bytes rest (Some []) (Some written)

-- of `asm`
pub record Assembles (bytes written : List ℕ) (status : Status) : Type 0 where
  pub rest : Option (List ℕ)
  pub says : AsmSays status bytes rest (Some []) (Some written)

-- of `save`
pub record Restarts (bytes written : List ℕ) (status : Status) : Type 0 where
  pub rest : Option (List ℕ)
  pub says : SaveSays status bytes rest (Some []) (Some written)

-- of `gen` with so many rounds
pub record Generates (n : ℕ) (bytes written : List ℕ) (status : Status) : Type 0 where
  pub rest : Option (List ℕ)
  pub says : OfGen n status (Some bytes) rest (Some []) (Some written)

-- what the program says of the command that the words are
abbrev pub Says : Option Command → List ℕ → List ℕ → Status → Type 0
Says (Some commands.Run) bytes written st = Runs bytes written st
Says (Some commands.Check) bytes written st = Checks bytes written st
Says (Some commands.Verify) bytes written st = Judges bytes written st
Says (Some commands.Asm) bytes written st = Assembles bytes written st
Says (Some commands.Save) bytes written st = Restarts bytes written st
Says (Some (commands.Gen n)) bytes written st = Generates n bytes written st
Says None bytes written st = Unit {0}

-- what `asm` writes of a text, by whether it has too many lines
abbrev pub asm_text : Bool → Result Image AsmFault → List ℕ
asm_text true made = []
asm_text false made = assembly_text made

-- what the program writes for a command and an input if nothing fails
abbrev pub to_write : Option Command → List ℕ → List ℕ
to_write (Some commands.Run) bytes = text (stepped (events_of bytes)).lines
to_write (Some commands.Check) bytes = checked_text (checked (events_of bytes))
to_write (Some commands.Verify) bytes = answer_text (verified bytes)
to_write (Some commands.Asm) bytes = asm_text (runs_past bytes) (assembly bytes)
to_write (Some commands.Save) bytes = save_text (events_of bytes)
to_write (Some (commands.Gen n)) bytes = generated_text n
to_write None bytes = usage

-- what is said of an answer n of the library for such a command, with so many bytes given at the
-- front of the buffer
pub record Answers (c : Option Command) (n : ℕ) (bytes : List ℕ) (count : ℕ) (out : List ℕ) : Type 0 where
  pub within : count ≤ length out
  pub says : IfSome (status_given n) (Says c bytes (take count out))
  pub usage : n ≡ 1 → (take count out ≡ usage) × (c ≡ None)
  pub no_command : c ≡ None → ((n ≡ 1) ⊎ (n ≡ 4)) ⊎ ((n ≡ 5) ⊎ (n ≡ 7))
  pub nothing : status_given n ≡ None → count ≡ 0
  pub short : n ≡ 4 → length out < length (to_write c bytes)
  pub statuses : (n ≢ 3) × (n ≤ 7)

-- an answer gives the bytes that the program wrote, if its status comes with bytes and there is
-- room for them
pub record Given (n : ℕ) (st : Status) (wrote : List ℕ) (count : ℕ) (out : List ℕ) : Type 0 where
  pub within : count ≤ length out
  pub bytes : IfSome (status_given n) (λ s. (s ≡ st) × (take count out ≡ wrote))
  pub nothing : status_given n ≡ None → count ≡ 0
  pub answer : (n ≡ 4) ⊎ (n ≡ code_of st)
  pub short : n ≡ 4 → length out < length wrote
