-- The commands of the program, by the words after its name (docs/SESSION.md, "The program").
-- No promise rests on this.
use Rattle.std.specs.Prelude.{if◌then◌else◌, ◌^◌, ◌==◌, ◌&&◌, ℕ, Bool, true, false, Option, Some, None, List, [], ◌∷◌, map, nat_le, bytes_eq, codes, String, string_bytes}
use Rattle.its_word.specs.Text.{is_octal, octal_value}
use Rattle.its_top.specs.declared.commands.words.Command.{Command}
use Rattle.its_top.specs.declared.commands.words.Command.TheVariants.{Run, Check, Gen, Verify, Asm, Save}

-- `run`, `check`, `verify`, `asm` and `save` are the only word
abbrev pub bare_command : List ℕ → Option Command
bare_command w =
    if bytes_eq w (codes "run") then Some Run
    else (if bytes_eq w (codes "check") then Some Check
    else (if bytes_eq w (codes "verify") then Some Verify
    else (if bytes_eq w (codes "asm") then Some Asm
    else (if bytes_eq w (codes "save") then Some Save
    else None))))

-- a number of rounds, 1 to 10000
abbrev pub is_rounds : List ℕ → Bool
is_rounds n = is_octal n && (nat_le 1 (octal_value n) && nat_le (octal_value n) (2 ^ 12))

-- `gen` has one
abbrev pub counted_command : List ℕ → List ℕ → Option Command
counted_command w n = if bytes_eq w (codes "gen") && is_rounds n then Some (Gen (octal_value n)) else None

-- a word, and perhaps one more
abbrev pub command_by : List ℕ → Option (List ℕ) → Option Command
command_by w None = bare_command w
command_by w (Some n) = counted_command w n

-- the command that the words are, if any
unfoldable pub command_of : List (List ℕ) → Option Command
command_of (w ∷ []) = command_by w None
command_of (w ∷ n ∷ []) = command_by w (Some n)
command_of [] = None
command_of (w ∷ n ∷ v ∷ ws) = None

-- the command that is asked for by these words
abbrev pub asked : {Z : Type 0} → List (String Z) → Option Command
asked words = command_of (map string_bytes words)

-- a word that begins with `-`
abbrev pub is_option : List ℕ → Bool
is_option [] = false
is_option (b ∷ bs) = b == 45

-- what two words that may be there say
abbrev pub command_from : Option (List ℕ) → Option (List ℕ) → Option Command
command_from (Some w) n = command_by w n
command_from None n = None

-- the command reads its source
abbrev pub reads_input : Option Command → Bool
reads_input (Some Run) = true
reads_input (Some Check) = true
reads_input (Some (Gen n)) = false
reads_input (Some Verify) = true
reads_input (Some Asm) = true
reads_input (Some Save) = true
reads_input None = false

-- it keeps what it reads
abbrev pub keeps : Option Command → Bool
keeps (Some Verify) = true
keeps (Some Asm) = true
keeps (Some Run) = false
keeps (Some Save) = false
keeps (Some Check) = false
keeps (Some (Gen n)) = false
keeps None = false

-- the command is `gen` with a number of rounds, and this holds of the number
abbrev pub IfGenerates : Option Command → (ℕ → Type 0) → Type 0
IfGenerates (Some (Gen n)) p = p n
IfGenerates (Some Run) p = Unit {0}
IfGenerates (Some Check) p = Unit {0}
IfGenerates (Some Verify) p = Unit {0}
IfGenerates (Some Asm) p = Unit {0}
IfGenerates (Some Save) p = Unit {0}
IfGenerates None p = Unit {0}
