-- The result of the text of a source (docs/ASM.md, "The command").
-- No promise rests on this.
use Rattle.std.specs.Prelude.{◌≡◌, ◌≤◌, ◌+◌, ◌^◌, ℕ, true, false, Option, IfSome, Result, Ok, Err, List, ◌∷◌, ◌++◌, All, length}
use Rattle.std.specs.Io.KnownBytes.{Consumes}
use Rattle.its_records.specs.declared.session.Event.{Event}
use Rattle.its_records.specs.declared.session.Event.TheVariants as events
use Rattle.its_session.specs.Fits.{place_of}
use Rattle.its_session.specs.Grammar.{line_event}
use Rattle.its_session.specs.Writing.{text_of_event}
use Rattle.its_asm.specs.Assembly.{assembly}
use Rattle.its_asm.specs.declared.assembly.Image.{Image}
use Rattle.its_asm.specs.declared.reason.AsmFault.{AsmFault}
use Rattle.its_asm.specs.declared.reason.AsmFault.TheVariants.{Line, NoMemory}
use Rattle.its_asm_command.specs.declared.row.Row.{Row}
use Rattle.its_asm_command.specs.declared.source.Made.{Made}
use Rattle.its_asm_command.specs.declared.source.Made.TheVariants as mades
use Rattle.its_asm_command.specs.declared.source.Unmade.{Unmade}
use Rattle.its_asm_command.specs.declared.source.Unmade.TheVariants as unmades
use Rattle.its_reader.specs.Limits.{WithinLimits}
use Rattle.its_asm_command.specs.Past.{runs_past}
use Rattle.its_asm_command.specs.Written.{fault_line, image_events, lines_text, rows_from}

-- an event's line is read as that event
abbrev pub ReadsBack : Event → Type 0
ReadsBack e = line_event (place_of e) 2 (text_of_event e) ≡ Ok e

-- the lines of some events were added to a text, each of which is read as its event
pub record Adds (es : List Event) (old new : List ℕ) : Type 0 where
  pub text : new ≡ old ++ lines_text es
  pub reads : All ReadsBack es

abbrev pub row_line : Row → Event
row_line row = events.Words row.start row.words

-- a row may be a line
pub record RowFits (row : Row) : Type 0 where
  pub some : 1 ≤ length row.words.items
  pub few : length row.words.items ≤ 16
  pub within : row.start + length row.words.items ≤ 2 ^ 18

-- of the words after those of a first row all but these were added, of which some are in the row
-- that is open
pub record RowsSo (first : Row) (all cells : List (ℕ × ℕ)) (row : Row) (old now : List ℕ) : Type 0 where
  pub done : List Event
  pub adds : Adds done old now
  pub whole : rows_from first.start first.words.items all ≡ done ++ rows_from row.start row.words.items cells

-- a word was added to the row that is open, which was added to the text if the word begins another
-- one
pub record AddsRow (row r : Row) (a w : ℕ) (old new : List ℕ) : Type 0 where
  pub done : List Event
  pub adds : Adds done old new
  pub whole : (cells : List (ℕ × ℕ)) → rows_from row.start row.words.items ((a, w) ∷ cells) ≡ done ++ rows_from r.start r.words.items cells

-- the session of an image, each of whose lines is read as its event
pub record IsSessionOf (i : Image) (text : List ℕ) : Type 0 where
  pub is : text ≡ lines_text (image_events i)
  pub reads : All ReadsBack (image_events i)

-- the result of an assembly
abbrev pub IsSession : Result Image AsmFault → List ℕ → Type 0
IsSession (Ok i) text = IsSessionOf i text
IsSession (Err fault) text = ⊥

abbrev pub IsRefusal : Result Image AsmFault → List ℕ → Type 0
IsRefusal (Ok i) line = ⊥
IsRefusal (Err (Line n reason)) line = line ≡ fault_line n reason
IsRefusal (Err NoMemory) line = ⊥

abbrev pub MakesOf : Result Made Unmade → Result Image AsmFault → Type 0
MakesOf (Ok (mades.Session text)) r = IsSession r text.items
MakesOf (Ok (mades.Refusal line)) r = IsRefusal r line.items
MakesOf (Err unmades.Failed) r = ⊥
MakesOf (Err unmades.TooLong) r = ⊥
MakesOf (Err unmades.NoMemory) r = Unit {0}

-- the text of these bytes has this result, and these of the bytes were read
abbrev pub EndsOf : Result Made Unmade → List ℕ → List ℕ → Type 0
EndsOf (Ok (mades.Session text)) bytes read = (runs_past bytes ≡ false) × IsSession (assembly bytes) text.items × (read ≡ bytes)
EndsOf (Ok (mades.Refusal line)) bytes read = (runs_past bytes ≡ false) × IsRefusal (assembly bytes) line.items
EndsOf (Err unmades.Failed) bytes read = WithinLimits read
EndsOf (Err unmades.TooLong) bytes read = runs_past bytes ≡ true
EndsOf (Err unmades.NoMemory) bytes read = runs_past bytes ≡ false

pub record MadeFrom (result : Result Made Unmade) (left rest : Option (List ℕ)) : Type 0 where
  pub read : List ℕ
  pub consumed : Consumes left rest read
  pub ends : IfSome left (λ bytes. EndsOf result bytes read)
