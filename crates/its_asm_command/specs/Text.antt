-- What is kept of the text of a source: its lines up to its end, or to a line of more than 255
-- bytes (docs/ASM.md, "The command").
-- No promise rests on this.
use Rattle.std.specs.Prelude.{◌≡◌, ◌≤◌, ◌*◌, ℕ, Bool, true, false, Option, IfSome, Result, Ok, Err, List, [], ◌++◌, ◌∷◌, length, flat_map}
use Rattle.std.specs.List.{list_all}
use Rattle.std.specs.Io.KnownBytes.{Consumes}
use Rattle.its_session.specs.Events.{lines_from}
use Rattle.its_reader.specs.declared.lines.Lines.{Lines}
use Rattle.its_reader.specs.Limits.{WithinLimits, is_short}
use Rattle.its_reader.specs.Lines.{Facing, ahead}
use Rattle.its_asm.specs.Assembly.{assembly}
use Rattle.its_asm.specs.declared.assembly.Image.{Image}
use Rattle.its_asm.specs.declared.reason.AsmFault.{AsmFault}
use Rattle.its_asm_command.specs.Past.{runs_past}
use Rattle.its_asm_command.specs.declared.text.Unread.{Unread}
use Rattle.its_asm_command.specs.declared.text.Unread.TheVariants as unreads

-- the text is assembled
abbrev pub Assembles : Result Image AsmFault → Type 0
Assembles (Ok image) = Unit {0}
Assembles (Err fault) = ⊥

-- lines with their LF
unfoldable pub joined : List (List ℕ) → List ℕ
joined lines = flat_map (λ line. line ++ 10 ∷ []) lines

-- the lines of a text so far, none of which is long; and their text, if memory was found for it
pub record LinesSo (kept : Bool) (text : List ℕ) (r : Lines) (left rest : Option (List ℕ)) : Type 0 where
  pub lines : List (List ℕ)
  pub read : List ℕ
  pub consumed : Consumes left rest read
  pub so_far : Facing r.ended (λ whole more. lines_from whole [] (read ++ more) ≡ lines ++ ahead whole r more)
  pub joins : kept ≡ true → text ≡ joined lines
  pub number : length lines ≡ r.number
  pub short : list_all is_short lines ≡ true
  pub size : kept ≡ true → length text ≤ 256 * r.number

-- the end of what is read of a text
abbrev pub read_whole : Bool → Result (Unit {0}) Unread
read_whole true = Ok tt
read_whole false = Err unreads.NoMemory

-- the text that was kept is assembled as the bytes of the source are; if the result is an image,
-- all bytes were read. If the source failed, what was read decides nothing. Want of memory does not
-- hide that there are too many lines
abbrev pub StandsFor : Result (Unit {0}) Unread → List ℕ → List ℕ → List ℕ → Type 0
StandsFor (Ok x) bytes text read = (runs_past bytes ≡ false) × (assembly text ≡ assembly bytes) × (Assembles (assembly bytes) → read ≡ bytes)
StandsFor (Err unreads.TooLong) bytes text read = runs_past bytes ≡ true
StandsFor (Err unreads.Failed) bytes text read = WithinLimits read
StandsFor (Err unreads.NoMemory) bytes text read = runs_past bytes ≡ false

pub record Gathered (result : Result (Unit {0}) Unread) (text : List ℕ) (left rest : Option (List ℕ)) : Type 0 where
  pub read : List ℕ
  pub consumed : Consumes left rest read
  pub stands : IfSome left (λ bytes. StandsFor result bytes text read)
