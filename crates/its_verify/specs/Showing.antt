-- What a line of a session shows, by the answer of the machine.
-- No promise rests on this.
use Rattle.std.specs.Prelude.{ℕ, List}
use Rattle.std.specs.declared.option.Option.{Option}
use Rattle.its_print.specs.Printing.{Line}
use Rattle.its_print.specs.Printing as printed
use Rattle.its_plain.specs.Machine.{Names}
use Rattle.its_plain.specs.Operator.Files.{name_in, shown_lines}
use Rattle.its_direct.specs.Events.{lines_of}
use Rattle.its_direct.specs.declared.lines.events.Answer.{Answer}
use Rattle.its_direct.specs.declared.lines.events.Answer.TheVariants.{Peeked}
use Rattle.its_direct.specs.declared.plain.Plain.{Plain}
use Rattle.its_verify.specs.TranscriptReader.{PassesOn}
use Rattle.its_verify.specs.Rulings.{Ruling, led, peeking, expects}
use Rattle.its_verify.specs.declared.transcript_reader.TranscriptReader.{TranscriptReader}

-- what the judge says if the lines of an answer are to come, or a line of PEEK, and then others
abbrev pub shown_ruling : Answer → Plain → Ruling → Ruling
shown_ruling Peeked p next = led peeking (λ text. next)
shown_ruling a p next = expects (lines_of a p) next

-- the line of the names of a file, and all lines of SHOW
abbrev pub names_line : Names → ℕ → Line
names_line n k = printed.Shown (name_in n 0) (name_in n 1) (name_in n 2) k

abbrev pub text_lines : Names → List ℕ → List Line
text_lines n ws = shown_lines (name_in n 0) (name_in n 1) (name_in n 2) ws

-- some lines were shown, and these are still to come
pub record LinesSo (old now : TranscriptReader) (left rest : Option (List ℕ)) (lines more : List Line) : Type 0 where
  pub passes : (next : Ruling) → PassesOn old now left rest (expects lines next) (expects more next)
