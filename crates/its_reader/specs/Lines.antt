-- The lines of a source, one by one.
-- No promise rests on this.
use Rattle.std.specs.Prelude.{◌≡◌, ◌≢◌, ◌≤◌, ◌<◌, ℕ, Bool, true, false, Option, Some, None, Result, Ok, Err, List, [], ◌∷◌, ◌++◌, length}
use Rattle.std.specs.Io.KnownBytes.{Consumes, IsAtEnd}
use Rattle.its_io.specs.declared.stream.Failed.{Failed}
use Rattle.its_session.specs.Events.{most_lines, lines_from}
use Rattle.its_reader.specs.declared.lines.Lines.{Lines}
use Rattle.its_reader.specs.declared.lines.Next.{Next}
use Rattle.its_reader.specs.declared.lines.Next.TheVariants.{Line, Long, Beyond, End}
use Rattle.its_reader.specs.Bytes.{pending, BufferFits}

-- a line that has begun is one of those that are read
abbrev pub Begun : List ℕ → ℕ → Type 0
Begun [] n = Unit {0}
Begun (b ∷ bs) n = n ≤ most_lines

-- between two lines: once the source has ended, no byte is left
pub record BetweenLines (r : Lines) (left : Option (List ℕ)) : Type 0 where
  pub fits : BufferFits r.buffer
  pub over : r.ended ≡ true → (pending r.buffer ≡ []) × IsAtEnd left

-- the lines that are still to come, if these bytes are still to be read; `whole` says that the
-- source ends with them
abbrev pub ahead : Bool → Lines → List ℕ → List (List ℕ)
ahead whole r more = lines_from whole [] (pending r.buffer ++ more)

-- this holds whatever bytes follow; once the source has ended, none do
abbrev pub Facing : Bool → (Bool → List ℕ → Type 0) → Type 0
Facing false P = (whole : Bool) (more : List ℕ) → P whole more
Facing true P = P true []

-- there is a line of these lines, and perhaps more after it
pub record SomeLine (lines : List (List ℕ)) (P : List ℕ → Type 0) : Type 0 where
  pub first : List ℕ
  pub behind : List (List ℕ)
  pub is : lines ≡ first ∷ behind
  pub holds : P first

-- none of these lines is whole: one at most has begun, and may go on. It is not too long, and its
-- number n not past the most
abbrev pub Opened : List (List ℕ) → ℕ → Type 0
Opened [] n = Unit {0}
Opened (line ∷ []) n = (length line ≤ 255) × (n ≤ most_lines)
Opened (line ∷ (next ∷ lines)) n = ⊥

-- what came next, if these bytes were read
abbrev pub NextOf : Result Next Failed → Lines → Lines → List ℕ → Type 0
NextOf (Ok Line) old new read = Facing new.ended (λ whole more. ahead whole old (read ++ more) ≡ new.line.items ∷ ahead whole new more)
NextOf (Ok Long) old new read = (new.number ≤ most_lines) × ((more : List ℕ) → SomeLine (ahead true old (read ++ more)) (λ line. 255 < length line))
NextOf (Ok Beyond) old new read = (most_lines < new.number) × ((more : List ℕ) → SomeLine (ahead true old (read ++ more)) (λ line. Unit {0}))
NextOf (Ok End) old new read = (new.ended ≡ true) × (ahead true old read ≡ [])
NextOf (Err e) old new read = (old.ended ≡ false) × (ahead false old read ≡ []) × Opened (ahead true old read) new.number

pub record Reads (result : Result Next Failed) (old new : Lines) (left rest : Option (List ℕ)) : Type 0 where
  pub read : List ℕ
  pub consumed : Consumes left rest read
  pub over : old.ended ≡ true → (read ≡ []) × (new.ended ≡ true)
  pub next : NextOf result old new read

-- the effect of a byte of a line: it is kept, or the line is over
abbrev pub Pushed : Option Next → ℕ → List ℕ → ℕ → List ℕ → Type 0
Pushed None n line b now = (b ≢ 10) × (now ≡ line ++ b ∷ []) × (length now ≤ 255) × (n ≤ most_lines)
Pushed (Some Line) n line b now = (b ≡ 10) × (now ≡ line) × (n ≤ most_lines)
Pushed (Some Long) n line b now = (b ≢ 10) × (255 ≤ length line) × (n ≤ most_lines)
Pushed (Some Beyond) n line b now = most_lines < n
Pushed (Some End) n line b now = ⊥

abbrev pub last_of : List ℕ → Next
last_of [] = End
last_of (b ∷ bs) = Line

-- bytes were read and taken since the last line, and this much of the next one is kept
pub record LineSo (old now : Lines) (left rest : Option (List ℕ)) : Type 0 where
  pub read : List ℕ
  pub consumed : Consumes left rest read
  pub so_far : (whole : Bool) (more : List ℕ) → ahead whole old (read ++ more) ≡ lines_from whole now.line.items (pending now.buffer ++ more)
