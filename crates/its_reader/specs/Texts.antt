-- The lines of a source, one by one, each with the LF that ends it.
-- No promise rests on this.
use Rattle.std.specs.Prelude.{◌≡◌, ◌≢◌, ◌≤◌, ◌<◌, ◌==◌, ℕ, Bool, true, false, not, Option, Some, None, Result, Ok, Err, List, [], ◌∷◌, ◌++◌, length}
use Rattle.std.specs.Io.KnownBytes.{Consumes, IsAtEnd}
use Rattle.std.specs.List.{list_all}
use Rattle.its_io.specs.declared.stream.Failed.{Failed}
use Rattle.its_session.specs.Events.{most_lines}
use Rattle.its_reader.specs.TextLines.{before_lf, lines_in}
use Rattle.its_reader.specs.declared.lines.Next.{Next}
use Rattle.its_reader.specs.declared.lines.Next.TheVariants.{Line, Long, Beyond, End}
use Rattle.its_reader.specs.declared.texts.Texts.{Texts}
use Rattle.its_reader.specs.Bytes.{pending, BufferFits}
use Rattle.its_reader.specs.Lines.{Facing, SomeLine}

-- between two lines: once the source has ended, no byte is left
pub record ReadyTexts (r : Texts) (left : Option (List ℕ)) : Type 0 where
  pub fits : BufferFits r.buffer
  pub over : r.ended ≡ true → (pending r.buffer ≡ []) × IsAtEnd left

-- the lines that are still to come, if these bytes are still to be read
abbrev pub texts_ahead : Texts → List ℕ → List (List ℕ)
texts_ahead r more = lines_in (pending r.buffer ++ more)

-- a byte other than LF
abbrev pub is_inside : ℕ → Bool
is_inside b = not (b == 10)

-- a line with the LF that ends it
pub record Ends (text : List ℕ) : Type 0 where
  pub before : List ℕ
  pub is : text ≡ before ++ 10 ∷ []
  pub inside : list_all is_inside before ≡ true

-- none of these lines is whole: one at most has begun, and may go on. It is not too long, and its
-- number n not past the most
abbrev pub OpenedText : ℕ → List (List ℕ) → ℕ → Type 0
OpenedText most [] n = Unit {0}
OpenedText most (text ∷ []) n = (list_all is_inside text ≡ true) × (length text ≤ most) × (n ≤ most_lines)
OpenedText most (text ∷ (next ∷ texts)) n = ⊥

-- what came next, if these bytes were read
abbrev pub TextOf : Result Next Failed → Texts → Texts → List ℕ → Type 0
TextOf (Ok Line) old new read =
    Facing new.ended (λ whole more. texts_ahead old (read ++ more) ≡ new.text.items ∷ texts_ahead new more)
    × (new.ended ≡ false → Ends new.text.items)
TextOf (Ok Long) old new read =
    (new.number ≤ most_lines) × ((more : List ℕ) → SomeLine (texts_ahead old (read ++ more)) (λ line. new.most < length (before_lf line)))
TextOf (Ok Beyond) old new read = (most_lines < new.number) × ((more : List ℕ) → SomeLine (texts_ahead old (read ++ more)) (λ line. Unit {0}))
TextOf (Ok End) old new read = (new.ended ≡ true) × (texts_ahead old read ≡ [])
TextOf (Err e) old new read = (old.ended ≡ false) × OpenedText new.most (texts_ahead old read) new.number

pub record ReadsText (result : Result Next Failed) (old new : Texts) (left rest : Option (List ℕ)) : Type 0 where
  pub read : List ℕ
  pub consumed : Consumes left rest read
  pub over : old.ended ≡ true → (read ≡ []) × (new.ended ≡ true)
  pub next : TextOf result old new read

-- the effect of a byte of a line: it is kept, or the line is over
abbrev pub PushedText : Option Next → ℕ → ℕ → List ℕ → ℕ → List ℕ → Type 0
PushedText None n most text b now = (b ≢ 10) × (now ≡ text ++ b ∷ []) × (length now ≤ most) × (n ≤ most_lines)
PushedText (Some Line) n most text b now = (b ≡ 10) × (now ≡ text ++ b ∷ []) × (n ≤ most_lines)
PushedText (Some Long) n most text b now = (b ≢ 10) × (most ≤ length text) × (n ≤ most_lines)
PushedText (Some Beyond) n most text b now = most_lines < n
PushedText (Some End) n most text b now = ⊥

-- bytes were read and taken since the last line, and this much of the next one is kept
pub record TextSo (old now : Texts) (left rest : Option (List ℕ)) : Type 0 where
  pub read : List ℕ
  pub consumed : Consumes left rest read
  pub so_far : (more : List ℕ) → texts_ahead old (read ++ more) ≡ lines_in (now.text.items ++ (pending now.buffer ++ more))
  pub inside : list_all is_inside now.text.items ≡ true
