-- Which bytes are a transcript of a session of some events, and which line is the first that is not
-- licensed.
-- A promise rests on this.
use Rattle.std.specs.Prelude.{◌≡◌, ◌≤◌, ℕ, ◌+◌, ◌⊎◌, List, ◌++◌, length, take}
use Rattle.its_records.specs.Item.{Item}
use Rattle.its_print.specs.Printing.{Line}
use Rattle.its_plain.specs.Transcript.{Fate, Transcript}
use Rattle.its_verify.specs.Lines.{Said, Tells}

-- there are lines that are a transcript of the events, and the bytes are their text; a `P` line may
-- have any text that may occur there
pub record Accepted (es : List Item) (bytes : List ℕ) : Type 0 where
  pub lines : List Line
  pub fate : Fate
  pub transcript : Transcript es lines fate
  pub text : Tells lines bytes

-- the same of bytes that are cut into lines
pub record AcceptedLines (es : List Item) (texts : List (List ℕ)) : Type 0 where
  pub lines : List Line
  pub fate : Fate
  pub transcript : Transcript es lines fate
  pub said : Said lines texts

-- these lines begin a transcript of the events
pub record BeginsTranscript (es : List Item) (texts : List (List ℕ)) : Type 0 where
  pub more : List (List ℕ)
  pub accepted : AcceptedLines es (texts ++ more)

-- line n is the first that is not licensed, or the first that is missing: the lines before it begin
-- a transcript; they with it do not, or it is one more than there are, and the transcript is not at
-- its end
pub record IsFirst (es : List Item) (texts : List (List ℕ)) (n : ℕ) : Type 0 where
  pub before : ℕ
  pub next : n ≡ before + 1
  pub few : before ≤ length texts
  pub begins : BeginsTranscript es (take before texts)
  pub stops : ((before ≡ length texts) × (AcceptedLines es texts → ⊥)) ⊎ (BeginsTranscript es (take n texts) → ⊥)
