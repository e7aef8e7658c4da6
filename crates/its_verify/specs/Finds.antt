-- What is found of an input.
-- No promise rests on this.
use Rattle.std.specs.Prelude.{◌≡◌, ◌≤◌, ◌-◌, ◌++◌, ℕ, true, false, length, IfSome, Option, Some, None, Result, Ok, Err, List, []}
use Rattle.std.specs.Io.KnownBytes.{Consumes}
use Rattle.std.specs.List.{concat, list_all, list_any}
use Rattle.its_io.specs.declared.stream.Failed.{Failed}
use Rattle.its_session.specs.Events.{events_of, most_lines}
use Rattle.its_reader.specs.declared.texts.Texts.{Texts}
use Rattle.its_plain.specs.Transcript.{at_start}
use Rattle.its_plain.specs.Transcript.Turns.{highest}
use Rattle.its_verify.specs.TranscriptReader.{SaidLater, answer_of, cut}
use Rattle.its_verify.specs.Rulings.{judged}
use Rattle.its_verify.specs.Sources.{IsTold, texts_of}
use Rattle.its_verify.specs.Lines.{is_whole, most_bytes}
use Rattle.its_verify.specs.Undecided.{Undecided}
use Rattle.its_verify.specs.Went.{Fell, Went}
use Rattle.its_verify.specs.Verified.{Answer, IsYes, is_end_line, verified}
use Rattle.its_verify.specs.declared.outcome.Outcome.{Outcome}
use Rattle.its_verify.specs.declared.outcome.Outcome.TheVariants.{Yes}
use Rattle.its_verify.specs.declared.keeping.Broken.{Broken}
use Rattle.its_verify.specs.declared.keeping.Broken.TheVariants.{Source, Memory}

-- the source failed, and what was read decides nothing
pub record Breaks (bytes : List ℕ) (rest : Option (List ℕ)) : Type 0 where
  pub read : List ℕ
  pub consumed : Consumes (Some bytes) rest read
  pub undecided : Undecided bytes read

-- memory was refused: what was read is whole lines, none of which is an END line, and the line
-- after them, and what is in the buffer: 768 bytes at most. So no line of a transcript was judged
pub record Unmade (bytes : List ℕ) (rest : Option (List ℕ)) : Type 0 where
  pub lines : List (List ℕ)
  pub more : List ℕ
  pub consumed : Consumes (Some bytes) rest (concat lines ++ more)
  pub whole : list_all is_whole lines ≡ true
  pub none : list_any is_end_line lines ≡ false
  pub few : length more ≤ 768

-- what was found of an input, if its source's bytes are known
abbrev pub Found : Result Outcome Broken → Option (List ℕ) → Option (List ℕ) → Type 0
Found (Ok f) left rest = IfSome left (λ bytes. verified bytes ≡ answer_of f)
Found (Err Source) left rest = IfSome left (λ bytes. Breaks bytes rest)
Found (Err Memory) left rest = IfSome left (λ bytes. Unmade bytes rest)

-- what is said of these lines, if a session of these bytes was read
abbrev pub said_of : Texts → List ℕ → List (List ℕ) → Answer
said_of texts session lines = cut (most_lines - texts.number) 0 (judged at_start highest (events_of session)) lines

-- the source failed after lines of the transcript, and the answer is about none of these lines. If
-- they are all that the session has, not a byte more was read
pub record JudgeFails (texts : Texts) (session : List ℕ) (left rest : Option (List ℕ)) : Type 0 where
  pub at : Texts
  pub mid : Option (List ℕ)
  pub lines : List (List ℕ)
  pub went : Went lines texts at left mid
  pub fell : Fell most_bytes at mid rest
  pub later : SaidLater (length lines) (said_of texts session (texts_of texts left))
  pub ended : IsYes (said_of texts session lines) → fell.begun ≡ []

-- what is said of the lines that a source has left. If memory was refused, nothing of them was read
abbrev pub Judges : Result Outcome Broken → Texts → List ℕ → Option (List ℕ) → Option (List ℕ) → Type 0
Judges (Ok f) texts session left rest = IsTold left → said_of texts session (texts_of texts left) ≡ answer_of f
Judges (Err Source) texts session left rest = IsTold left → JudgeFails texts session left rest
Judges (Err Memory) texts session left rest = rest ≡ left

-- if the transcript is accepted, the source was read to its end
abbrev pub ReadsOut : Outcome → Option (List ℕ) → Option (List ℕ) → Type 0
ReadsOut (Yes n) left rest = IfSome left (λ bytes. rest ≡ Some [])
ReadsOut _ left rest = Unit {0}

-- the same, if there is an answer
abbrev pub ReadsOutIf : Result (Option Outcome) Failed → Option (List ℕ) → Option (List ℕ) → Type 0
ReadsOutIf (Ok None) left rest = Unit {0}
ReadsOutIf (Ok (Some f)) left rest = ReadsOut f left rest
ReadsOutIf (Err e) left rest = Unit {0}
