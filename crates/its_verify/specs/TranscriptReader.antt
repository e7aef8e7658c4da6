-- What is said of the lines of a transcript that are left, line by line.
-- No promise rests on this.
use Rattle.std.specs.Prelude.{if◌then◌else◌, ◌≡◌, ◌≤◌, ◌<◌, ◌⊎◌, ℕ, ◌+◌, ◌-◌, Bool, true, false, Option, Some, None, Result, Ok, Err, List, [], ◌∷◌, ◌++◌, length, take, nat_le, bytes_eq}
use Rattle.its_io.specs.declared.stream.Failed.{Failed}
use Rattle.its_session.specs.Events.{most_lines}
use Rattle.its_reader.specs.Lines.{SomeLine}
use Rattle.its_reader.specs.TextLines.{before_lf}
use Rattle.its_reader.specs.Texts.{ReadyTexts}
use Rattle.its_verify.specs.Sources.{IsTold, texts_of}
use Rattle.its_verify.specs.Went.{Fell, Went}
use Rattle.its_verify.specs.Lines.{most_bytes}
use Rattle.its_verify.specs.Letters.{if_so}
use Rattle.its_verify.specs.Rulings.{Ruling, Verdict, Yes, No}
use Rattle.its_verify.specs.Verified.{Answer, IsYes, Judged, Long, Cut, TooLong, within}
use Rattle.its_verify.specs.declared.outcome.Outcome.{Outcome}
use Rattle.its_verify.specs.declared.outcome.Outcome.TheVariants as outcomes
use Rattle.its_verify.specs.declared.transcript_reader.TranscriptReader.{TranscriptReader}

abbrev pub answer_of : Outcome → Answer
answer_of (outcomes.Yes n) = Judged (Yes n)
answer_of (outcomes.No n) = Judged (No n)
answer_of (outcomes.Long n) = Long n
answer_of (outcomes.Cut n) = Cut n
answer_of outcomes.TooLong = TooLong

-- what a judge says of the lines that are left after n that are licensed, if there is room for so
-- many in all
abbrev pub cut : ℕ → ℕ → Ruling → List (List ℕ) → Answer
cut room n ruling texts =
    if nat_le (n + length texts) room then Judged (ruling n texts)
    else within room (ruling n (take (room - n) texts))

-- a line that says just these bytes
abbrev pub same_as : List ℕ → List ℕ → Option (List ℕ)
same_as line bytes = if_so (bytes_eq bytes line) bytes

-- no line that is too long is read
abbrev pub Strict : {X : Type 0} → (List ℕ → Option X) → Type 0
Strict reads = (text : List ℕ) → most_bytes < length (before_lf text) → reads text ≡ None

-- between two lines of a transcript
pub record AtLine (h : TranscriptReader) (left : Option (List ℕ)) : Type 0 where
  pub ready : ReadyTexts h.texts left
  pub most : h.texts.most ≡ most_bytes
  pub count : h.texts.number + h.room ≡ most_lines + h.passed
  pub few : h.passed ≤ h.room
  pub bound : h.room ≤ most_lines

-- the same when a line was read that is not judged yet
pub record Reads (h : TranscriptReader) (left : Option (List ℕ)) : Type 0 where
  pub ready : ReadyTexts h.texts left
  pub most : h.texts.most ≡ most_bytes
  pub count : h.texts.number + h.room ≡ most_lines + (h.passed + 1)
  pub few : h.passed < h.room
  pub bound : h.room ≤ most_lines

-- a line was read, and none is passed
pub record Beside (old new : TranscriptReader) : Type 0 where
  pub passed : new.passed ≡ old.passed
  pub room : new.room ≡ old.room

-- why no line is read if one is wanted: there is none, the next is too long, or there is no room
-- for it
abbrev pub Lacks : Outcome → ℕ → ℕ → List (List ℕ) → Type 0
Lacks (outcomes.No k) room n texts = (k ≡ n + 1) × ((texts ≡ []) ⊎ ((n < room) × SomeLine texts (λ line. most_bytes < length (before_lf line))))
Lacks outcomes.TooLong room n texts = (room ≤ n) × SomeLine texts (λ line. Unit {0})
Lacks _ room n texts = ⊥

-- some lines were read, and all are passed: what a judge says of them and any others is what the
-- next says of the others
pub record Passed (old new : TranscriptReader) (left rest : Option (List ℕ)) (ruling next : Ruling) : Type 0 where
  pub lines : List (List ℕ)
  pub went : Went lines old.texts new.texts left rest
  pub passed : new.passed ≡ old.passed + length lines
  pub texts : texts_of old.texts left ≡ lines ++ texts_of new.texts rest
  pub leads : (more : List (List ℕ)) → cut old.room old.passed ruling (lines ++ more) ≡ cut new.room new.passed next more

-- a verdict that is about none of the first n lines
abbrev pub Later : ℕ → Verdict → Type 0
Later n (Yes k) = n ≤ k
Later n (No k) = n < k

abbrev pub SaidLater : ℕ → Answer → Type 0
SaidLater n (Judged v) = Later n v
SaidLater n TooLong = Unit {0}
SaidLater n (Long k) = ⊥
SaidLater n (Cut k) = ⊥

-- a judge says nothing of lines that are licensed already
pub record Forward (ruling : Ruling) : Type 0 where
  pub later : (n : ℕ) (texts : List (List ℕ)) → Later n (ruling n texts)

-- the source failed after lines that are passed: the answer is about none of these lines. If they
-- are all that the session has, not a byte more was read
pub record Failing (old : TranscriptReader) (left rest : Option (List ℕ)) (ruling : Ruling) : Type 0 where
  pub at : TranscriptReader
  pub mid : Option (List ℕ)
  pub next : Ruling
  pub passed : Passed old at left mid ruling next
  pub fell : Fell most_bytes at.texts mid rest
  pub later : SaidLater at.passed (cut at.room at.passed next (texts_of at.texts mid))
  pub ended : IsYes (cut at.room at.passed next []) → fell.begun ≡ []

-- the next line was read, or is lacking
abbrev pub ReadsOn : Result (Option Outcome) Failed → TranscriptReader → TranscriptReader → Option (List ℕ) → Option (List ℕ) → Type 0
ReadsOn (Ok None) old new left rest =
    Reads new rest
    × (IsTold left
    → (texts_of old.texts left ≡ new.texts.text.items ∷ texts_of new.texts rest)
    × IsTold rest
    × Went (new.texts.text.items ∷ []) old.texts new.texts left rest)
ReadsOn (Ok (Some f)) old new left rest = IsTold left → Lacks f old.room old.passed (texts_of old.texts left)
ReadsOn (Err e) old new left rest = IsTold left → Fell most_bytes old.texts left rest

-- a judge was led on to the next
abbrev pub PassesOn : TranscriptReader → TranscriptReader → Option (List ℕ) → Option (List ℕ) → Ruling → Ruling → Type 0
PassesOn old new left rest ruling next = IsTold left → IsTold rest × Passed old new left rest ruling next

-- a judge was led on to the next, or all is said
abbrev pub Says : Result (Option Outcome) Failed → TranscriptReader → TranscriptReader → Option (List ℕ) → Option (List ℕ) → Ruling → Ruling → Type 0
Says (Ok None) old new left rest ruling next = PassesOn old new left rest ruling next
Says (Ok (Some f)) old new left rest ruling next = IsTold left → cut old.room old.passed ruling (texts_of old.texts left) ≡ answer_of f
Says (Err e) old new left rest ruling next = Forward next → IsTold left → Failing old left rest ruling

-- all is said that a judge says of the lines that were left
abbrev pub Concludes : Result Outcome Failed → TranscriptReader → Option (List ℕ) → Option (List ℕ) → Ruling → Type 0
Concludes (Ok f) old left rest ruling = IsTold left → cut old.room old.passed ruling (texts_of old.texts left) ≡ answer_of f
Concludes (Err e) old left rest ruling = IsTold left → Failing old left rest ruling

-- if it goes on, all holds together
abbrev pub Stays : Result (Option Outcome) Failed → TranscriptReader → Option (List ℕ) → Type 0
Stays (Ok None) new rest = AtLine new rest
Stays (Ok (Some f)) new rest = Unit {0}
Stays (Err e) new rest = Unit {0}

-- whether a line that was read is licensed: it is passed then, and otherwise the verdict is known
abbrev pub PassedIf : Option Outcome → Bool → TranscriptReader → TranscriptReader → Type 0
PassedIf None licensed old new = (licensed ≡ true) × (new ≡ record old { passed = old.passed + 1 })
PassedIf (Some f) licensed old new = (licensed ≡ false) × (f ≡ outcomes.No (old.passed + 1))
