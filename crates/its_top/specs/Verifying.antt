-- The result of `its verify` (docs/SESSION.md, "its verify").
-- No promise rests on this.
use Rattle.std.specs.Prelude.{◌≡◌, ◌≢◌, ◌≤◌, ◌<◌, ◌⊎◌, ℕ, ◌+◌, Option, Some, IfSome, List, [], ◌++◌, length}
use Rattle.std.specs.Io.KnownBytes.{Appends}
use Rattle.its_session.specs.Events.{events_of, most_lines}
use Rattle.its_reader.specs.TextLines.{lines_in}
use Rattle.its_verify.specs.Accepted.{IsFirst}
use Rattle.its_verify.specs.Finds.{Breaks, Unmade}
use Rattle.its_verify.specs.Rulings.{Yes, No}
use Rattle.its_verify.specs.Verified.{Answer, Judged, Long, Cut, TooLong, LongLine, NoEnd, TooMany, parts_from, verified, answer_text}
use Rattle.its_top.specs.Promise.{IsCut, Licensed}
use Rattle.its_top.specs.declared.commands.status.Status.{Status}
use Rattle.its_top.specs.declared.commands.status.Status.TheVariants as statuses

-- line n of the transcript is the first that is not licensed, or that is missing, and there is room
-- for all lines or for this one
pub record Unlicensed (bytes : List ℕ) (n : ℕ) : Type 0 where
  pub session : List ℕ
  pub count : ℕ
  pub transcript : List ℕ
  pub cut : IsCut bytes session count transcript
  pub first : IsFirst (events_of session) (lines_in transcript) n
  pub room : (count + length (lines_in transcript) ≤ most_lines) ⊎ (count + n ≤ most_lines)

-- there is no room for all lines, nor for the first one that is not licensed
pub record PastRoom (bytes : List ℕ) : Type 0 where
  pub session : List ℕ
  pub count : ℕ
  pub transcript : List ℕ
  pub cut : IsCut bytes session count transcript
  pub more : most_lines < count + length (lines_in transcript)
  pub none : (n : ℕ) → IsFirst (events_of session) (lines_in transcript) n → most_lines < count + n

-- what of an input makes this its answer
abbrev pub Why : List ℕ → Answer → Type 0
Why bytes (Judged (Yes n)) = Licensed bytes n
Why bytes (Judged (No n)) = Unlicensed bytes n
Why bytes (Long n) = parts_from 1 [] (lines_in bytes) ≡ LongLine n
Why bytes (Cut n) = parts_from 1 [] (lines_in bytes) ≡ NoEnd n
Why bytes TooLong = (parts_from 1 [] (lines_in bytes) ≡ TooMany) ⊎ PastRoom bytes

-- the status of an answer
abbrev pub status_of : Answer → Status
status_of (Judged (Yes n)) = statuses.Done
status_of (Judged (No n)) = statuses.Refused
status_of (Long n) = statuses.Refused
status_of (Cut n) = statuses.Refused
status_of TooLong = statuses.TooLong

-- an answer that was to be written has this status, and w was written
abbrev pub ToldAs : Status → Answer → List ℕ → Type 0
ToldAs statuses.WriteFault a w = (more : List ℕ) × (answer_text a ≡ w ++ more)
ToldAs statuses.Usage a w = ⊥
ToldAs statuses.ReadFault a w = ⊥
ToldAs statuses.NoMemory a w = ⊥
ToldAs status a w = (status ≡ status_of a) × (answer_text a ≡ w)

pub record TellsAnswer (status : Status) (a : Answer) (old new : Option (List ℕ)) : Type 0 where
  pub wrote : List ℕ
  pub appended : Appends old new wrote
  pub told : ToldAs status a wrote

-- a verification of these bytes has this status, and wrote w. If the source failed, what was read
-- decides nothing, and nothing was written; if memory was refused, no line of the transcript was
-- judged, and nothing was written
abbrev pub VerifyOf : Status → List ℕ → Option (List ℕ) → List ℕ → Type 0
VerifyOf statuses.ReadFault bytes rest w = Breaks bytes rest × (w ≡ [])
VerifyOf statuses.NoMemory bytes rest w = Unmade bytes rest × (w ≡ [])
VerifyOf status bytes rest w = ToldAs status (verified bytes) w

-- how a verification ended, from what its source had left and had left then, and from what its sink
-- was given
pub record Verify (status : Status) (left rest old new : Option (List ℕ)) : Type 0 where
  pub wrote : List ℕ
  pub appended : Appends old new wrote
  pub ran : status ≢ statuses.Usage
  pub found : IfSome left (λ bytes. VerifyOf status bytes rest wrote)
  pub input : status ≡ statuses.Done → IfSome left (λ bytes. rest ≡ Some [])
  pub unwritten : (status ≡ statuses.NoMemory) ⊎ (status ≡ statuses.ReadFault) → new ≡ old
