-- What each answer of the program says: why it comes, what was written, and what was read
-- (docs/PROVED.md, "Answers"). What is written of a session is a function of its events, by the
-- stepped machine; that it is a transcript is said in Promise.
-- No promise rests on this.
use Rattle.std.specs.Prelude.{◌≡◌, ◌≢◌, ◌⊎◌, ℕ, ◌+◌, true, false, Option, Some, IfSome, Err, List, [], ◌++◌, codes}
use Rattle.std.specs.Io.KnownBytes.{Appends, Consumes}
use Rattle.its_print.specs.Printing.{text}
use Rattle.its_session.specs.Events.{events_of, whole_events_of}
use Rattle.its_reader.specs.Items.{ReadOut}
use Rattle.its_reader.specs.Limits.{WithinLimits}
use Rattle.its_plain.specs.Transcript.{Open, Refused, TooLong}
use Rattle.its_stepped.specs.Lines.{stepped}
use Rattle.its_verify.specs.Finds.{Unmade}
use Rattle.its_verify.specs.Rulings.{Yes}
use Rattle.its_verify.specs.Undecided.{Undecided}
use Rattle.its_verify.specs.Verified.{Answer, Judged, answer_text}
use Rattle.its_verify.specs.Verified as verified
use Rattle.its_asm.specs.Assembly.{assembly}
use Rattle.its_asm.specs.declared.reason.AsmFault.TheVariants.{Line as LineFault}
use Rattle.its_asm.specs.declared.reason.AsmReason.{AsmReason}
use Rattle.its_asm_command.specs.Past.{runs_past}
use Rattle.its_asm_command.specs.Written.{assembly_text, fault_line}
use Rattle.its_top.specs.declared.commands.status.Status.{Status}
use Rattle.its_top.specs.declared.commands.status.Status.TheVariants as statuses
use Rattle.its_top.specs.declared.commands.checking.Checked.TheVariants as checks
use Rattle.its_top.specs.Conclusion.{IsDone}
use Rattle.its_top.specs.Checking.{checked, checked_text, Passes, Fails, GoesOn}
use Rattle.its_top.specs.Generating.{generated_text}
use Rattle.its_top.specs.Assembling.{answer_to}
use Rattle.its_top.specs.Verifying.{Why, status_of}
use Rattle.its_top.specs.Promise.{Assembled, Licensed, Saved, Transcribed, Vouched}
use Rattle.its_top.specs.Saving.{last_alone, save_text}

abbrev pub usage : List ℕ
usage = codes "usage: its run | its check | its gen N | its verify | its asm | its save\n"

-- an answer with which nothing is left to be written
abbrev pub WroteAll : Status → Type 0
WroteAll statuses.Done = Unit {0}
WroteAll statuses.Refused = Unit {0}
WroteAll statuses.TooLong = Unit {0}
WroteAll _ = ⊥

-- no object failed
abbrev pub Unfailed : Status → Type 0
Unfailed statuses.ReadFault = ⊥
Unfailed statuses.WriteFault = ⊥
Unfailed _ = Unit {0}

-- an object's count of faults rose by one if the answer is the fault of this object, and is
-- unchanged with any other answer
pub record Faults (fault status : Status) (before now : ℕ) : Type 0 where
  pub once : status ≡ fault → now ≡ before + 1
  pub unfailed : status ≢ fault → now ≡ before

-- the sink failed: what was written begins what was to be written
pub record Begins (all : List ℕ) (old new : Option (List ℕ)) : Type 0 where
  pub first : List ℕ
  pub more : List ℕ
  pub whole : all ≡ first ++ more
  pub wrote : Appends old new first

-- what `its run` wrote, line by line: the lines of the transcript are those that the stepped
-- machine shows
pub record Writes (status : Status) (bytes : List ℕ) (old new : Option (List ℕ)) : Type 0 where
  pub transcribed : Transcribed status bytes old new
  pub lines : transcribed.lines ≡ (stepped (events_of bytes)).lines
  pub wrote : Appends old new (text (stepped (events_of bytes)).lines)

-- no line is refused, and no line past the most begins before END; all lines were written
pub record Completes (bytes : List ℕ) (old new : Option (List ℕ)) : Type 0 where
  pub done : IsDone (stepped (events_of bytes)).fate
  pub wrote : Appends old new (text (stepped (events_of bytes)).lines)

-- a line is refused; all lines up to and with its `?` line were written
pub record Refuses (bytes : List ℕ) (old new : Option (List ℕ)) : Type 0 where
  pub refused : (stepped (events_of bytes)).fate ≡ Refused
  pub wrote : Appends old new (text (stepped (events_of bytes)).lines)

-- a line past the most begins before END and before a refused line; what the lines before it show
-- was written
pub record RunsOn (bytes : List ℕ) (old new : Option (List ℕ)) : Type 0 where
  pub too_long : (stepped (events_of bytes)).fate ≡ TooLong
  pub wrote : Appends old new (text (stepped (events_of bytes)).lines)

-- the source failed: what was written is what the whole lines that were read show. None of them is
-- END or refused. No line that was read is too long or past the most, not even the one that had
-- begun
pub record Breaks (bytes : List ℕ) (rest old new : Option (List ℕ)) : Type 0 where
  pub read : List ℕ
  pub consumed : Consumes (Some bytes) rest read
  pub open_end : (stepped (whole_events_of read)).fate ≡ Open
  pub limits : WithinLimits read
  pub wrote : Appends old new (text (stepped (whole_events_of read)).lines)

-- of `run`, if the bytes of the source are known
pub record RunSays (status : Status) (bytes : List ℕ) (rest old new : Option (List ℕ)) : Type 0 where
  pub transcript : WroteAll status → Transcribed status bytes old new
  pub written : WroteAll status → Writes status bytes old new
  pub vouched : WroteAll status → Vouched bytes old new
  pub done : status ≡ statuses.Done → Completes bytes old new
  pub input : status ≡ statuses.Done → ReadOut bytes rest
  pub refused : status ≡ statuses.Refused → Refuses bytes old new
  pub too_long : status ≡ statuses.TooLong → RunsOn bytes old new
  pub broken : status ≡ statuses.ReadFault → Breaks bytes rest old new
  pub begun : status ≡ statuses.WriteFault → Begins (text (stepped (events_of bytes)).lines) old new
  pub complete : Unfailed status → IsDone (stepped (events_of bytes)).fate → (status ≡ statuses.Done) ⊎ (status ≡ statuses.NoMemory)

-- of `run`; if memory was refused, nothing was read
pub record OfRun (status : Status) (left rest old new : Option (List ℕ)) : Type 0 where
  pub says : IfSome left (λ bytes. RunSays status bytes rest old new)
  pub command : status ≢ statuses.Usage
  pub unread : status ≡ statuses.NoMemory → rest ≡ left

-- what `its check` wrote: no line is refused by the grammar, and `OK n` was written
pub record CheckPasses (bytes : List ℕ) (old new : Option (List ℕ)) : Type 0 where
  pub passes : Passes (checked (events_of bytes))
  pub wrote : Appends old new (checked_text (checked (events_of bytes)))

-- a line is refused by the grammar, and its `?` line was written
pub record CheckFails (bytes : List ℕ) (old new : Option (List ℕ)) : Type 0 where
  pub fails : Fails (checked (events_of bytes))
  pub wrote : Appends old new (checked_text (checked (events_of bytes)))

-- a line past the most begins before END and before a refused line; nothing was written
pub record CheckRunsOn (bytes : List ℕ) (old new : Option (List ℕ)) : Type 0 where
  pub too_long : checked (events_of bytes) ≡ checks.TooLong
  pub wrote : Appends old new []

-- the source failed: no whole line that was read is END or refused, no line is too long or past the
-- most, not even the one that had begun, and nothing was written
pub record CheckBreaks (bytes : List ℕ) (rest old new : Option (List ℕ)) : Type 0 where
  pub read : List ℕ
  pub consumed : Consumes (Some bytes) rest read
  pub goes_on : GoesOn (checked (whole_events_of read))
  pub limits : WithinLimits read
  pub wrote : Appends old new []

-- of `check`, if the bytes of the source are known
pub record CheckSays (status : Status) (bytes : List ℕ) (rest old new : Option (List ℕ)) : Type 0 where
  pub done : status ≡ statuses.Done → CheckPasses bytes old new
  pub input : status ≡ statuses.Done → ReadOut bytes rest
  pub refused : status ≡ statuses.Refused → CheckFails bytes old new
  pub too_long : status ≡ statuses.TooLong → CheckRunsOn bytes old new
  pub broken : status ≡ statuses.ReadFault → CheckBreaks bytes rest old new
  pub begun : status ≡ statuses.WriteFault → Begins (checked_text (checked (events_of bytes))) old new
  pub complete : Unfailed status → Passes (checked (events_of bytes)) → status ≡ statuses.Done

-- of `check`, which needs no memory
pub record OfCheck (status : Status) (left rest old new : Option (List ℕ)) : Type 0 where
  pub says : IfSome left (λ bytes. CheckSays status bytes rest old new)
  pub command : status ≢ statuses.Usage
  pub memory : status ≢ statuses.NoMemory

-- of `gen` with so many rounds, which reads nothing
pub record OfGen (n : ℕ) (status : Status) (left rest old new : Option (List ℕ)) : Type 0 where
  pub done : status ≡ statuses.Done → Appends old new (generated_text n)
  pub begun : status ≡ statuses.WriteFault → Begins (generated_text n) old new
  pub ends : ((status ≡ statuses.Done) ⊎ (status ≡ statuses.WriteFault)) ⊎ (status ≡ statuses.NoMemory)
  pub unread : rest ≡ left

-- of words that are no command: nothing is read for them, and they need no memory
pub record OfNoCommand (status : Status) (left rest old new : Option (List ℕ)) : Type 0 where
  pub done : status ≡ statuses.Usage → Appends old new usage
  pub begun : status ≡ statuses.WriteFault → Begins usage old new
  pub ends : (status ≡ statuses.Usage) ⊎ (status ≡ statuses.WriteFault)
  pub unread : rest ≡ left

-- what `its verify` wrote: the transcript of so many lines is one of the session, and `YES n` was
-- written. The input was read to its end
pub record Verifies (bytes : List ℕ) (rest old new : Option (List ℕ)) : Type 0 where
  pub lines : ℕ
  pub licensed : Licensed bytes lines
  pub wrote : Appends old new (answer_text (Judged (Yes lines)))
  pub over : rest ≡ Some []

-- a line of the transcript is not licensed or is missing, a line of the session is too long, or
-- there is no END line; the one line that says so was written, with the number of the line
pub record VerifyRefuses (bytes : List ℕ) (old new : Option (List ℕ)) : Type 0 where
  pub answer : Answer
  pub refused : status_of answer ≡ statuses.Refused
  pub why : Why bytes answer
  pub wrote : Appends old new (answer_text answer)

-- a line past the most begins, and no line before it is refused; nothing was written
pub record VerifyRunsOn (bytes : List ℕ) (old new : Option (List ℕ)) : Type 0 where
  pub past : Why bytes verified.TooLong
  pub wrote : Appends old new []

-- the source failed: what was read decides nothing, and nothing was written
pub record VerifyBreaks (bytes : List ℕ) (rest old new : Option (List ℕ)) : Type 0 where
  pub read : List ℕ
  pub consumed : Consumes (Some bytes) rest read
  pub undecided : Undecided bytes read
  pub wrote : Appends old new []

-- an input that has the reason of an answer has the status of that answer, or memory was refused
pub record VerifyAnswers (status : Status) (bytes : List ℕ) : Type 0 where
  pub answers : (a : Answer) → Why bytes a → (status ≡ status_of a) ⊎ (status ≡ statuses.NoMemory)

-- of `verify`, if the bytes of the source are known
pub record VerifySays (status : Status) (bytes : List ℕ) (rest old new : Option (List ℕ)) : Type 0 where
  pub done : status ≡ statuses.Done → Verifies bytes rest old new
  pub refused : status ≡ statuses.Refused → VerifyRefuses bytes old new
  pub too_long : status ≡ statuses.TooLong → VerifyRunsOn bytes old new
  pub broken : status ≡ statuses.ReadFault → VerifyBreaks bytes rest old new
  pub begun : status ≡ statuses.WriteFault → Begins (answer_text (verified.verified bytes)) old new
  pub answered : Unfailed status → VerifyAnswers status bytes
  pub unmade : status ≡ statuses.NoMemory → Unmade bytes rest

-- of `verify`
pub record OfVerify (status : Status) (left rest old new : Option (List ℕ)) : Type 0 where
  pub says : IfSome left (λ bytes. VerifySays status bytes rest old new)
  pub command : status ≢ statuses.Usage
  pub unwritten : status ≡ statuses.ReadFault → new ≡ old

-- line n is the first that is refused, for this reason, and its `?` line was written
pub record AsmRefuses (bytes : List ℕ) (old new : Option (List ℕ)) : Type 0 where
  pub line : ℕ
  pub reason : AsmReason
  pub refused : assembly bytes ≡ Err (LineFault line reason)
  pub few : runs_past bytes ≡ false
  pub wrote : Appends old new (fault_line line reason)

-- a line past the most begins, and no line before it has more than 255 bytes; nothing was written
pub record AsmRunsOn (bytes : List ℕ) (old new : Option (List ℕ)) : Type 0 where
  pub beyond : runs_past bytes ≡ true
  pub wrote : Appends old new []

-- the sink failed: what was written begins the text of the assembly's result, and the text of the
-- source is not too long
pub record AsmBegins (bytes : List ℕ) (old new : Option (List ℕ)) : Type 0 where
  pub few : runs_past bytes ≡ false
  pub begins : Begins (assembly_text (assembly bytes)) old new

-- a text that is too long is TooLong, even if memory was refused; any other one has its answer, or
-- memory was refused
pub record AsmAnswers (status : Status) (bytes : List ℕ) : Type 0 where
  pub past : runs_past bytes ≡ true → status ≡ statuses.TooLong
  pub within : runs_past bytes ≡ false → (status ≡ answer_to (assembly bytes)) ⊎ (status ≡ statuses.NoMemory)

-- the source failed: no line that was read is too long or past the most, not even the one that had
-- begun, and nothing was written
pub record AsmBreaks (bytes : List ℕ) (rest old new : Option (List ℕ)) : Type 0 where
  pub read : List ℕ
  pub consumed : Consumes (Some bytes) rest read
  pub limits : WithinLimits read
  pub wrote : Appends old new []

-- of `asm`, if the bytes of the source are known
pub record AsmSays (status : Status) (bytes : List ℕ) (rest old new : Option (List ℕ)) : Type 0 where
  pub done : status ≡ statuses.Done → Assembled bytes rest old new
  pub refused : status ≡ statuses.Refused → AsmRefuses bytes old new
  pub too_long : status ≡ statuses.TooLong → AsmRunsOn bytes old new
  pub broken : status ≡ statuses.ReadFault → AsmBreaks bytes rest old new
  pub begun : status ≡ statuses.WriteFault → AsmBegins bytes old new
  pub answered : Unfailed status → AsmAnswers status bytes

-- of `asm`
pub record OfAsm (status : Status) (left rest old new : Option (List ℕ)) : Type 0 where
  pub says : IfSome left (λ bytes. AsmSays status bytes rest old new)
  pub command : status ≢ statuses.Usage

-- what `its save` wrote: the lines of the system that the session leads to, which are those of the
-- promise
pub record SaveDone (bytes : List ℕ) (old new : Option (List ℕ)) : Type 0 where
  pub done : IsDone (stepped (events_of bytes)).fate
  pub saved : Saved bytes old new
  pub wrote : Appends old new (save_text (events_of bytes))

-- a line is refused; its `?` line alone was written
pub record SaveRefuses (bytes : List ℕ) (old new : Option (List ℕ)) : Type 0 where
  pub refused : (stepped (events_of bytes)).fate ≡ Refused
  pub wrote : Appends old new (text (last_alone (stepped (events_of bytes)).lines))

-- a line past the most begins before END and before a refused line; nothing was written
pub record SaveRunsOn (bytes : List ℕ) (old new : Option (List ℕ)) : Type 0 where
  pub too_long : (stepped (events_of bytes)).fate ≡ TooLong
  pub wrote : Appends old new []

-- the source failed: none of the whole lines that were read is END or refused, no line is too long
-- or past the most, not even the one that had begun, and nothing was written
pub record SaveBreaks (bytes : List ℕ) (rest old new : Option (List ℕ)) : Type 0 where
  pub read : List ℕ
  pub consumed : Consumes (Some bytes) rest read
  pub open_end : (stepped (whole_events_of read)).fate ≡ Open
  pub limits : WithinLimits read
  pub wrote : Appends old new []

-- of `save`, if the bytes of the source are known
pub record SaveSays (status : Status) (bytes : List ℕ) (rest old new : Option (List ℕ)) : Type 0 where
  pub done : status ≡ statuses.Done → SaveDone bytes old new
  pub input : status ≡ statuses.Done → ReadOut bytes rest
  pub refused : status ≡ statuses.Refused → SaveRefuses bytes old new
  pub too_long : status ≡ statuses.TooLong → SaveRunsOn bytes old new
  pub broken : status ≡ statuses.ReadFault → SaveBreaks bytes rest old new
  pub begun : status ≡ statuses.WriteFault → Begins (save_text (events_of bytes)) old new
  pub complete : Unfailed status → IsDone (stepped (events_of bytes)).fate → (status ≡ statuses.Done) ⊎ (status ≡ statuses.NoMemory)

-- of `save`; if memory was refused, nothing was read
pub record OfSave (status : Status) (left rest old new : Option (List ℕ)) : Type 0 where
  pub says : IfSome left (λ bytes. SaveSays status bytes rest old new)
  pub command : status ≢ statuses.Usage
  pub unread : status ≡ statuses.NoMemory → rest ≡ left
