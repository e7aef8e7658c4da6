-- What the program promises, for a reader who opens one file: of `run`, that what it writes is a
-- transcript of its session (`Transcribed`), and that `verify` accepts it (`Vouched`); what YES of
-- `verify` means (`Licensed`), what Done of `asm` means (`Assembled`), and what Done of `save`
-- means (`Saved`). What else each answer says, and which text is written, is in Outcomes.
-- A promise rests on this.
use Rattle.std.specs.Prelude.{◌≡◌, ◌≢◌, ◌≤◌, ℕ, ◌+◌, length, map, false, Option, Some, Ok, List, [], ◌∷◌, ◌++◌}
use Rattle.std.specs.Io.KnownBytes.{Appends}
use Rattle.its_records.specs.Item.{Item, Read}
use Rattle.its_records.specs.declared.session.Event.{Event}
use Rattle.its_print.specs.Printing.{Line, text}
use Rattle.its_records.specs.declared.session.Place.TheVariants as places
use Rattle.its_session.specs.Events.{events_of, most_lines, before_end, place_past}
use Rattle.its_session.specs.Fits.{ReadAt}
use Rattle.its_session.specs.Writing.{lines_text}
use Rattle.its_reader.specs.TextLines.{lines_in}
use Rattle.its_plain.specs.Transcript.{Fate, Open, Refused, TooLong, Transcript, Ended}
use Rattle.its_plain.specs.Machine.{Machine}
use Rattle.its_plain.specs.Transcript.Course.{run_of, last_turn}
use Rattle.its_plain.specs.Promise.Ledger.{Ledger}
use Rattle.its_plain.specs.Promise.LinkLedger.{LinkLedger}
use Rattle.its_plain.specs.Promise.Stretch.{Stretches}
use Rattle.its_plain.specs.Promise.Fair.{FairTurns}
use Rattle.its_plain.specs.Promise.FewDots.{FewDots}
use Rattle.its_security.specs.RunIntegrity.{Integrity}
use Rattle.its_security.specs.Confidential.{Confidential}
use Rattle.its_verify.specs.Accepted.{Accepted}
use Rattle.its_verify.specs.Rulings.{Yes}
use Rattle.its_verify.specs.Verified.{Judged, Both, parts_from, verified}
use Rattle.its_asm.specs.Assembly.{assembly}
use Rattle.its_asm.specs.declared.assembly.Image.{Image}
use Rattle.its_asm_command.specs.Past.{runs_past}
use Rattle.its_asm_command.specs.Written.{image_events}
use Rattle.its_asm_command.specs.Loading.{IsWhole}
use Rattle.its_top.specs.declared.commands.status.Status.{Status}
use Rattle.its_top.specs.declared.commands.status.Status.TheVariants as statuses

-- the answer of the program to a session with this end
abbrev pub answer_of : Fate → Status
answer_of Ended = statuses.Done
answer_of Open = statuses.Done
answer_of Refused = statuses.Refused
answer_of TooLong = statuses.TooLong

-- what `its run` wrote of the session that these bytes are, if its answer is Done, Refused or
-- TooLong
pub record Transcribed (status : Status) (bytes : List ℕ) (old new : Option (List ℕ)) : Type 0 where
  -- Lines were written.
  pub lines : List Line
  -- Their text is all that was written.
  pub wrote : Appends old new (text lines)
  -- The session has events.
  pub events : List Item
  -- They are those of its bytes.
  pub read : events ≡ events_of bytes
  -- The session has an end.
  pub fate : Fate
  -- The lines are those that the plain machine shows of these events, up to this end.
  pub transcript : Transcript events lines fate
  -- The answer of the program is that of this end.
  pub answer : status ≡ answer_of fate
  -- No byte between a console and the jobs is lost, doubled or put out of its order.
  pub ledger : Ledger events lines
  -- No word that goes through a link is lost, doubled or put out of its order, as long as the link
  -- exists.
  pub links : LinkLedger events lines
  -- Each stretch of a transfer moves its bytes once and in their order.
  pub stretches : Stretches events lines
  -- At most twelve `.` come between two `*` of a job that is not disturbed.
  pub dots : FewDots events lines
  -- The turns of each RUN line are fair.
  pub fair : FairTurns events lines
  -- Each step and each line changes only what it may, and what a reader reads is unchanged.
  pub integrity : Integrity events lines
  -- A job learns of jobs that are neither above nor below it only what is listed.
  pub confidential : Confidential events lines

-- these bytes are a session of so many lines, the last of which is its only END line, with its LF
pub record EndsSession (session : List ℕ) (count : ℕ) : Type 0 where
  -- Its first END line is its last line.
  pub parts : parts_from 1 [] (lines_in session) ≡ Both session count []
  -- There are bytes before its last one.
  pub before : List ℕ
  -- Its last byte is LF.
  pub last : session ≡ before ++ 10 ∷ []

-- what `its run` wrote is accepted by `its verify`
pub record Vouched (bytes : List ℕ) (old new : Option (List ℕ)) : Type 0 where
  -- Bytes were written.
  pub written : List ℕ
  -- They are all that was written.
  pub wrote : Appends old new written
  -- They are so many lines.
  pub count : ℕ
  -- That is their number.
  pub counted : count ≡ length (lines_in written)
  -- If the input begins with a session up to its END line, and there is room for the lines of both,
  -- `verify` says YES of this session followed by what was written.
  pub vouched : (session rest : List ℕ) (lines : ℕ)
      → session ++ rest ≡ bytes → EndsSession session lines → lines + count ≤ most_lines
      → verified (session ++ written) ≡ Judged (Yes count)

-- an input, cut after its first END line: the bytes of the session, which are so many lines, and
-- those of the transcript
pub record IsCut (bytes session : List ℕ) (count : ℕ) (transcript : List ℕ) : Type 0 where
  -- The input is the one and then the other.
  pub whole : session ++ transcript ≡ bytes
  -- The session ends with the first END line.
  pub parts : parts_from 1 [] (lines_in bytes) ≡ Both session count (lines_in transcript)

-- what YES n of `its verify` means for this input
pub record Licensed (bytes : List ℕ) (n : ℕ) : Type 0 where
  -- There is a session.
  pub session : List ℕ
  -- It has so many lines.
  pub count : ℕ
  -- There is a transcript.
  pub transcript : List ℕ
  -- The input is this session followed by this transcript.
  pub cut : IsCut bytes session count transcript
  -- These bytes are the text of a transcript of the session's events.
  pub accepted : Accepted (events_of session) transcript
  -- The transcript has n lines.
  pub lines : n ≡ length (lines_in transcript)
  -- There is room for the lines of both.
  pub room : count + n ≤ most_lines

-- what `its asm` wrote of the text that these bytes are, if its answer is Done
pub record Assembled (bytes : List ℕ) (rest old new : Option (List ℕ)) : Type 0 where
  -- The text was read to its end.
  pub over : rest ≡ Some []
  -- It does not have too many lines.
  pub few : runs_past bytes ≡ false
  -- There is an image.
  pub image : Image
  -- The text is assembled to this image: no line of it is refused.
  pub assembled : assembly bytes ≡ Ok image
  -- The image has a session.
  pub session : List Event
  -- It loads the image into one job.
  pub loads : session ≡ image_events image
  -- Its lines are all that was written.
  pub wrote : Appends old new (lines_text session)
  -- The grammar reads these lines whole, and the plain machine then has the job of the image.
  pub whole : IsWhole image

-- these events show nothing, lead to this machine after a turn of this slot, and leave no block
-- open
pub record Restores (events : List Event) (machine : Machine) (turn : ℕ) : Type 0 where
  -- The transcript of these events has no line.
  pub silent : Transcript (map Read events) [] Open
  -- The plain machine at their end is this one, equal in all it has.
  pub leads : (run_of (map Read events) []).last ≡ machine
  -- The turn of RUN that follows is the one that follows a turn of this slot.
  pub next : last_turn (run_of (map Read events) []) ≡ turn
  -- What follows them is outside any block.
  pub outside : place_past places.First events ≡ places.Plain

-- what `its save` wrote of the session that these bytes are, if its answer is Done
pub record Saved (bytes : List ℕ) (old new : Option (List ℕ)) : Type 0 where
  -- The session shows lines.
  pub lines : List Line
  -- It has an end.
  pub fate : Fate
  -- The lines are those that the plain machine shows of its events, up to this end.
  pub transcript : Transcript (events_of bytes) lines fate
  -- No line is refused, and no line past the most begins.
  pub done : answer_of fate ≡ statuses.Done
  -- Lines of a session were written.
  pub checkpoint : List Event
  -- Their text is all that was written.
  pub wrote : Appends old new (lines_text checkpoint)
  -- The grammar reads this text as these lines, and as nothing else.
  pub read : events_of (lines_text checkpoint) ≡ map Read checkpoint
  -- They restore the machine at the end of the session, and the turn.
  pub restores : Restores checkpoint (run_of (events_of bytes) lines).last (last_turn (run_of (events_of bytes) lines))
  -- Whatever follows the session, without its END, may follow these lines: what is shown of the
  -- rest after the session, with no refused line, may be shown after these lines.
  pub goes_on : (rest : List Item) (more : List Line) (end : Fate)
      → ReadAt places.Plain rest → end ≢ Refused
      → Transcript (before_end (events_of bytes) ++ rest) (lines ++ more) end
      → Transcript (map Read checkpoint ++ rest) more end
