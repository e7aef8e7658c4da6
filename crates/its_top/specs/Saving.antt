-- The result of `its save` (docs/SESSION.md, "The program").
-- No promise rests on this.
use Rattle.std.specs.Prelude.{◌≡◌, ℕ, Option, IfSome, List, [], ◌∷◌, ◌++◌}
use Rattle.std.specs.Io.KnownBytes.{Appends, Consumes}
use Rattle.its_records.specs.Item.{Item}
use Rattle.its_print.specs.Printing.{Line, text}
use Rattle.its_session.specs.Events.{events_of, whole_events_of}
use Rattle.its_reader.specs.Items.{ReadOut}
use Rattle.its_reader.specs.Limits.{WithinLimits}
use Rattle.its_plain.specs.Transcript.{Fate, Ended, Open, Refused, TooLong}
use Rattle.its_plain.specs.Machine.{Machine}
use Rattle.its_plain.specs.Transcript.Course.{Course, run_of, last_turn}
use Rattle.its_stepped.specs.Lines.{Told, stepped}
use Rattle.its_saved.specs.Narrow.{Narrow}
use Rattle.its_saved.specs.Readable.{Worded}
use Rattle.its_saved.specs.Text.{saved_lines, state_text}
use Rattle.its_saved.specs.WellFormed.{KeptByTypes}
use Rattle.its_stepped.specs.Address.{Addressed}
use Rattle.its_top.specs.declared.commands.status.Status.{Status}
use Rattle.its_top.specs.declared.commands.status.Status.TheVariants as statuses
use Rattle.its_top.specs.Conclusion.{IsDone, WasRun}

-- the lines of a machine, if this slot had the last turn
abbrev pub system_text : Machine → ℕ → List ℕ
system_text m last = state_text (saved_lines m last)

-- what has to hold of a machine that is saved: PCs are addresses; and the types of its parts, of
-- its words and of its numbers keep what they keep
pub record Savable (m : Machine) : Type 0 where
  pub addressed : Addressed m
  pub types : KeptByTypes m
  pub worded : Narrow m → Worded m

-- the lines of the system at the end of a run
abbrev pub text_saved : Course → List ℕ
text_saved u = system_text u.last (last_turn u)

-- the last of some lines
abbrev pub last_alone : List Line → List Line
last_alone [] = []
last_alone (l ∷ []) = l ∷ []
last_alone (l ∷ k ∷ ls) = last_alone (k ∷ ls)

-- what is written of a session of these events, which shows these lines and ends so: the lines of
-- its system; the `?` line alone of one that is refused; nothing of one that is too long
abbrev pub save_by : List Item → List Line → Fate → List ℕ
save_by es lines Ended = text_saved (run_of es lines)
save_by es lines Open = text_saved (run_of es lines)
save_by es lines Refused = text (last_alone lines)
save_by es lines TooLong = []

abbrev pub save_of : List Item → Told → List ℕ
save_of es t = save_by es t.lines t.fate

abbrev pub save_text : List Item → List ℕ
save_text es = save_of es (stepped es)

abbrev pub SavableAt : Course → Type 0
SavableAt u = Savable u.last

-- what was written of a session of these bytes, by the answer
pub record Began (bytes wrote : List ℕ) : Type 0 where
  pub more : List ℕ
  pub whole : save_text (events_of bytes) ≡ wrote ++ more

abbrev pub SavedBy : Status → List ℕ → List ℕ → List ℕ → Type 0
SavedBy statuses.Done bytes read wrote =
    IsDone (stepped (events_of bytes)).fate × (wrote ≡ save_text (events_of bytes)) × SavableAt (run_of (events_of bytes) (stepped (events_of bytes)).lines)
SavedBy statuses.Refused bytes read wrote = ((stepped (events_of bytes)).fate ≡ Refused) × (wrote ≡ save_text (events_of bytes))
SavedBy statuses.TooLong bytes read wrote = ((stepped (events_of bytes)).fate ≡ TooLong) × (wrote ≡ save_text (events_of bytes))
SavedBy statuses.ReadFault bytes read wrote = ((stepped (whole_events_of read)).fate ≡ Open) × WithinLimits read × (wrote ≡ [])
SavedBy statuses.WriteFault bytes read wrote = Began bytes wrote
SavedBy statuses.Usage bytes read wrote = ⊥
SavedBy statuses.NoMemory bytes read wrote = ⊥

pub record Saves (status : Status) (left rest old new : Option (List ℕ)) : Type 0 where
  pub read : List ℕ
  pub wrote : List ℕ
  pub consumed : Consumes left rest read
  pub appended : Appends old new wrote
  pub ran : WasRun status
  pub saved : IfSome left (λ bytes. SavedBy status bytes read wrote)
  pub input : status ≡ statuses.Done → IfSome left (λ bytes. ReadOut bytes rest)
