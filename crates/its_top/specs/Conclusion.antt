-- How a session ends, and what it has written then.
-- No promise rests on this.
use Rattle.std.specs.Prelude.{◌≡◌, ℕ, ◌+◌, true, false, Option, IfSome, List, [], ◌++◌}
use Rattle.std.specs.Io.KnownBytes.{Appends, Consumes}
use Rattle.its_records.specs.Item.{Item}
use Rattle.its_session.specs.Events.{events_of, whole_events_of}
use Rattle.its_reader.specs.declared.items.Found.{Found}
use Rattle.its_reader.specs.declared.items.Items.{Items}
use Rattle.its_reader.specs.Limits.{WithinLimits}
use Rattle.its_reader.specs.Items.{is_last, is_end, last_items, FoundSoFar, ReadOut}
use Rattle.its_plain.specs.Operator.{Block}
use Rattle.its_plain.specs.Transcript.{Fate, Ended, Open, Refused, TooLong}
use Rattle.its_stepped.specs.State.{State}
use Rattle.its_stepped.specs.Lines.{stepped}
use Rattle.its_top.specs.declared.commands.status.Status.{Status}
use Rattle.its_top.specs.declared.commands.status.Status.TheVariants as statuses
use Rattle.its_top.specs.declared.sessions.flow.Flow.{Flow}
use Rattle.its_top.specs.declared.sessions.flow.Flow.TheVariants as flows
use Rattle.its_top.specs.Telling.{Says, said, after, saying, BeginsText, session_says}

-- no line was refused, and none past the most began
abbrev pub IsDone : Fate → Type 0
IsDone Ended = Unit {0}
IsDone Open = Unit {0}
IsDone Refused = ⊥
IsDone TooLong = ⊥

-- a session that says this and wrote w has this status
abbrev pub Finished : Status → Says → List ℕ → Type 0
Finished statuses.Done s w = (s.text ≡ w) × IsDone s.fate
Finished statuses.Refused s w = (s.text ≡ w) × (s.fate ≡ Refused)
Finished statuses.TooLong s w = (s.text ≡ w) × (s.fate ≡ TooLong)
Finished statuses.WriteFault s w = BeginsText s w
Finished statuses.Usage s w = ⊥
Finished statuses.ReadFault s w = ⊥
Finished statuses.NoMemory s w = ⊥

-- a session of these bytes, of which some were read, has this status, and wrote w
abbrev pub Concluded : Status → List ℕ → List ℕ → List ℕ → Type 0
Concluded statuses.ReadFault bytes read w = (said (stepped (whole_events_of read)) ≡ saying w Open) × WithinLimits read
Concluded st bytes read w = Finished st (said (stepped (events_of bytes))) w

-- a session was begun and ended so
abbrev pub WasRun : Status → Type 0
WasRun statuses.Usage = ⊥
WasRun statuses.NoMemory = ⊥
WasRun statuses.Done = Unit {0}
WasRun statuses.Refused = Unit {0}
WasRun statuses.ReadFault = Unit {0}
WasRun statuses.WriteFault = Unit {0}
WasRun statuses.TooLong = Unit {0}

-- how a session ended, from what its source had left and had left then, and from what its sink was
-- given
pub record Session (status : Status) (left rest old new : Option (List ℕ)) : Type 0 where
  pub read : List ℕ
  pub wrote : List ℕ
  pub consumed : Consumes left rest read
  pub appended : Appends old new wrote
  pub ran : WasRun status
  pub concluded : IfSome left (λ bytes. Concluded status bytes read wrote)
  pub input : status ≡ statuses.Done → IfSome left (λ bytes. ReadOut bytes rest)

-- a session so far: the items that were found, and what is written of them before line number n is
-- taken. Slot i had the last turn
pub record SoFar (r : Items) (n : ℕ) (v : State) (b : Block) (i : ℕ) (left rest old new : Option (List ℕ)) : Type 0 where
  pub items : List Item
  pub found : FoundSoFar items r left rest
  pub wrote : List ℕ
  pub appended : Appends old new wrote
  pub says : (behind : List Item) → said (stepped (items ++ behind)) ≡ after wrote (session_says n v b i behind)

abbrev pub status_of : Flow → Status
status_of flows.On = statuses.Done
status_of flows.Ended = statuses.Done
status_of flows.Refused = statuses.Refused
status_of flows.TooLong = statuses.TooLong
status_of flows.Fault = statuses.WriteFault

-- what was found ended the session, whatever follows
abbrev pub Over : Flow → ℕ → State → Block → ℕ → Found → List ℕ → Type 0
Over flow n v b i f w = (behind : List Item) → (is_last f ≡ true → behind ≡ []) → Finished (status_of flow) (session_says n v b i (last_items f ++ behind)) w

-- what was found did this, and wrote w: the session goes on with another state and block, or it is
-- over
abbrev pub TakenBy : Flow → ℕ → State → Block → ℕ → Found → State → Block → ℕ → List ℕ → Type 0
TakenBy flows.On n v b i f v' b' i' w = (is_last f ≡ false) × ((behind : List Item) → session_says n v b i (last_items f ++ behind) ≡ after w (session_says (n + 1) v' b' i' behind))
TakenBy flows.Ended n v b i f v' b' i' w = (is_end f ≡ true) × Over flows.Ended n v b i f w
TakenBy flow n v b i f v' b' i' w = Over flow n v b i f w

-- what was found did this, with what the sink was given
pub record Takes (flow : Flow) (n : ℕ) (v : State) (b : Block) (i : ℕ) (f : Found) (v' : State) (b' : Block) (i' : ℕ) (old new : Option (List ℕ)) : Type 0 where
  pub wrote : List ℕ
  pub appended : Appends old new wrote
  pub taken : TakenBy flow n v b i f v' b' i' wrote
