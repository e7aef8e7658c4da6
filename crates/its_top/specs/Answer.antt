-- What the answer to an event gave the sink.
-- No promise rests on this.
use Rattle.std.specs.Prelude.{◌≡◌, ◌<◌, ◌+◌, ◌-◌, ℕ, true, is_some, Option, None, Result, Ok, Err, List, [], ◌++◌, take}
use Rattle.std.specs.Io.KnownBytes.{Appends}
use Rattle.its_records.specs.declared.session.Event.{Event}
use Rattle.its_records.specs.declared.session.Event.TheVariants as events
use Rattle.its_records.specs.declared.state_line.StateLine.TheVariants as states
use Rattle.its_reader.specs.declared.items.Found.{Found}
use Rattle.its_reader.specs.declared.items.Found.TheVariants as founds
use Rattle.its_records.specs.declared.calls.Pace.{Pace}
use Rattle.its_plain.specs.Machine.{Names, Machine}
use Rattle.its_plain.specs.Operator.Consoles.{with_typed, dropped, after_drain}
use Rattle.its_plain.specs.Operator.Files.{with_words_added}
use Rattle.its_stepped.specs.State.{State}
use Rattle.its_stepped.specs.Unwind.{unwound, help}
use Rattle.its_stepped.specs.Lines.{Told, turned, with_raw, paces_of, after_ticks}
use Rattle.its_records.specs.declared.session.Reason.{Reason}
use Rattle.its_plain.specs.Operator.{Block}
use Rattle.its_plain.specs.Operator.Jobs.{with_words_stored, examined}
use Rattle.its_print.specs.Printing.{Line, text}
use Rattle.its_world.specs.World.{state_of}
use Rattle.its_world.specs.declared.world.World.{World}
use Rattle.its_top.specs.declared.sessions.flow.Flow.{Flow}
use Rattle.its_top.specs.declared.sessions.flow.Flow.TheVariants as flows
use Rattle.its_top.specs.Telling.{Answers, FollowsBy, CircledBy, after, said}

-- the block of the slot that the last LOAD line made, and of the file that the last FILE line made
abbrev pub block_of : ℕ → Names → Block
block_of s f = record { slot = s; file = f }

-- these bytes were to be written, after which the flow would have been `good`
abbrev pub WroteFor : Flow → Flow → List ℕ → List ℕ → Type 0
WroteFor flows.Fault good bytes wrote = (more : List ℕ) × (bytes ≡ wrote ++ more)
WroteFor flow good bytes wrote = (flow ≡ good) × (bytes ≡ wrote)

pub record Tells (flow good : Flow) (bytes : List ℕ) (old new : Option (List ℕ)) : Type 0 where
  pub wrote : List ℕ
  pub appended : Appends old new wrote
  pub complete : WroteFor flow good bytes wrote

pub record Answered (flow : Flow) (n : ℕ) (v : State) (b : Block) (e : Event) (v' : State) (b' : Block) (old new : Option (List ℕ)) : Type 0 where
  pub wrote : List ℕ
  pub appended : Appends old new wrote
  pub answers : Answers flow n v b e v' b' wrote

-- a line and the turns that it asks for
pub record Follows (flow : Flow) (n : ℕ) (v : State) (b : Block) (i : ℕ) (e : Event) (v' : State) (b' : Block) (j : ℕ) (old new : Option (List ℕ)) : Type 0 where
  pub wrote : List ℕ
  pub appended : Appends old new wrote
  pub follows : FollowsBy flow n v b i e v' b' j wrote

-- turns of a RUN
pub record Circled (flow : Flow) (v : State) (i n q : ℕ) (v' : State) (j : ℕ) (old new : Option (List ℕ)) : Type 0 where
  pub wrote : List ℕ
  pub appended : Appends old new wrote
  pub circled : CircledBy flow v i n q v' j wrote

-- k of n turns of q ticks were taken
pub record CircleSo (v now : State) (i j n k q : ℕ) (old new : Option (List ℕ)) : Type 0 where
  pub wrote : List ℕ
  pub appended : Appends old new wrote
  pub says : (next : State → ℕ → Told) → said (turned n q v i next) ≡ after wrote (said (turned (n - k) q now j next))

-- VERSION and SYSTEM find a machine without jobs
abbrev pub FindsStart : Event → State → Type 0
FindsStart (events.Version k) v = (s : ℕ) → v.raw.jobs s ≡ None
FindsStart (events.Restore (states.System k)) v = (s : ℕ) → v.raw.jobs s ≡ None
FindsStart e v = Unit {0}

abbrev pub FoundStart : Found → State → Type 0
FoundStart (founds.Line e) v = FindsStart e v
FoundStart (founds.Bad r) v = Unit {0}
FoundStart founds.Beyond v = Unit {0}
FoundStart founds.End v = Unit {0}

-- words in front of those that are found
abbrev pub behind : List ℕ → Result (List ℕ) Reason → Result (List ℕ) Reason
behind ws (Ok vs) = Ok (ws ++ vs)
behind ws (Err r) = Err r

-- k of n words of an EXAM were found
pub record ExamSo (m : Machine) (s a n k : ℕ) (ws : List ℕ) : Type 0 where
  pub whole : examined m s a n ≡ behind ws (examined m s (a + k) (n - k))
  pub there : 0 < k → is_some (m.jobs s) ≡ true

-- after k calls that find the job of slot s in user mode, the state is now `now`; v is the state
-- with the job unwound
pub record Calm (v now : State) (s k : ℕ) : Type 0 where
  pub found : unwound now s ≡ v
  pub reached : 0 < k → now ≡ v

-- after k calls that look at files, the pending parts of a close are performed
pub record Looked (old now : World) (k : ℕ) : Type 0 where
  pub found : help (state_of now) ≡ help (state_of old)
  pub reached : 0 < k → state_of now ≡ help (state_of old)
  pub unmarked : 0 < k → now.files.mark ≡ None

-- if no part of a close was pending, calls that look at files left the state and the files as they
-- were
pub record Stood (old now : World) : Type 0 where
  pub state : state_of now ≡ state_of old
  pub files : now.files ≡ old.files

-- k of these words were added to the file with these names; v is the state with the parts of a
-- close performed
pub record AddSo (v now : State) (n : Names) (k : ℕ) (words rest : List ℕ) : Type 0 where
  pub raw : help now ≡ with_raw v (help now).raw
  pub reached : 0 < k → now ≡ help now
  pub whole : with_words_added (help now).raw n rest ≡ with_words_added v.raw n words

-- of some lines all but the last ones were written
pub record WritesSo (lines rest : List Line) (old now : Option (List ℕ)) : Type 0 where
  pub wrote : List ℕ
  pub appended : Appends old now wrote
  pub whole : text lines ≡ wrote ++ text rest

-- k of these words were stored from an address on; v is the state with the job of slot s unwound
pub record LoadSo (v now : State) (s a k : ℕ) (words rest : List ℕ) : Type 0 where
  pub raw : unwound now s ≡ with_raw v (unwound now s).raw
  pub reached : 0 < k → now ≡ unwound now s
  pub whole : with_words_stored (unwound now s).raw s (a + k) rest ≡ with_words_stored v.raw s a words

-- k of n ticks of a slot were made
pub record PacesSo (v now : State) (s n k : ℕ) (ps : List Pace) : Type 0 where
  pub letters : ps ++ paces_of now s (n - k) ≡ paces_of v s n
  pub state : after_ticks now s (n - k) ≡ after_ticks v s n

-- k bytes of a TYPE line were typed at console c, of which n were dropped
pub record TypedSo (v now : State) (c k n : ℕ) (bytes rest : List ℕ) : Type 0 where
  pub raw : now ≡ with_raw v now.raw
  pub whole : with_typed c rest now.raw ≡ with_typed c bytes v.raw
  pub count : n + dropped (now.raw.consoles c) rest ≡ dropped (v.raw.consoles c) bytes
  pub reached : 0 < k → with_typed c [] now.raw ≡ now.raw

-- the output of console c was drained k times, of n
pub record DrainedSo (v now : State) (c n k : ℕ) (bytes : List ℕ) : Type 0 where
  pub raw : now ≡ with_raw v now.raw
  pub whole : after_drain c (n - k) now.raw ≡ after_drain c n v.raw
  pub taken : bytes ++ take (n - k) (now.raw.consoles c).output ≡ take n (v.raw.consoles c).output
