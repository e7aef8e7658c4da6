-- A session obeyed in silence: what each of its lines leads to, and the state at its end.
-- No promise rests on this.
use Rattle.std.specs.Prelude.{◌≡◌, ◌-◌, ℕ, ◌+◌, true, false, Option, Some, None, IfSome, Result, Ok, Err, List, [], ◌∷◌, ◌++◌}
use Rattle.std.specs.Io.KnownBytes.{Consumes}
use Rattle.its_records.specs.Item.{Item}
use Rattle.its_io.specs.declared.stream.Failed.{Failed}
use Rattle.its_print.specs.Printing.{Line}
use Rattle.its_print.specs.Printing as printed
use Rattle.its_session.specs.Events.{events_of, whole_events_of}
use Rattle.its_reader.specs.declared.items.Found.{Found}
use Rattle.its_reader.specs.declared.items.Items.{Items}
use Rattle.its_reader.specs.Limits.{WithinLimits}
use Rattle.its_reader.specs.Items.{is_last, is_end, last_items, FoundSoFar, ReadOut}
use Rattle.its_plain.specs.Machine.{no_machine}
use Rattle.its_plain.specs.Operator.{Block, no_block}
use Rattle.its_plain.specs.Transcript.{Fate, Open, Refused, TooLong}
use Rattle.its_plain.specs.Transcript.Course.{run_of, last_turn}
use Rattle.its_plain.specs.Transcript.Turns.{highest}
use Rattle.its_stepped.specs.State.{State, no_state}
use Rattle.its_stepped.specs.Lines.{Told, telling, turned, told, stepped}
use Rattle.its_world.specs.declared.world.World.{World}
use Rattle.its_world.specs.World.{plain_of}
use Rattle.its_top.specs.Conclusion.{IsDone}
use Rattle.its_top.specs.Leaving.{Left, left_at, turns_left, left}
use Rattle.its_top.specs.declared.sessions.silent.Ending.{Ending}
use Rattle.its_top.specs.declared.sessions.silent.Ending.TheVariants as endings

-- up to n turns of q ticks, the first after a turn of slot i, lead to another state, and slot j had
-- the last of them
pub record TurnsMade (v : State) (i n q : ℕ) (v' : State) (j : ℕ) : Type 0 where
  pub shown : List Line
  pub led : (next : State → ℕ → Told) → turned n q v i next ≡ telling shown (next v' j)
  pub leaves : (next : State → ℕ → Left) → turns_left n q v i next ≡ next v' j

-- k of n turns were made
pub record TurnsSo (v now : State) (i j n k q : ℕ) : Type 0 where
  pub shown : List Line
  pub led : (next : State → ℕ → Told) → turned n q v i next ≡ telling shown (turned (n - k) q now j next)
  pub leaves : (next : State → ℕ → Left) → turns_left n q v i next ≡ turns_left (n - k) q now j next

-- these lines are the last of the session, which has this end
abbrev pub ends : List Line → Fate → Told
ends lines fate = record { lines = lines; fate = fate }

-- what a found item does: the session goes on from another state, block and turn, after lines that
-- are not written; or it is over, and the state is that before
abbrev pub LedBy : Option Ending → ℕ → State → Block → ℕ → Found → State → Block → ℕ → List Line → Type 0
LedBy None n v b i f v' b' j shown =
    (is_last f ≡ false)
    × ((behind : List Item) → (told n v b i (last_items f ++ behind) ≡ telling shown (told (n + 1) v' b' j behind))
    × (left v b i (last_items f ++ behind) ≡ left v' b' j behind))
LedBy (Some endings.Over) n v b i f v' b' j shown =
    (is_end f ≡ true)
    × ((behind : List Item) → (is_last f ≡ true → behind ≡ []) → IsDone (told n v b i (last_items f ++ behind)).fate
    × (left v b i (last_items f ++ behind) ≡ left_at v' j))
LedBy (Some (endings.Refused k r)) n v b i f v' b' j shown =
    (behind : List Item) → told n v b i (last_items f ++ behind) ≡ ends (printed.Refused k r ∷ []) Refused
LedBy (Some endings.TooLong) n v b i f v' b' j shown = (behind : List Item) → (told n v b i (last_items f ++ behind)).fate ≡ TooLong

pub record Leads (ending : Option Ending) (n : ℕ) (v : State) (b : Block) (i : ℕ) (f : Found) (v' : State) (b' : Block) (j : ℕ) : Type 0 where
  pub shown : List Line
  pub led : LedBy ending n v b i f v' b' j shown

-- a session so far: the items that were found, and what they show and leave before line number n is
-- obeyed. Slot i had the last turn
pub record SilentSo (r : Items) (n : ℕ) (v : State) (b : Block) (i : ℕ) (source rest : Option (List ℕ)) : Type 0 where
  pub items : List Item
  pub found : FoundSoFar items r source rest
  pub shown : List Line
  pub says : (behind : List Item) → stepped (items ++ behind) ≡ telling shown (told n v b i behind)
  pub leaves : (behind : List Item) → left (no_state no_machine) no_block highest (items ++ behind) ≡ left v b i behind

-- a session of these events ended so, in a world with this plain machine, and this slot had the
-- last turn
abbrev pub EndsBy : Ending → ℕ → List Item → World → Type 0
EndsBy endings.Over last es w =
    IsDone (stepped es).fate × (plain_of w ≡ (run_of es (stepped es).lines).last) × (last ≡ last_turn (run_of es (stepped es).lines))
EndsBy (endings.Refused n r) last es w = (lines : List Line) × (stepped es ≡ ends (lines ++ printed.Refused n r ∷ []) Refused)
EndsBy endings.TooLong last es w = (stepped es).fate ≡ TooLong

-- a session was read and obeyed to its end
pub record Led (ending : Ending) (last : ℕ) (source rest : Option (List ℕ)) (w : World) : Type 0 where
  pub read : List ℕ
  pub consumed : Consumes source rest read
  pub ends : IfSome source (λ bytes. EndsBy ending last (events_of bytes) w)
  pub input : ending ≡ endings.Over → IfSome source (λ bytes. ReadOut bytes rest)

-- the source failed: none of the whole lines that were read is END or refused, and no line is too
-- long or past the most
pub record Broken (source rest : Option (List ℕ)) : Type 0 where
  pub read : List ℕ
  pub consumed : Consumes source rest read
  pub so_far : IfSome source (λ bytes. ((stepped (whole_events_of read)).fate ≡ Open) × WithinLimits read)

abbrev pub LedTo : Result (Ending × ℕ) Failed → Option (List ℕ) → Option (List ℕ) → World → Type 0
LedTo (Ok x) source rest w = Led x.0 x.1 source rest w
LedTo (Err e) source rest w = Broken source rest
