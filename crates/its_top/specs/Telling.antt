-- What a session writes from some point on, over its items.
-- No promise rests on this.
use Rattle.std.specs.Prelude.{◌≡◌, ℕ, ◌+◌, Bool, true, false, List, ◌∷◌, ◌++◌}
use Rattle.its_records.specs.Item.{Item, Read}
use Rattle.its_records.specs.declared.session.Event.{Event}
use Rattle.its_records.specs.declared.session.Event.TheVariants as events
use Rattle.its_print.specs.Printing.{text}
use Rattle.its_plain.specs.Operator.{Block}
use Rattle.its_plain.specs.Transcript.{Fate, Ended, Refused}
use Rattle.its_stepped.specs.State.{State}
use Rattle.its_stepped.specs.Lines.{Told, line_told, turned, told}
use Rattle.its_top.specs.declared.sessions.flow.Flow.{Flow}
use Rattle.its_top.specs.declared.sessions.flow.Flow.TheVariants as flows

-- the text that a session writes, and how it ends
pub record Says : Type 0 where
  pub text : List ℕ
  pub fate : Fate

abbrev pub said : Told → Says
said t = record { text = text t.lines; fate = t.fate }

-- what a session says after some text
abbrev pub after : List ℕ → Says → Says
after w s = record { text = w ++ s.text; fate = s.fate }

abbrev pub saying : List ℕ → Fate → Says
saying w fate = record { text = w; fate = fate }

-- this text begins what is said
pub record BeginsText (s : Says) (w : List ℕ) : Type 0 where
  pub more : List ℕ
  pub whole : s.text ≡ w ++ more

-- what is written from line number n on, for these items, after a turn of slot `last`
unfoldable pub session_says : ℕ → State → Block → ℕ → List Item → Says
session_says n v b last items = said (told n v b last items)

-- what is written of line n, and then of what follows it
abbrev pub line_says : ℕ → State → Block → Event → (State → Block → Told) → Says
line_says n v b e next = said (line_told n v b e next)

-- an event other than END
abbrev pub goes_on_after : Event → Bool
goes_on_after events.End = false
goes_on_after _ = true

-- what an event did, and what it wrote: the session goes on with another state and block, it is
-- over by END or by a refused line, or a write failed
abbrev pub Answers : Flow → ℕ → State → Block → Event → State → Block → List ℕ → Type 0
Answers flows.On n v b e v' b' w =
    (goes_on_after e ≡ true) × ((next : State → Block → Told) → line_says n v b e next ≡ after w (said (next v' b')))
Answers flows.Ended n v b e v' b' w = (goes_on_after e ≡ false) × ((next : State → Block → Told) → line_says n v b e next ≡ saying w Ended)
Answers flows.Refused n v b e v' b' w = (next : State → Block → Told) → line_says n v b e next ≡ saying w Refused
Answers flows.TooLong n v b e v' b' w = ⊥
Answers flows.Fault n v b e v' b' w = (next : State → Block → Told) → BeginsText (line_says n v b e next) w

-- a line with the turns that it asks for, when slot i had the last turn before them, and slot j has
-- it then
abbrev pub FollowsBy : Flow → ℕ → State → Block → ℕ → Event → State → Block → ℕ → List ℕ → Type 0
FollowsBy flows.On n v b i e v' b' j w =
    (goes_on_after e ≡ true) × ((items : List Item) → session_says n v b i (Read e ∷ items) ≡ after w (session_says (n + 1) v' b' j items))
FollowsBy flows.Ended n v b i e v' b' j w = (goes_on_after e ≡ false) × ((items : List Item) → session_says n v b i (Read e ∷ items) ≡ saying w Ended)
FollowsBy flows.Refused n v b i e v' b' j w = (items : List Item) → session_says n v b i (Read e ∷ items) ≡ saying w Refused
FollowsBy flows.TooLong n v b i e v' b' j w = ⊥
FollowsBy flows.Fault n v b i e v' b' j w = (items : List Item) → BeginsText (session_says n v b i (Read e ∷ items)) w

-- up to n turns of q ticks were taken, whatever follows them: all of them, or a write failed
abbrev pub CircledBy : Flow → State → ℕ → ℕ → ℕ → State → ℕ → List ℕ → Type 0
CircledBy flows.On v i n q v' j w = (next : State → ℕ → Told) → said (turned n q v i next) ≡ after w (said (next v' j))
CircledBy flows.Fault v i n q v' j w = (next : State → ℕ → Told) → BeginsText (said (turned n q v i next)) w
CircledBy flow v i n q v' j w = ⊥

abbrev pub goes_on : Flow → Bool
goes_on flows.On = true
goes_on flows.Ended = false
goes_on flows.Refused = false
goes_on flows.TooLong = false
goes_on flows.Fault = false
