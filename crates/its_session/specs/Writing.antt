-- The line that is written for an event.
-- A promise rests on this.
use Rattle.std.specs.Prelude.{ℕ, ◌^◌, ◌<◌, List, [], ◌∷◌, ◌++◌, map, flat_map, codes}
use Rattle.its_word.specs.Text.{digits_of, octal6_of, octal12_of, spaced}
use Rattle.its_records.specs.declared.session.Event.{Event}
use Rattle.its_records.specs.declared.session.Event.TheVariants as events
use Rattle.its_session.specs.StateWriting.{text_of_state_line, StateHasWords}
unfoldable pub use Rattle.its_session.specs.Names.{characters}
pub use Rattle.its_session.specs.Names.{name_of, console_text}
pub use Rattle.its_session.specs.StateWriting.{AreWords}

-- an event's line: an address has six digits, a machine word twelve, and any other number no
-- leading zeros
abbrev pub text_of_event : Event → List ℕ
text_of_event events.Nothing = []
text_of_event (events.Version v) = spaced (codes "VERSION") (digits_of v ∷ [])
text_of_event (events.Load u j c) = spaced (codes "LOAD") (name_of u ∷ name_of j ∷ console_text c ∷ [])
text_of_event (events.Words a ws) = spaced (octal6_of a ++ codes "/") (map octal12_of ws.items)
text_of_event (events.ReadOnly p) = spaced (codes "RO") (digits_of p ∷ [])
text_of_event (events.Symbol x a) = spaced (codes "SYM") (name_of x ∷ octal6_of a ∷ [])
text_of_event (events.Go a) = spaced (codes "GO") (octal6_of a ∷ [])
text_of_event (events.File d x y) = spaced (codes "FILE") (name_of d ∷ name_of x ∷ name_of y ∷ [])
text_of_event (events.Append ws) = spaced (codes "/") (map octal12_of ws.items)
text_of_event events.EndFile = codes "EOF"
text_of_event (events.Tick s n) = spaced (codes "TICK") (digits_of s ∷ digits_of n ∷ [])
text_of_event (events.Run n q) = spaced (codes "RUN") (digits_of n ∷ digits_of q ∷ [])
text_of_event (events.TypeIn c bs) = spaced (codes "TYPE") (digits_of c ∷ map digits_of bs.items)
text_of_event (events.Drain c n) = spaced (codes "DRAIN") (digits_of c ∷ digits_of n ∷ [])
text_of_event (events.Clock n) = spaced (codes "CLOCK") (digits_of n ∷ [])
text_of_event (events.Int s v w) = spaced (codes "INT") (digits_of s ∷ octal12_of v ∷ octal12_of w ∷ [])
text_of_event (events.Exam s a n) = spaced (codes "EXAM") (digits_of s ∷ octal6_of a ∷ digits_of n ∷ [])
text_of_event (events.List s a n) = spaced (codes "LIST") (digits_of s ∷ octal6_of a ∷ digits_of n ∷ [])
text_of_event (events.State s) = spaced (codes "STATE") (digits_of s ∷ [])
text_of_event (events.Deposit s a w) = spaced (codes "DEPOSIT") (digits_of s ∷ octal6_of a ∷ octal12_of w ∷ [])
text_of_event (events.Stop s) = spaced (codes "STOP") (digits_of s ∷ [])
text_of_event (events.Cont s) = spaced (codes "CONT") (digits_of s ∷ [])
text_of_event (events.Peek s) = spaced (codes "PEEK") (digits_of s ∷ [])
text_of_event (events.Dir d) = spaced (codes "DIR") (name_of d ∷ [])
text_of_event (events.Show d x y) = spaced (codes "SHOW") (name_of d ∷ name_of x ∷ name_of y ∷ [])
text_of_event (events.Restore line) = text_of_state_line line
text_of_event events.End = codes "END"

-- the words of an event have 36 bits, as all words do
abbrev pub HasWords : Event → Type 0
HasWords (events.Words a ws) = AreWords ws.items
HasWords (events.Append ws) = AreWords ws.items
HasWords (events.Int s v w) = (v < 2 ^ 36) × (w < 2 ^ 36)
HasWords (events.Deposit s a w) = w < 2 ^ 36
HasWords (events.Restore line) = StateHasWords line
HasWords _ = Unit {0}

-- the lines of events, each with its LF
abbrev pub event_line : Event → List ℕ
event_line e = text_of_event e ++ 10 ∷ []

unfoldable pub lines_text : List Event → List ℕ
lines_text es = flat_map event_line es
