-- The events of a session's bytes (docs/SESSION.md).
-- A promise rests on this.
use Rattle.std.specs.Prelude.{if◌then◌else◌, ◌==◌, ℕ, ◌+◌, ◌^◌, Bool, true, false, Result, Ok, Err, List, [], ◌∷◌, ◌++◌, nat_lt}
use Rattle.its_records.specs.Item.{Item, Read, Unread, Beyond}
use Rattle.its_records.specs.declared.session.Event.{Event}
use Rattle.its_records.specs.declared.session.Event.TheVariants as events
use Rattle.its_records.specs.declared.state_line.StateLine.TheVariants as states
use Rattle.its_records.specs.declared.session.Place.{Place}
use Rattle.its_records.specs.declared.session.Place.TheVariants as places
use Rattle.its_records.specs.declared.session.Bad.{Bad}
use Rattle.its_records.specs.declared.session.Bad.TheVariants as bads
use Rattle.its_records.specs.declared.session.Reason.{Reason}
use Rattle.its_records.specs.declared.session.Reason.TheVariants as reasons
use Rattle.its_session.specs.Grammar.{line_event}

-- the most lines that a session may have
abbrev pub most_lines : ℕ
most_lines = 2 ^ 20

-- what an open line at the end of the bytes gives: a line, unless it is empty or the bytes were cut
-- off there
abbrev pub last_line : Bool → List ℕ → List (List ℕ)
last_line whole [] = []
last_line true (b ∷ bs) = (b ∷ bs) ∷ []
last_line false (b ∷ bs) = []

-- the lines of bytes, which LF ends, when some bytes are kept of a line that has begun; `whole`
-- says that the input ends with these bytes
abbrev pub lines_from : Bool → List ℕ → List ℕ → List (List ℕ)
lines_from whole kept [] = last_line whole kept
lines_from whole kept (b ∷ bs) = if b == 10 then kept ∷ lines_from whole [] bs else lines_from whole (kept ++ b ∷ []) bs

-- the place after a line: SYSTEM begins the state part, and READY ends it; LOAD and FILE begin a
-- block, GO and EOF end it, and line 1 is over
abbrev pub place_after : Place → Event → Place
place_after place (events.Load u j c) = places.Load
place_after place (events.Go a) = places.Plain
place_after place (events.File d x y) = places.File
place_after place events.EndFile = places.Plain
place_after place (events.Restore (states.System v)) = places.System
place_after place (events.Restore states.Ready) = places.Plain
place_after places.First _ = places.Plain
place_after place _ = place

-- the version of the session text after a line: VERSION and SYSTEM name it
abbrev pub version_after : ℕ → Event → ℕ
version_after v (events.Version w) = w
version_after v (events.Restore (states.System w)) = w
version_after v _ = v

-- the end of input in the state part or inside a block is CUT
abbrev pub end_of : Bool → Place → List Item
end_of true places.System = Unread reasons.Cut ∷ []
end_of true places.Load = Unread reasons.Cut ∷ []
end_of true places.File = Unread reasons.Cut ∷ []
end_of true places.First = []
end_of true places.Plain = []
end_of false place = []

abbrev pub unread_reason : Bad → Reason
unread_reason bads.Long = reasons.Long
unread_reason bads.Syntax = reasons.Syntax
unread_reason bads.Range = reasons.Range
unread_reason bads.NoConsole = reasons.NoCons

-- a line, and what follows if it is read and does not end the session
abbrev pub item_then : Result Event Bad → (Event → List Item) → List Item
item_then (Ok events.End) rest = Read events.End ∷ []
item_then (Ok e) rest = Read e ∷ rest e
item_then (Err bad) rest = Unread (unread_reason bad) ∷ []

-- the items of lines from line number n on, at a place of a session of version v: up to END, the
-- first line that is not read, or the line past the most
abbrev pub items_from : Bool → ℕ → Place → ℕ → List (List ℕ) → List Item
items_from whole n place v [] = end_of whole place
items_from whole n place v (line ∷ rest) =
    if nat_lt most_lines n then Beyond ∷ []
    else item_then (line_event place v line) (λ e. items_from whole (n + 1) (place_after place e) (version_after v e) rest)

-- the events of a session of these bytes, which is of version 1 unless its first line says
-- otherwise
unfoldable pub events_of : List ℕ → List Item
events_of bytes = items_from true 1 places.First 1 (lines_from true [] bytes)

-- the events of the whole lines of bytes, after which the reading broke off
unfoldable pub whole_events_of : List ℕ → List Item
whole_events_of bytes = items_from false 1 places.First 1 (lines_from false [] bytes)

-- the items before END
abbrev pub before_end : List Item → List Item
before_end [] = []
before_end (Read events.End ∷ es) = []
before_end (x ∷ es) = x ∷ before_end es

-- the place after some lines
abbrev pub place_past : Place → List Event → Place
place_past place [] = place
place_past place (e ∷ es) = place_past (place_after place e) es
