-- The items of the lines of a session, one by one.
-- No promise rests on this.
use Rattle.std.specs.Prelude.{◌≡◌, ◌≤◌, ◌+◌, length, ℕ, Bool, true, false, Option, Some, Result, Ok, Err, List, [], ◌∷◌, ◌++◌, ◌⊎◌, IfSome, IfOk, Contains}
use Rattle.std.specs.Io.KnownBytes.{Consumes}
use Rattle.std.specs.List.{list_all}
use Rattle.its_io.specs.declared.stream.Failed.{Failed}
use Rattle.its_records.specs.Item.{Item, Read, Unread}
use Rattle.its_records.specs.Item as items
use Rattle.its_records.specs.declared.session.Event.{Event}
use Rattle.its_records.specs.declared.session.Event.TheVariants as events
use Rattle.its_records.specs.declared.session.Place.{Place}
use Rattle.its_records.specs.declared.session.Place.TheVariants as places
use Rattle.its_records.specs.declared.session.Bad.{Bad as BadLine}
use Rattle.its_records.specs.declared.session.Reason.TheVariants as reasons
use Rattle.its_session.specs.Events.{lines_from, most_lines, items_from, item_then, place_after, version_after, unread_reason, events_of, whole_events_of}
use Rattle.its_session.specs.Fits.{EventFits, Stands}
use Rattle.its_reader.specs.declared.items.Items.{Items}
use Rattle.its_reader.specs.declared.items.Found.{Found}
use Rattle.its_reader.specs.declared.items.Found.TheVariants.{Line, Bad, Beyond, End}
use Rattle.its_reader.specs.declared.lines.Lines.{Lines}
use Rattle.its_reader.specs.Limits.{WithinLimits, is_short}
use Rattle.its_reader.specs.Lines.{Facing, Opened, ahead}

-- the item of a line, and the place and the version of the line after it
abbrev pub found_of : Result Event BadLine → Found
found_of (Ok e) = Line e
found_of (Err bad) = Bad (unread_reason bad)

abbrev pub place_found : Place → Found → Place
place_found place (Line e) = place_after place e
place_found place _ = place

abbrev pub version_found : ℕ → Found → ℕ
version_found v (Line e) = version_after v e
version_found v _ = v

-- the end of the input inside a block is CUT
abbrev pub end_found : Place → Found
end_found places.First = End
end_found places.Plain = End
end_found places.System = Bad reasons.Cut
end_found places.Load = Bad reasons.Cut
end_found places.File = Bad reasons.Cut

-- a line that is read is one of a session of version v
abbrev pub found_fits : ℕ → Found → Type 0
found_fits v (Line e) = EventFits v e
found_fits v (Bad r) = Unit {0}
found_fits v Beyond = Unit {0}
found_fits v End = Unit {0}

-- and may occur at its place
abbrev pub found_stands : Place → Found → Type 0
found_stands place (Line e) = Stands place e
found_stands place (Bad r) = Unit {0}
found_stands place Beyond = Unit {0}
found_stands place End = Unit {0}

abbrev pub is_line : Found → Bool
is_line (Line e) = true
is_line (Bad r) = false
is_line Beyond = false
is_line End = false

-- the end of the input outside a block, or the line END
abbrev pub is_end : Found → Bool
is_end (Line events.End) = true
is_end (Line e) = false
is_end End = true
is_end (Bad r) = false
is_end Beyond = false

-- nothing comes after it
abbrev pub is_last : Found → Bool
is_last (Line e) = is_end (Line e)
is_last (Bad r) = true
is_last Beyond = true
is_last End = true

-- the items that are still to come, if these bytes are still to be read
abbrev pub items_ahead : Bool → Items → List ℕ → List Item
items_ahead whole r more = items_from whole (r.lines.number + 1) r.place r.version (ahead whole r.lines more)

-- the last of all items, if this was found
abbrev pub last_items : Found → List Item
last_items (Line e) = Read e ∷ []
last_items (Bad r) = Unread r ∷ []
last_items Beyond = items.Beyond ∷ []
last_items End = []

-- what was found is the next item, and the last one unless it is a line other than END
abbrev pub FoundOf : Result Found Failed → Items → Items → List ℕ → Type 0
FoundOf (Ok (Line e)) old new read = Facing new.lines.ended (λ whole more. items_ahead whole old (read ++ more) ≡ item_then (Ok e) (λ _. items_ahead whole new more))
FoundOf (Ok (Bad r)) old new read = Facing new.lines.ended (λ _ more. items_ahead true old (read ++ more) ≡ Unread r ∷ [])
FoundOf (Ok Beyond) old new read = Facing new.lines.ended (λ _ more. items_ahead true old (read ++ more) ≡ items.Beyond ∷ [])
FoundOf (Ok End) old new read = (new.lines.ended ≡ true) × Facing new.lines.ended (λ _ more. items_ahead true old (read ++ more) ≡ [])
FoundOf (Err e) old new read = (old.lines.ended ≡ false) × (items_ahead false old read ≡ []) × Opened (ahead true old.lines read) (old.lines.number + 1)

-- the line that was found, which is not too long and not past the most
abbrev pub LineOf : Result Found Failed → Lines → Lines → List ℕ → Type 0
LineOf (Ok (Line e)) old new read =
    Facing new.ended (λ whole more. ahead whole old (read ++ more) ≡ new.line.items ∷ ahead whole new more)
    × (length new.line.items ≤ 255) × (new.number ≡ old.number + 1) × (new.number ≤ most_lines)
LineOf _ old new read = Unit {0}

pub record Finds (result : Result Found Failed) (old new : Items) (left rest : Option (List ℕ)) : Type 0 where
  pub read : List ℕ
  pub consumed : Consumes left rest read
  pub over : old.lines.ended ≡ true → (read ≡ []) × (new.lines.ended ≡ true)
  pub found : FoundOf result old new read
  pub line : LineOf result old.lines new.lines read

-- the items of a session so far, none of which ends the session, the bytes that were read, and the
-- lines that were given
pub record FoundSoFar (es : List Item) (r : Items) (left rest : Option (List ℕ)) : Type 0 where
  pub read : List ℕ
  pub consumed : Consumes left rest read
  pub so_far : Facing r.lines.ended (λ whole more. items_from whole 1 places.First 1 (lines_from whole [] (read ++ more)) ≡ es ++ items_ahead whole r more)
  pub lines : List (List ℕ)
  pub lines_so : Facing r.lines.ended (λ whole more. lines_from whole [] (read ++ more) ≡ lines ++ ahead whole r.lines more)
  pub short : list_all is_short lines ≡ true
  pub number : length lines ≡ r.lines.number
  pub few : length lines ≤ most_lines

-- the input was read to its end, or END is among its whole lines that were read
pub record ReadOut (bytes : List ℕ) (rest : Option (List ℕ)) : Type 0 where
  pub read : List ℕ
  pub consumed : Consumes (Some bytes) rest read
  pub out : (read ≡ bytes) ⊎ Contains (whole_events_of read) (Read events.End)

-- all items of a session, if these were found and then this; if the source failed, nothing was
-- decided
abbrev pub AllFound : Result Found Failed → List Item → List ℕ → List ℕ → Type 0
AllFound (Ok f) es bytes read = events_of bytes ≡ es ++ last_items f
AllFound (Err e) es bytes read = (whole_events_of read ≡ es) × WithinLimits read

pub record Ended (result : Result Found Failed) (es : List Item) (left rest : Option (List ℕ)) : Type 0 where
  pub read : List ℕ
  pub consumed : Consumes left rest read
  pub all : IfSome left (λ bytes. AllFound result es bytes read)
  pub out : IfOk result (λ f. is_end f ≡ true → IfSome left (λ bytes. ReadOut bytes rest))

-- all items of a session, if these were found and then this: what comes after it is nothing if it
-- is the last
pub record Behind (f : Found) (es : List Item) (bytes : List ℕ) : Type 0 where
  pub tail : List Item
  pub all : events_of bytes ≡ es ++ (last_items f ++ tail)
  pub last : is_last f ≡ true → tail ≡ []
