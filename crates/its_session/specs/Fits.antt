-- The events of lines that can be read: their fields agree with the table of lines
-- (docs/SESSION.md).
-- A promise rests on this.
use Rattle.std.specs.Prelude.{◌≡◌, ℕ, ◌+◌, ◌<◌, ◌≤◌, ◌^◌, true, List, [], ◌∷◌, length, IsTrue, IfSome, All}
use Rattle.its_word.specs.Text.{is_name, sixbit_of}
use Rattle.its_records.specs.Item.{Item, Read, Unread, Beyond}
use Rattle.its_records.specs.declared.session.Event.{Event}
use Rattle.its_records.specs.declared.session.Event.TheVariants as events
use Rattle.its_records.specs.declared.session.Place.{Place}
use Rattle.its_records.specs.declared.session.Place.TheVariants as places
use Rattle.its_session.specs.Grammar.{last_slot, is_at}
use Rattle.its_session.specs.Events.{place_after}
use Rattle.its_session.specs.StateFits.{StateFits, place_of_state_line}

-- the word of a name
pub record IsNameWord (w : ℕ) : Type 0 where
  pub text : List ℕ
  pub formed : IsTrue (is_name text)
  pub coded : sixbit_of text ≡ w

-- 1 to 8 words of a slot, which end at the last address
abbrev pub SpanFits : ℕ → ℕ → ℕ → ℕ → Type 0
SpanFits v s a n = (s ≤ last_slot v) × (1 ≤ n) × (n ≤ 8) × (a + n ≤ 2 ^ 18)

-- the numbers of each event of a session of version v lie in the ranges of its line, and its names
-- are names
abbrev pub EventFits : ℕ → Event → Type 0
EventFits v events.Nothing = Unit {0}
EventFits v (events.Version w) = (1 ≤ w) × (w ≤ 2)
EventFits v (events.Load u j c) = IsNameWord u × IsNameWord j × IfSome c (λ k. k ≤ 7)
EventFits v (events.Words a ws) = (1 ≤ length ws.items) × (length ws.items ≤ 16) × (a + length ws.items ≤ 2 ^ 18)
EventFits v (events.ReadOnly p) = p ≤ 255
EventFits v (events.Symbol x a) = IsNameWord x × (a < 2 ^ 18)
EventFits v (events.Go a) = a < 2 ^ 18
EventFits v (events.File d x y) = IsNameWord d × IsNameWord x × IsNameWord y
EventFits v (events.Append ws) = (1 ≤ length ws.items) × (length ws.items ≤ 16)
EventFits v events.EndFile = Unit {0}
EventFits v (events.Tick s n) = (s ≤ last_slot v) × (1 ≤ n) × (n ≤ 512)
EventFits v (events.Run n q) = (1 ≤ n) × (n ≤ 512) × (1 ≤ q) × (q ≤ 64)
EventFits v (events.TypeIn c bs) = (c ≤ 7) × (1 ≤ length bs.items) × (length bs.items ≤ 32) × All (λ b. b ≤ 127) bs.items
EventFits v (events.Drain c n) = (c ≤ 7) × (1 ≤ n) × (n ≤ 64)
EventFits v (events.Clock n) = n < 2 ^ 36
EventFits v (events.Int s p q) = s ≤ last_slot v
EventFits v (events.Exam s a n) = SpanFits v s a n
EventFits v (events.List s a n) = SpanFits v s a n
EventFits v (events.State s) = s ≤ last_slot v
EventFits v (events.Deposit s a w) = (s ≤ last_slot v) × (a < 2 ^ 18)
EventFits v (events.Stop s) = s ≤ last_slot v
EventFits v (events.Cont s) = s ≤ last_slot v
EventFits v (events.Peek s) = s ≤ last_slot v
EventFits v (events.Dir d) = IsNameWord d
EventFits v (events.Show d x y) = IsNameWord d × IsNameWord x × IsNameWord y
EventFits v (events.Restore line) = StateFits v line
EventFits v events.End = Unit {0}

-- the place in which an event's line may occur; an empty line may occur anywhere
abbrev pub place_of : Event → Place
place_of (events.Version w) = places.First
place_of (events.ReadOnly p) = places.Load
place_of (events.Symbol x a) = places.Load
place_of (events.Words a ws) = places.Load
place_of (events.Go a) = places.Load
place_of (events.Append ws) = places.File
place_of events.EndFile = places.File
place_of (events.Restore line) = place_of_state_line line
place_of _ = places.Plain

-- an event's line may occur at a place
abbrev pub Stands : Place → Event → Type 0
Stands place events.Nothing = Unit {0}
Stands place e = is_at place (place_of e) ≡ true

-- each line may occur at its place, from this place on; nothing is said after a line that is not
-- read
abbrev pub ReadAt : Place → List Item → Type 0
ReadAt p [] = Unit {0}
ReadAt p (Read e ∷ es) = Stands p e × ReadAt (place_after p e) es
ReadAt p (Unread r ∷ es) = Unit {0}
ReadAt p (Beyond ∷ es) = Unit {0}
