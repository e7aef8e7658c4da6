-- Links between jobs: two names, an end for reading and an end for writing (docs/CALLS.md,
-- "Links").
-- A promise rests on this.
use Rattle.std.specs.Prelude.{if◌then◌else◌, ◌==◌, ◌&&◌, ◌||◌, ℕ, Bool, true, false}
use Rattle.its_records.specs.declared.link.End.{End}
use Rattle.its_records.specs.declared.link.End.TheVariants.{Unopened, Opened, Closed}
use Rattle.its_records.specs.declared.link.Link.{Link}

-- links that there can be, by number, and words that a link holds
abbrev pub most_links : ℕ
most_links = 16

abbrev pub most_link_words : ℕ
most_link_words = 64

-- the writing end of a link, or its reading end
abbrev pub link_end : Bool → Link → End
link_end true k = k.writer
link_end false k = k.reader

abbrev pub with_end : Bool → End → Link → Link
with_end true e k = record k { writer = e }
with_end false e k = record k { reader = e }

-- an end that nobody has opened is not closed: somebody may still open it
abbrev pub is_unopened : End → Bool
is_unopened Unopened = true
is_unopened (Opened s n) = false
is_unopened Closed = false

abbrev pub is_open : End → Bool
is_open Unopened = false
is_open (Opened s n) = true
is_open Closed = false

abbrev pub is_closed : End → Bool
is_closed Unopened = false
is_closed (Opened s n) = false
is_closed Closed = true

-- a link exists as long as one of its ends is open
abbrev pub is_alive : Link → Bool
is_alive k = is_open k.reader || is_open k.writer

-- a link as it is made, before the first of its ends is opened
abbrev pub new_link : ℕ → ℕ → Link
new_link x y = record { x = x; y = y; reader = Unopened; writer = Unopened }

abbrev pub is_link_named : ℕ → ℕ → Link → Bool
is_link_named x y k = (k.x == x) && (k.y == y)

-- a link after jobs are gone: an end that was open at one of their slots is closed
abbrev pub end_left : (ℕ → Bool) → End → End
end_left gone (Opened s n) = if gone s then Closed else Opened s n
end_left gone Unopened = Unopened
end_left gone Closed = Closed

abbrev pub link_left : (ℕ → Bool) → Link → Link
link_left gone k = record k { reader = end_left gone k.reader; writer = end_left gone k.writer }
