-- The lines of the state part that can be read: their fields agree with its table
-- (docs/SESSION.md, "The state part"). A tag may be any word.
-- A promise rests on this.
use Rattle.std.specs.Prelude.{ℕ, ◌+◌, ◌<◌, ◌≤◌, ◌^◌, List, length, IfSome, All}
use Rattle.its_records.specs.declared.state_line.StateLine.{StateLine}
use Rattle.its_records.specs.declared.state_line.StateLine.TheVariants as states
use Rattle.its_records.specs.declared.session.Place.{Place}
use Rattle.its_records.specs.declared.session.Place.TheVariants as places
use Rattle.its_session.specs.Fields.{last_slot}

-- a line names slot s of a session of version v, and channel n of its job
abbrev pub ChannelFits : ℕ → ℕ → ℕ → Type 0
ChannelFits v s n = (s ≤ last_slot v) × (n ≤ 15)

-- 1 to 16 words
abbrev pub AreFew : List ℕ → Type 0
AreFew ws = (1 ≤ length ws) × (length ws ≤ 16)

-- 1 to 32 bytes of a console
abbrev pub BytesFit : ℕ → List ℕ → Type 0
BytesFit c bs = (c ≤ 7) × (1 ≤ length bs) × (length bs ≤ 32) × All (λ b. b ≤ 127) bs

-- the numbers of each line of a session of version v lie in the ranges of its row
abbrev pub StateFits : ℕ → StateLine → Type 0
StateFits v (states.System w) = (1 ≤ w) × (w ≤ 2)
StateFits v (states.Clock n) = n < 2 ^ 36
StateFits v (states.File d x y) = Unit {0}
StateFits v (states.FileWords ws) = AreFew ws.items
StateFits v (states.Job s u j c) = (s ≤ last_slot v) × IfSome c (λ k. k ≤ 7)
StateFits v (states.CoreWords a ws) = AreFew ws.items × (a + length ws.items ≤ 2 ^ 18)
StateFits v (states.ReadOnly p) = p ≤ 255
StateFits v (states.Symbol x a) = a < 2 ^ 18
StateFits v (states.Regs r) = Unit {0}
StateFits v (states.Alarm s p n) = (s ≤ last_slot v) × (1 ≤ p) × (p ≤ 2 ^ 34) × (n < 2 ^ 36)
StateFits v (states.Under s t) = (s ≤ last_slot v) × (t ≤ last_slot v)
StateFits v (states.Tty s n w) = ChannelFits v s n
StateFits v (states.Disk s n d x y at) = ChannelFits v s n × (at < 2 ^ 32)
StateFits v (states.Draft s n d x y) = ChannelFits v s n
StateFits v (states.Wrote s n ws) = ChannelFits v s n × AreFew ws.items
StateFits v (states.Usr s n t w at) = ChannelFits v s n × (t ≤ last_slot v) × (at < 2 ^ 32)
StateFits v (states.Join s n l w x y) = ChannelFits v s n × (l ≤ 15)
StateFits v (states.Sent l ws) = (l ≤ 15) × AreFew ws.items
StateFits v (states.EndShut l w) = l ≤ 15
StateFits v (states.Input c bs) = BytesFit c bs.items
StateFits v (states.Output c bs) = BytesFit c bs.items
StateFits v (states.Hold c s) = (c ≤ 7) × (s ≤ last_slot v)
StateFits v (states.Turn s) = s ≤ last_slot v
StateFits v states.Ready = Unit {0}

-- the place in which a line may occur: SYSTEM is line 1, and all others are in the state part
abbrev pub place_of_state_line : StateLine → Place
place_of_state_line (states.System v) = places.First
place_of_state_line _ = places.System
