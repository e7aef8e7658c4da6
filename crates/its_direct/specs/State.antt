-- The effect of a line of the state part on the second machine: that of its definition exactly.
-- No promise rests on this.
use Rattle.std.specs.Prelude.{◌≡◌, ◌<◌, ◌≤◌, ◌+◌, ◌^◌, length, Result, Ok, Err}
use Rattle.its_records.specs.Links.{most_links}
use Rattle.its_records.specs.Refusals.{reason_of}
use Rattle.its_records.specs.declared.session.Place.{Place}
use Rattle.its_records.specs.declared.session.Place.TheVariants as places
use Rattle.its_records.specs.declared.session.Refusal.{Refusal}
use Rattle.its_records.specs.declared.state_line.StateLine.{StateLine}
use Rattle.its_records.specs.declared.state_line.StateLine.TheVariants as states
use Rattle.its_plain.specs.Operator.{Block, Operated, Refuses}
use Rattle.its_plain.specs.Operator.Lines.{Done}
use Rattle.its_plain.specs.Operator.State.{restored}
use Rattle.its_direct.specs.Events.{Obeys, Speaks, spot_place}
use Rattle.its_direct.specs.Plain.{machine_of}
use Rattle.its_direct.specs.declared.lines.events.Answer.{Answer}
use Rattle.its_direct.specs.declared.plain.Plain.{Plain}

-- the place of the next line: READY ends the state part
abbrev pub place_past : StateLine → Place
place_past states.Ready = places.Plain
place_past _ = places.System

-- the numbers of a line are ones that there are: the version, channels, links and addresses; and
-- its words and bytes are some, and few
abbrev pub LineFits : StateLine → Type 0
LineFits (states.System v) = (1 ≤ v) × (v ≤ 2)
LineFits (states.FileWords ws) = 1 ≤ length ws.items
LineFits (states.CoreWords a ws) = (1 ≤ length ws.items) × (a + length ws.items ≤ 2 ^ 18)
LineFits (states.Tty s n w) = n < 16
LineFits (states.Disk s n d x y at) = n < 16
LineFits (states.Draft s n d x y) = n < 16
LineFits (states.Wrote s n ws) = (n < 16) × (1 ≤ length ws.items)
LineFits (states.Usr s n t w at) = n < 16
LineFits (states.Join s n l w x y) = (n < 16) × (l < most_links)
LineFits (states.Sent l ws) = (l < most_links) × (length ws.items ≤ 16)
LineFits (states.EndShut l w) = l < most_links
LineFits (states.Input c bs) = length bs.items ≤ 32
LineFits (states.Output c bs) = length bs.items ≤ 32
LineFits _ = Unit {0}

-- a line was obeyed
pub record Rebuilt (line : StateLine) (a : Answer) (old new : Plain) (b : Block) : Type 0 where
  pub comes : Operated
  pub is : restored (machine_of old) b line ≡ comes
  pub obeys : Obeys a old new (Done comes)
  pub leads : spot_place new.place ≡ place_past line

-- it was obeyed, or it was refused
abbrev pub Restores : StateLine → Plain → Plain → Result Answer Refusal → Type 0
Restores line old new (Ok a) = (b : Block) → Speaks old.place b → Rebuilt line a old new b
Restores line old new (Err x) = (b : Block) → Speaks old.place b → restored (machine_of old) b line ≡ Refuses (reason_of x)
