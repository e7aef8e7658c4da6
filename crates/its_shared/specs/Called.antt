-- What a call finds under the number of a channel, and what stops it, in the forms that code
-- answers.
-- No promise rests on this.
use Rattle.std.specs.Prelude.{if◌then◌else◌, ℕ, not, Option, Some, None, List, [], ◌∷◌, nat_lt, slice_index_or}
use Rattle.its_word.specs.Core.{Core, can_store}
use Rattle.its_word.specs.declared.access.Fault.{Fault}
use Rattle.its_word.specs.declared.access.Fault.TheVariants.{Mpv, Wro}
use Rattle.its_records.specs.declared.jobs.Channel.{Channel}
use Rattle.its_records.specs.declared.jobs.Channel.TheVariants.{Closed}
use Rattle.its_records.specs.declared.jobs.Job.{Job}
use Rattle.its_frame.specs.declared.decision.Decision.{Decision}
use Rattle.its_plain.specs.Call.Transfer.{is_absent}
use Rattle.its_plain.specs.Call.Tests.{Test}

-- the channel of some registers under a number; above 17 (octal) there is none that is open
abbrev pub channel_under : Job → ℕ → Channel
channel_under j n = if nat_lt n 16 then slice_index_or j.channels n Closed else Closed

-- why a word cannot be stored
abbrev pub bar_of : Core → ℕ → Option Fault
bar_of c p = if is_absent c p then Some Mpv else (if not (can_store c p) then Some Wro else None)

-- the first test that holds, if one does
abbrev pub first_of : List Test → Option Decision
first_of [] = None
first_of (t ∷ ts) = if t.holds then Some t.stop else first_of ts
