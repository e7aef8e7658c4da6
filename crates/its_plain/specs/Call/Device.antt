-- The calls that devices share: OPEN by its device; CLOSE, `.IOT` and SIOT by what the channel is
-- on (docs/CALLS.md).
-- A promise rests on this.
use Rattle.std.specs.Prelude.{◌==◌, ℕ, Bool, true, false, [], ◌∷◌, slice_get, slice_index_or}
use Rattle.its_records.specs.declared.calls.Ask.{Ask}
use Rattle.its_frame.specs.declared.change.Change.TheVariants as changes
use Rattle.its_frame.specs.declared.decision.Decision.{Decision}
use Rattle.its_frame.specs.Errors as error
use Rattle.its_plain.specs.Machine.{Chan, Shut, TtyIn, TtyOut, Reads, Writes, On, Linked}
use Rattle.its_plain.specs.Call.Arguments.{input}
use Rattle.its_plain.specs.Machine.View.{View}
use Rattle.its_plain.specs.Call.Tests.{finishes, fails}
use Rattle.its_plain.specs.Call.Basic.{channel_at, ioc}
use Rattle.its_plain.specs.Call.Tty.{view_console, opens, iot_in, iot_out, siot_in, siot_out}
use Rattle.its_plain.specs.Call.Transfer.{next_pointer, siot_by}
use Rattle.its_plain.specs.Call.File.{disk_device, opens_disk, closes_draft, words_of, iot_reads, iot_writes, siot_reads, siot_writes}
use Rattle.its_plain.specs.Call.Usr.{usr_device, opens_usr, iot_through, siot_through}
use Rattle.its_plain.specs.Call.Link.{link_device, opens_link, closes_end, iot_linked, siot_linked}

-- OPEN: whether the device is DSK, USR or LNK; any other has to be TTY
abbrev pub open_by : View → Ask → Bool → Bool → Bool → Decision
open_by v a true usr link = opens_disk v a
open_by v a false true link = opens_usr v a
open_by v a false false true = opens_link v a
open_by v a false false false = opens v a

unfoldable pub open_call : View → Ask → Decision
open_call v a = open_by v a (input a 1 == disk_device) (input a 1 == usr_device) (input a 1 == link_device)

-- CLOSE: a draft becomes a file; an end of a link is closed with its channel; any other channel is
-- closed alone
abbrev pub shuts : View → Ask → Decision
shuts v a = finishes v (changes.Shut (input a 0) ∷ []) []

abbrev pub close_on : View → Ask → Chan → Decision
close_on v a Shut = fails v a error.BAD_CHANNEL
close_on v a TtyIn = shuts v a
close_on v a TtyOut = shuts v a
close_on v a (Reads names at) = shuts v a
close_on v a (Writes f) = closes_draft v a f
close_on v a (On s write at) = shuts v a
close_on v a (Linked l write) = closes_end v a l write

unfoldable pub close_call : View → Ask → Decision
close_call v a = close_on v a (channel_at v.own.channels (input a 0))

-- `.IOT` of the word at e through channel n
abbrev pub iot_on : View → ℕ → ℕ → Chan → Decision
iot_on v e n Shut = ioc v
iot_on v e n TtyIn = iot_in v e (view_console v)
iot_on v e n TtyOut = iot_out v e (view_console v)
iot_on v e n (Reads names at) = iot_reads v e n names at
iot_on v e n (Writes f) = iot_writes v e n f
iot_on v e n (On s write at) = iot_through v e n s write at
iot_on v e n (Linked l write) = iot_linked v e l write

unfoldable pub iot_call : View → Ask → Decision
iot_call v a = iot_on v (slice_index_or a.outputs.items 0 0) (input a 0) (channel_at v.own.channels (input a 0))

-- SIOT through channel n
abbrev pub siot_on : View → Ask → ℕ → Chan → Decision
siot_on v a n Shut = fails v a error.BAD_CHANNEL
siot_on v a n TtyIn = siot_by v a false false (siot_in v a (next_pointer (input a 1)) (input a 2) (view_console v))
siot_on v a n TtyOut = siot_by v a false false (siot_out v a (next_pointer (input a 1)) (input a 2) (view_console v))
siot_on v a n (Reads names at) = siot_reads v a n at (slice_get (words_of v names) at)
siot_on v a n (Writes f) = siot_writes v a n f
siot_on v a n (On s write at) = siot_through v a n s write at
siot_on v a n (Linked l write) = siot_linked v a l write

unfoldable pub siot_call : View → Ask → Decision
siot_call v a = siot_on v a (input a 0) (channel_at v.own.channels (input a 0))
