-- Which call decides, and whom its commit disturbs.
-- A promise rests on this.
use Rattle.std.specs.Prelude.{if◌then◌else◌, ◌==◌, ℕ, Option, Some, None, List, [], ◌∷◌, ◌++◌}
use Rattle.its_records.specs.Tree.{slots_below}
use Rattle.its_records.specs.declared.calls.Ask.{Ask}
use Rattle.its_frame.specs.declared.decision.Decision.{Decision}
use Rattle.its_frame.specs.declared.name.CallName.{CallName}
use Rattle.its_frame.specs.declared.name.CallName.TheVariants.{Hang, Sleep, Dismis, Usrvar, Logout, Open, Close, Iot, Siot, Finish, Listen, Ttylnd, Access, Fillen, Delete, Rename, Usrmem, Uclose, Corblk, Realt}
use Rattle.its_frame.specs.Errors as error
pub use Rattle.its_frame.specs.Calls.{call_row, call_named}
use Rattle.its_plain.specs.Machine.{Chan, On, Whole, Machine}
use Rattle.its_plain.specs.Machine.Change.{superiors}
use Rattle.its_plain.specs.Call.Arguments.{input}
use Rattle.its_plain.specs.Machine.View.{View}
use Rattle.its_plain.specs.Call.Tests.{fails}
use Rattle.its_plain.specs.Call.Basic.{is_oneself, channel_at, hang, sleep, dismiss, usrvar, logout, realt}
use Rattle.its_plain.specs.Call.Tty.{finish, listen, ttylnd}
use Rattle.its_plain.specs.Call.File.{access, fillen, delete, rename}
use Rattle.its_plain.specs.Call.Usr.{usrmem, uclose}
use Rattle.its_plain.specs.Call.Core.{corblk}
use Rattle.its_plain.specs.Call.Device.{open_call, close_call, iot_call, siot_call}

-- what a call decides whose decoding gave no error, by its name
abbrev pub decided_by : View → Ask → Option CallName → Decision
decided_by v a (Some Hang) = hang
decided_by v a (Some Sleep) = sleep v a
decided_by v a (Some Dismis) = dismiss v a
decided_by v a (Some Usrvar) = usrvar v a
decided_by v a (Some Logout) = logout v
decided_by v a (Some Open) = open_call v a
decided_by v a (Some Close) = close_call v a
decided_by v a (Some Iot) = iot_call v a
decided_by v a (Some Siot) = siot_call v a
decided_by v a (Some Finish) = finish v a
decided_by v a (Some Listen) = listen v a
decided_by v a (Some Ttylnd) = ttylnd v a
decided_by v a (Some Access) = access v a
decided_by v a (Some Fillen) = fillen v a
decided_by v a (Some Delete) = delete v a
decided_by v a (Some Rename) = rename v a
decided_by v a (Some Usrmem) = usrmem v a
decided_by v a (Some Uclose) = uclose v a
decided_by v a (Some Corblk) = corblk v a
decided_by v a (Some Realt) = realt v a
decided_by v a None = fails v a error.NO_CALL

-- an error of the decoding comes first
unfoldable pub decided : View → Ask → Decision
decided v a = if a.fail == 0 then decided_by v a (call_named a.name) else fails v a a.fail

-- the argument that names the channel by which a call reaches into another job
abbrev pub reaching : CallName → Option ℕ
reaching n = (call_row n).reaches

abbrev pub inferior_on : Chan → Option ℕ
inferior_on (On s write at) = Some s
inferior_on _ = None

abbrev pub reached_by : Whole → ℕ → Option ℕ
reached_by q w = if is_oneself w then None else inferior_on (channel_at q.channels w)

abbrev pub target_by : Whole → Ask → Option ℕ → Option ℕ
target_by q a (Some k) = reached_by q (input a k)
target_by q a None = None

abbrev pub argument_of : Option CallName → Option ℕ
argument_of (Some n) = reaching n
argument_of None = None

-- the job into which a call without error 1 to 3 reaches, through an open channel on it
unfoldable pub target : Whole → Ask → Option ℕ
target q a = if a.fail == 0 then target_by q a (argument_of (call_named a.name)) else None

-- the slots, other than its own, of the jobs that a commit disturbs: the target; of LOGOUT the jobs
-- below the caller, and its superior; of UCLOSE the target and the jobs below it
abbrev pub listed : Option ℕ → List ℕ
listed (Some s) = s ∷ []
listed None = []

abbrev pub with_below : Machine → Option ℕ → List ℕ
with_below m (Some s) = slots_below (superiors m) s ++ s ∷ []
with_below m None = []

abbrev pub reach_by : Machine → ℕ → Whole → Ask → Option CallName → List ℕ
reach_by m j q a (Some Logout) = slots_below (superiors m) j ++ listed q.superior
reach_by m j q a (Some Uclose) = with_below m (target q a)
reach_by m j q a _ = listed (target q a)

unfoldable pub reach : Machine → ℕ → Whole → Ask → List ℕ
reach m j q a = if a.fail == 0 then reach_by m j q a (call_named a.name) else []
