-- The calls that devices share do their duty: OPEN, CLOSE, `.IOT` and SIOT.
use Rattle.std.specs.Prelude.{◌==◌, ◌≡◌, ℕ, ◌%◌, ◌^◌, Bool, true, false, Some, None, [], ◌∷◌, slice_get, slice_index_or, refl}
use Rattle.std.proofs.Common.{arith}
use Rattle.its_records.specs.declared.calls.Ask.{Ask}
use Rattle.its_records.specs.declared.calls.Site.{Site}
use Rattle.its_frame.specs.declared.change.Change.TheVariants as changes
use Rattle.its_frame.specs.declared.name.CallName.TheVariants.{Close, Iot, Siot}
use Rattle.its_plain.specs.Call.Arguments.{input}
use Rattle.its_plain.specs.Call.Basic.{channel_at}
use Rattle.its_plain.specs.Call.Device.{open_by, open_call, shuts, close_on, close_call, iot_on, iot_call, siot_on, siot_call}
use Rattle.its_plain.specs.Call.File.{disk_device, words_of}
use Rattle.its_plain.specs.Call.Link.{link_device}
use Rattle.its_plain.specs.Call.Tty.{view_console}
use Rattle.its_plain.specs.Call.Usr.{usr_device}
use Rattle.its_plain.specs.Call.Decide.{call_named}
use Rattle.its_plain.specs.Machine.{Chan, Shut, TtyIn, TtyOut, Reads, Writes, On, Linked, Machine}
use Rattle.its_plain.specs.Machine.View.{View}
use Rattle.its_stepped.specs.State.{State}
use Rattle.its_stepped.specs.Tick.{is_disk}
use Rattle.its_stepped.specs.Duty.{Duty}
use Rattle.its_stepped.specs.Calling.{Decoding, Calling}
use Rattle.its_stepped.proofs.Committing.TestLaws.{ending_duty, fails_duty, nothing_duty}
use Rattle.its_stepped.proofs.Committing.TargetLaws.{Aimed, aimed_on}
use Rattle.its_stepped.proofs.Duties.TtyDuty.{opens_duty, iot_in_duty, iot_out_duty}
use Rattle.its_stepped.proofs.Duties.FileDuty.{unmarked, opens_disk_duty, closes_draft_duty, iot_reads_duty, iot_writes_duty}
use Rattle.its_stepped.proofs.Duties.SiotDuty.{siot_in_duty, siot_out_duty, siot_reads_duty, siot_writes_duty}
use Rattle.its_stepped.proofs.Duties.LinkDuty.{opens_link_duty, closes_end_duty, iot_receives_duty, iot_sends_duty, siot_receives_duty, siot_sends_duty}
use Rattle.its_stepped.proofs.Duties.UsrDuty.{Outlined, opens_usr_duty, iot_from_duty, iot_into_duty, siot_from_duty, siot_into_duty}

-- OPEN
open_by_duty : (m : Machine) (v : State) (j : ℕ) (x : View) (s : Site) (a : Ask) (n : ℕ) (disk usr link : Bool) → Calling m v j x.own s a n
    → Outlined m x
    → Duty v j x.own s a n (open_by x a disk usr link)
open_by_duty m v j x s a n true usr link c same = opens_disk_duty m v j x s a n c
open_by_duty m v j x s a n false true link c same = opens_usr_duty m v j x s a n c same
open_by_duty m v j x s a n false false true c same = opens_link_duty m v j x s a n c
open_by_duty m v j x s a n false false false c same = opens_duty m v j x s a n c

pub open_duty : (m : Machine) (v : State) (j : ℕ) (x : View) (s : Site) (a : Ask) (n : ℕ) → Calling m v j x.own s a n → Outlined m x
    → Duty v j x.own s a n (open_call x a)
unfolding open_call
open_duty m v j x s a n c same = open_by_duty m v j x s a n (input a 1 == disk_device) (input a 1 == usr_device) (input a 1 == link_device) c same

-- CLOSE
shuts_duty : (m : Machine) (v : State) (j : ℕ) (x : View) (s : Site) (a : Ask) (n : ℕ) → Calling m v j x.own s a n → Duty v j x.own s a n (shuts x a)
shuts_duty m v j x s a n c = ending_duty m v j x.own s a n (changes.Shut (input a 0) ∷ []) [] c (tt, tt) (tt, tt) refl tt (omega arith)

close_on_duty : (m : Machine) (v : State) (j : ℕ) (x : View) (s : Site) (a : Ask) (n : ℕ) (h : Chan) → Calling m v j x.own s a n
    → call_named a.name ≡ Some Close
    → (is_disk h ≡ true → v.mark ≡ None) → Duty v j x.own s a n (close_on x a h)
close_on_duty m v j x s a n Shut c e u = fails_duty m v j x s a n 0o4 c
close_on_duty m v j x s a n (Writes f) c e u = closes_draft_duty m v j x s a n f c e (u refl)
close_on_duty m v j x s a n (Linked l write) c e u = closes_end_duty m v j x s a n l write c
close_on_duty m v j x s a n _ c e u = shuts_duty m v j x s a n c

pub close_duty : (m : Machine) (v : State) (j : ℕ) (x : View) (s : Site) (a : Ask) (n : ℕ) → Calling m v j x.own s a n
    → call_named a.name ≡ Some Close → a.fail ≡ 0
    → Duty v j x.own s a n (close_call x a)
unfolding close_call
close_duty m v j x s a n c e z = close_on_duty m v j x s a n (channel_at x.own.channels (input a 0)) c e (λ h. unmarked m v j x s a n Close c e z h)

-- `.IOT`
iot_on_duty : (m : Machine) (v : State) (j : ℕ) (x : View) (s : Site) (a : Ask) (n e i : ℕ) (h : Chan) → Calling m v j x.own s a n
    → call_named a.name ≡ Some Iot → e % 2 ^ 18 ≡ e
    → ((k at : ℕ) (write : Bool) → h ≡ On k write at → Aimed v j k) → Duty v j x.own s a n (iot_on x e i h)
iot_on_duty m v j x s a n e i Shut c is here t = nothing_duty m v j x s a n c
iot_on_duty m v j x s a n e i TtyIn c is here t = iot_in_duty m v j x s a n e (view_console x) c is here
iot_on_duty m v j x s a n e i TtyOut c is here t = iot_out_duty m v j x s a n e (view_console x) c is
iot_on_duty m v j x s a n e i (Reads f at) c is here t = iot_reads_duty m v j x s a n e i at f c here
iot_on_duty m v j x s a n e i (Writes f) c is here t = iot_writes_duty m v j x s a n e i f c
iot_on_duty m v j x s a n e i (On k true at) c is here t = iot_into_duty m v j x s a n e i k at c (t k at true refl)
iot_on_duty m v j x s a n e i (On k false at) c is here t = iot_from_duty m v j x s a n e i at c here
iot_on_duty m v j x s a n e i (Linked l true) c is here t = iot_sends_duty m v j x s a n e l c is
iot_on_duty m v j x s a n e i (Linked l false) c is here t = iot_receives_duty m v j x s a n e l c is here

pub iot_duty : (m : Machine) (v : State) (j : ℕ) (x : View) (s : Site) (a : Ask) (n : ℕ) → Calling m v j x.own s a n
    → call_named a.name ≡ Some Iot → a.fail ≡ 0
    → Duty v j x.own s a n (iot_call x a)
unfolding iot_call
iot_duty m v j x s a n c is z =
    iot_on_duty m v j x s a n (slice_index_or a.outputs.items 0 0) (input a 0) (channel_at x.own.channels (input a 0)) c is c.fetched.address
    (λ k at write e. aimed_on m v j x.own s a n Iot 0 k at write c is z refl refl e)

-- SIOT
siot_on_duty : (d : Decoding) (m : Machine) (v : State) (j : ℕ) (x : View) (s : Site) (a : Ask) (n i : ℕ) (h : Chan)
    → Calling m v j x.own s a n → call_named a.name ≡ Some Siot → a.fail ≡ 0
    → ((k at : ℕ) (write : Bool) → h ≡ On k write at → Aimed v j k) → Duty v j x.own s a n (siot_on x a i h)
siot_on_duty d m v j x s a n i Shut c e z t = fails_duty m v j x s a n 0o4 c
siot_on_duty d m v j x s a n i TtyIn c e z t = siot_in_duty d m v j x s a n c e z
siot_on_duty d m v j x s a n i TtyOut c e z t = siot_out_duty d m v j x s a n c e z
siot_on_duty d m v j x s a n i (Reads f at) c e z t = siot_reads_duty d m v j x s a n i at (slice_get (words_of x f) at) c e z
siot_on_duty d m v j x s a n i (Writes f) c e z t = siot_writes_duty d m v j x s a n i f c e z
siot_on_duty d m v j x s a n i (On k true at) c e z t = siot_into_duty d m v j x s a n i k at c e z (t k at true refl)
siot_on_duty d m v j x s a n i (On k false at) c e z t = siot_from_duty d m v j x s a n i at c e z
siot_on_duty d m v j x s a n i (Linked l true) c e z t = siot_sends_duty d m v j x s a n l c e z
siot_on_duty d m v j x s a n i (Linked l false) c e z t = siot_receives_duty d m v j x s a n l c e z

pub siot_duty : (d : Decoding) (m : Machine) (v : State) (j : ℕ) (x : View) (s : Site) (a : Ask) (n : ℕ) → Calling m v j x.own s a n
    → call_named a.name ≡ Some Siot → a.fail ≡ 0
    → Duty v j x.own s a n (siot_call x a)
unfolding siot_call
siot_duty d m v j x s a n c e z =
    siot_on_duty d m v j x s a n (input a 0) (channel_at x.own.channels (input a 0)) c e z
    (λ k at write h. aimed_on m v j x.own s a n Siot 0 k at write c e z refl refl h)
