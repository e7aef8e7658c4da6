-- What a call decides can be made: OPEN by its device; CLOSE, `.IOT` and SIOT by what the channel
-- is on; and all calls by their names.
use Rattle.std.specs.Prelude.{◌==◌, ◌≡◌, ℕ, Bool, true, false, not, Option, Some, None, is_some, [], ◌∷◌, ◌++◌, slice_get, slice_index_or, unwrap_or, refl}
use Rattle.its_word.specs.Core.{word_at}
use Rattle.its_records.specs.declared.calls.Ask.{Ask}
use Rattle.its_frame.specs.declared.change.Change.TheVariants as changes
use Rattle.its_frame.specs.declared.name.CallName.{CallName}
use Rattle.its_frame.specs.declared.name.CallName.TheVariants.{Hang, Sleep, Dismis, Usrvar, Logout, Open, Close, Iot, Siot, Ttylnd, Access, Delete, Rename, Usrmem, Uclose, Corblk, Realt}
use Rattle.its_plain.specs.Call.Arguments.{input}
use Rattle.its_plain.specs.Call.Basic.{channel_at, ioc}
use Rattle.its_plain.specs.Call.Device.{open_by, open_call, shuts, close_on, close_call, iot_on, iot_call, siot_on, siot_call}
use Rattle.its_plain.specs.Call.File.{disk_device, channels_in, is_full, words_of, iot_read, siot_read, siot_write}
use Rattle.its_plain.specs.Call.Link.{link_device}
use Rattle.its_plain.specs.Call.Tty.{view_console, siot_in, siot_out}
use Rattle.its_plain.specs.Call.Transfer.{store_tests, read_tests, word_of, iot_ends, next_pointer}
use Rattle.its_plain.specs.Call.Usr.{usr_device, other_core, at_end, siot_peeks, siot_pokes}
use Rattle.its_plain.specs.Machine.Change.{effect}
use Rattle.its_plain.specs.Call.Decide.{decided_by}
use Rattle.its_plain.specs.Machine.{Chan, Shut, TtyIn, TtyOut, Reads, Writes, On, Linked, Machine}
use Rattle.its_plain.specs.Call.Tests.{◌⇒◌}
use Rattle.its_plain.specs.Machine.View.{View}
use Rattle.its_stepped.specs.Tick.{is_disk, helps_by}
use Rattle.its_stepped.proofs.Duties.CallWays.{answer_ways}
use Rattle.its_stepped.proofs.Committing.TestLaws.{first_holds}
use Rattle.its_shared.proofs.CanLaws.{Beside, nothing, IsOpen, open_number, Sees, Can, console_below, opens_can, opens_disk_can, closes_draft_can, iot_in_can, iot_out_can, iot_read_can, roomy, siot_by_can, siot_in_can, siot_out_can, siot_read_can, siot_write_can, sleep_can, realt_can, dismiss_can, OnSlot, usrvar_can, told_can, ttylnd_can, answering_can, access_can, delete_can, rename_can, opens_link_can, closes_end_can, iot_linked_can, siot_linked_can}
use Rattle.its_shared.proofs.UsrCanLaws.{Finds, opens_usr_can, iot_from_can, iot_into_can, siot_peeks_can, siot_pokes_can, usrmem_can, uclose_can}
use Rattle.its_shared.proofs.CoreCanLaws.{FindsPages, corblk_can}

open_by_can : (v : Beside) (j : ℕ) (m : Machine) (x : View) (a : Ask) (disk usr link : Bool) → Sees x m j → (disk ≡ true → v.files)
    → Can v j m (open_by x a disk usr link)
open_by_can v j m x a true usr link s u = opens_disk_can v j m x a s (u refl)
open_by_can v j m x a false true link s u = opens_usr_can v j m x a s
open_by_can v j m x a false false true s u = opens_link_can v j m x a s
open_by_can v j m x a false false false s u = opens_can v j m x a s

shuts_can : (v : Beside) (j : ℕ) (m : Machine) (x : View) (a : Ask) (c : Chan) → channel_at x.own.channels (input a 0) ≡ c → IsOpen c → Can v j m (shuts x a)
shuts_can v j m x a c e h = (open_number x.own.channels (input a 0) c e h, tt)

close_on_can : (v : Beside) (j : ℕ) (m : Machine) (x : View) (a : Ask) (c : Chan) → Sees x m j → (is_disk c ≡ true → v.files)
    → channel_at x.own.channels (input a 0) ≡ c → Can v j m (close_on x a c)
close_on_can v j m x a Shut s u e = tt
close_on_can v j m x a TtyIn s u e = shuts_can v j m x a TtyIn e tt
close_on_can v j m x a TtyOut s u e = shuts_can v j m x a TtyOut e tt
close_on_can v j m x a (Reads f at) s u e = shuts_can v j m x a (Reads f at) e tt
close_on_can v j m x a (Writes f) s u e = closes_draft_can v j m x a f s (u refl) e
close_on_can v j m x a (On k write at) s u e = shuts_can v j m x a (On k write at) e tt
close_on_can v j m x a (Linked l write) s u e = closes_end_can v j m x a l write s e

iot_on_can : (v : Beside) (j : ℕ) (m : Machine) (x : View) (a : Ask) (e : ℕ) (c : Chan) → Sees x m j → (is_disk c ≡ true → v.files)
    → Finds v x m j a (Some Iot) → channel_at x.own.channels (input a 0) ≡ c
    → Can v j m (iot_on x e (input a 0) c)
iot_on_can v j m x a e Shut s u f is = tt
iot_on_can v j m x a e TtyIn s u f is = iot_in_can v j m x e (view_console x) (console_below x m j s)
iot_on_can v j m x a e TtyOut s u f is = iot_out_can v j m x e (view_console x) (console_below x m j s) s
iot_on_can v j m x a e (Reads names at) s u f is =
    let n = input a 0 in
    first_holds (Can v j m) (store_tests x e) (iot_read x e n at (slice_get (words_of x names) at)) (λ t. tt, (λ t. tt, tt))
    (λ t. iot_read_can v j m x e n at (slice_get (words_of x names) at) (open_number x.own.channels n (Reads names at) is tt))
iot_on_can v j m x a e (Writes d) s u f is =
    let n = input a 0 in
    first_holds (Can v j m) (read_tests x e ++ (is_full x.files (channels_in x) d.words ⇒ ioc x ∷ []))
    (iot_ends x (changes.Append n (word_of x e) ∷ []) []) (λ t. tt, (λ t. tt, tt))
    (λ t. (roomy x m j n d s is t.1.0 (word_of x e), u refl))
iot_on_can v j m x a e (On k true at) s u f is =
    iot_into_can v j m x e (input a 0) k at (open_number x.own.channels (input a 0) (On k true at) is tt) (f.inferior Iot refl refl k at true is)
iot_on_can v j m x a e (On k false at) s u f is = iot_from_can v j m x e (input a 0) at (open_number x.own.channels (input a 0) (On k false at) is tt)
iot_on_can v j m x a e (Linked l write) s u f is = iot_linked_can v j m x e (input a 0) l write s is

siot_on_can : (v : Beside) (j : ℕ) (m : Machine) (x : View) (a : Ask) (c : Chan) → Sees x m j → (is_disk c ≡ true → v.files)
    → Finds v x m j a (Some Siot) → channel_at x.own.channels (input a 0) ≡ c
    → Can v j m (siot_on x a (input a 0) c)
siot_on_can v j m x a Shut s u f is = tt
siot_on_can v j m x a TtyIn s u f is =
    let next = next_pointer (input a 1) in
    siot_by_can v j m x a false false (siot_in x a next (input a 2) (view_console x))
    (λ e. siot_in_can v j m x a next (input a 2) (view_console x) (console_below x m j s))
siot_on_can v j m x a TtyOut s u f is =
    let next = next_pointer (input a 1) in
    siot_by_can v j m x a false false (siot_out x a next (input a 2) (view_console x))
    (λ e. siot_out_can v j m x a next (input a 2) (view_console x) (console_below x m j s) s)
siot_on_can v j m x a (Reads names at) s u f is =
    let n = input a 0 in
    let o = slice_get (words_of x names) at in
    siot_by_can v j m x a true (not (is_some o)) (siot_read x (next_pointer (input a 1)) (input a 2) n at (unwrap_or o 0))
    (λ e. siot_read_can v j m x (next_pointer (input a 1)) (input a 2) n at (unwrap_or o 0) (open_number x.own.channels n (Reads names at) is tt))
siot_on_can v j m x a (Writes d) s u f is =
    let n = input a 0 in
    siot_by_can v j m x a true false (siot_write x a (next_pointer (input a 1)) (input a 2) n d)
    (λ e. siot_write_can v j m x a (next_pointer (input a 1)) (input a 2) n d s (u refl) is)
siot_on_can v j m x a (On k true at) s u f is =
    let n = input a 0 in
    let next = next_pointer (input a 1) in
    siot_by_can v j m x a true (at_end at) (siot_pokes x a next (input a 2) n k at)
    (siot_pokes_can v j m x a next (input a 2) n k at (open_number x.own.channels n (On k true at) is tt) (f.inferior Siot refl refl k at true is))
siot_on_can v j m x a (On k false at) s u f is =
    let n = input a 0 in
    let next = next_pointer (input a 1) in
    siot_by_can v j m x a true (at_end at) (siot_peeks x a next (input a 2) n at (word_at (other_core x) at))
    (λ t. siot_peeks_can v j m x a next (input a 2) n at (word_at (other_core x) at) (open_number x.own.channels n (On k false at) is tt))
siot_on_can v j m x a (Linked l write) s u f is = siot_linked_can v j m x a (input a 0) l write s is

-- the job that a channel is on which USRVAR names
channel_slot : (v : Beside) (j : ℕ) (m : Machine) (x : View) (a : Ask) (c : Chan) → Finds v x m j a (Some Usrvar)
    → channel_at x.own.channels (input a 0) ≡ c → OnSlot c
channel_slot v j m x a (On k write at) f is = (f.inferior Usrvar refl refl k at write is).slot
channel_slot v j m x a _ f is = tt

-- the calls by their names
pub call_can : (v : Beside) (j : ℕ) (m : Machine) (x : View) (a : Ask) (o : Option CallName) → Sees x m j
    → (helps_by x.own a o ≡ true → v.files) → Finds v x m j a o
    → (o ≡ Some Corblk → FindsPages v x m j a) → Can v j m (decided_by x a o)
unfolding open_call close_call iot_call siot_call
call_can v j m x a (Some Hang) s u f g = tt
call_can v j m x a (Some Sleep) s u f g = sleep_can v j m x a
call_can v j m x a (Some Dismis) s u f g = dismiss_can v j m x a
call_can v j m x a (Some Usrvar) s u f g = usrvar_can v j m x a (channel_slot v j m x a (channel_at x.own.channels (input a 0)) f refl)
call_can v j m x a (Some Logout) s u f g = told_can nothing j (effect (changes.Remove j) j m) x.own.superior s.superior
call_can v j m x a (Some Open) s u f g = open_by_can v j m x a (input a 1 == disk_device) (input a 1 == usr_device) (input a 1 == link_device) s u
call_can v j m x a (Some Close) s u f g = close_on_can v j m x a (channel_at x.own.channels (input a 0)) s u refl
call_can v j m x a (Some Iot) s u f g = iot_on_can v j m x a (slice_index_or a.outputs.items 0 0) (channel_at x.own.channels (input a 0)) s u f refl
call_can v j m x a (Some Siot) s u f g = siot_on_can v j m x a (channel_at x.own.channels (input a 0)) s u f refl
call_can v j m x a (Some Ttylnd) s u f g = ttylnd_can v j m x a s
call_can v j m x a (Some Access) s u f g = access_can v j m x a
call_can v j m x a (Some Delete) s u f g = delete_can v j m x a s (u refl)
call_can v j m x a (Some Rename) s u f g = rename_can v j m x a s (u refl)
call_can v j m x a (Some Usrmem) s u f g = usrmem_can v j m x a f
call_can v j m x a (Some Uclose) s u f g = uclose_can v j m x a f
call_can v j m x a (Some Corblk) s u f g = corblk_can v j m x a (g refl)
call_can v j m x a (Some Realt) s u f g = realt_can v j m x a
call_can v j m x a (Some n) s u f g = answer_ways (Can v j m) x a n refl (answering_can v j m x a) (λ i r. tt)
call_can v j m x a None s u f g = tt
