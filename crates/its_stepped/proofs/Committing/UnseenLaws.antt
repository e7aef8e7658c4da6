-- A call that is not one on files does not look at the directory.
use Rattle.std.specs.Prelude.{◌≡◌, ◌==◌, ℕ, Bool, true, false, Option, Some, List, slice_index_or, refl}
use Rattle.std.proofs.Common.{◌∙◌}
use Rattle.its_records.specs.declared.calls.Ask.{Ask}
use Rattle.its_frame.specs.declared.name.CallName.{CallName}
use Rattle.its_frame.specs.declared.name.CallName.TheVariants.{Open, Close, Iot, Siot}
use Rattle.its_plain.specs.Machine.{File, Chan, Reads, Writes}
use Rattle.its_plain.specs.Call.Arguments.{input}
use Rattle.its_plain.specs.Machine.View.{View}
use Rattle.its_plain.specs.Call.Basic.{channel_at, sleep, dismiss, usrvar, realt}
use Rattle.its_plain.specs.Call.Tty.{opens, finish, listen, ttylnd}
use Rattle.its_plain.specs.Call.File.{disk_device}
use Rattle.its_plain.specs.Call.Usr.{usr_device, opens_usr, usrmem, uclose}
use Rattle.its_plain.specs.Call.Link.{link_device, opens_link}
use Rattle.its_plain.specs.Call.Core.{corblk}
use Rattle.its_plain.specs.Call.Device.{open_by, open_call, close_on, close_call, iot_on, iot_call, siot_on, siot_call}
use Rattle.its_plain.specs.Call.Decide.{call_named, decided_by, decided}
use Rattle.its_stepped.specs.Tick.{is_disk, helps_by, helps}

-- what a call sees, with another directory
abbrev pub with_files : View → List File → View
with_files v fs = record v { files = fs }

open_unseen : (v : View) (fs : List File) (a : Ask) (disk usr link : Bool) → disk ≡ false
    → open_by (with_files v fs) a disk usr link ≡ open_by v a disk usr link
unfolding opens opens_usr opens_link
open_unseen v fs a false true link h = refl
open_unseen v fs a false false true h = refl
open_unseen v fs a false false false h = refl
open_unseen v fs a true usr link h = absurd cc

close_unseen : (v : View) (fs : List File) (a : Ask) (c : Chan) → is_disk c ≡ false → close_on (with_files v fs) a c ≡ close_on v a c
close_unseen v fs a (Reads f at) h = absurd cc
close_unseen v fs a (Writes f) h = absurd cc
close_unseen v fs a _ h = refl

iot_unseen : (v : View) (fs : List File) (e n : ℕ) (c : Chan) → is_disk c ≡ false → iot_on (with_files v fs) e n c ≡ iot_on v e n c
iot_unseen v fs e n (Reads f at) h = absurd cc
iot_unseen v fs e n (Writes f) h = absurd cc
iot_unseen v fs e n _ h = refl

siot_unseen : (v : View) (fs : List File) (a : Ask) (n : ℕ) (c : Chan) → is_disk c ≡ false → siot_on (with_files v fs) a n c ≡ siot_on v a n c
siot_unseen v fs a n (Reads f at) h = absurd cc
siot_unseen v fs a n (Writes f) h = absurd cc
siot_unseen v fs a n _ h = refl

named_unseen : (v : View) (fs : List File) (a : Ask) (o : Option CallName) → helps_by v.own a o ≡ false → decided_by (with_files v fs) a o ≡ decided_by v a o
unfolding open_call close_call iot_call siot_call sleep dismiss usrvar realt finish listen ttylnd usrmem uclose corblk
named_unseen v fs a (Some Open) h = open_unseen v fs a (input a 1 == disk_device) (input a 1 == usr_device) (input a 1 == link_device) h
named_unseen v fs a (Some Close) h = close_unseen v fs a (channel_at v.own.channels (input a 0)) h
named_unseen v fs a (Some Iot) h = iot_unseen v fs (slice_index_or a.outputs.items 0 0) (input a 0) (channel_at v.own.channels (input a 0)) h
named_unseen v fs a (Some Siot) h = siot_unseen v fs a (input a 0) (channel_at v.own.channels (input a 0)) h
named_unseen v fs a _ h = cc

unseen_by : (v : View) (fs : List File) (a : Ask) (z : Bool) → (a.fail == 0) ≡ z → helps v.own a ≡ false → decided (with_files v fs) a ≡ decided v a
unfolding decided helps
unseen_by v fs a true z h =
    let e : helps_by v.own a (call_named a.name) ≡ helps v.own a = rw z refl in
    rw z (named_unseen v fs a (call_named a.name) (e ∙ h))
unseen_by v fs a false z h = rw z refl

pub files_unseen : (v : View) (fs : List File) (a : Ask) → helps v.own a ≡ false → decided (with_files v fs) a ≡ decided v a
files_unseen v fs a h = unseen_by v fs a (a.fail == 0) refl h
