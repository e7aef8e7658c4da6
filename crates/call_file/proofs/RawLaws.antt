-- Whether a call is one on files, by what its channel is on.
use Rattle.std.specs.Prelude.{◌≡◌, ℕ, true, Some, refl}
use Rattle.std.proofs.Common.{sym, ◌∙◌, ap}
use Rattle.its_records.specs.declared.calls.Ask.{Ask}
use Rattle.its_records.specs.declared.jobs.Channel.{Channel}
use Rattle.its_records.specs.declared.jobs.Channel.TheVariants.{Writing}
use Rattle.its_records.specs.declared.jobs.Job.{Job}
use Rattle.its_files.specs.Files.{Store}
use Rattle.its_frame.specs.declared.name.CallName.TheVariants.{Iot, Siot}
use Rattle.its_plain.specs.Call.Arguments.{input}
use Rattle.its_plain.specs.Call.Basic.{channel_at}
use Rattle.its_plain.specs.Call.Decide.{call_named}
use Rattle.its_stepped.specs.Tick.{helps, is_disk}
use Rattle.its_world.specs.World.{chan_of, chans_of}
use Rattle.its_world.specs.declared.world.World.{World}
use Rattle.its_shared.specs.Called.{channel_under}
use Rattle.call_basic.specs.Seen.{raw_with}
use Rattle.its_shared.proofs.NumberLaws.{under}
use Rattle.call_file.specs.Held.{is_on_file}

-- a channel on a file
disk_by : (s : Store) (c : Channel) → is_on_file c ≡ is_disk (chan_of s c)
disk_by s (Writing d) = refl
disk_by s c = refl

pub on_file : (s : Store) (j : Job) (n : ℕ) → is_on_file (channel_under j n) ≡ is_disk (channel_at (chans_of s j) n)
on_file s j n = disk_by s (channel_under j n) ∙ ap is_disk (under s j n)

-- a transfer on a draft is one on files
draft_disk : (w : World) (j : Job) (n d : ℕ) → channel_under j n ≡ Writing d → is_disk (channel_at (chans_of w.files j) n) ≡ true
draft_disk w j n d e = sym (on_file w.files j n) ∙ ap is_on_file e

pub iot_helps : (w : World) (s : ℕ) (j : Job) (a : Ask) (d : ℕ) → a.fail ≡ 0 → call_named a.name ≡ Some Iot
    → channel_under j (input a 0) ≡ Writing d → helps (raw_with w s j) a ≡ true
unfolding helps
iot_helps w s j a d f n e = rw (f, n) (draft_disk w j (input a 0) d e)

pub siot_helps : (w : World) (s : ℕ) (j : Job) (a : Ask) (d : ℕ) → a.fail ≡ 0 → call_named a.name ≡ Some Siot
    → channel_under j (input a 0) ≡ Writing d → helps (raw_with w s j) a ≡ true
unfolding helps
siot_helps w s j a d f n e = rw (f, n) (draft_disk w j (input a 0) d e)
