-- A channel is closed if it is shut on the plain machine.
use Rattle.std.specs.Prelude.{◌≡◌, ◌&&◌, ℕ, nat_lt, refl}
use Rattle.std.proofs.Common.{ap, ◌∙◌}
use Rattle.its_records.specs.declared.jobs.Channel.{Channel}
use Rattle.its_records.specs.declared.jobs.Channel.TheVariants.{Closed}
use Rattle.its_records.specs.declared.jobs.Job.{Job}
use Rattle.its_files.specs.Files.{Store}
use Rattle.its_plain.specs.Call.Basic.{channel_at, is_shut}
use Rattle.its_world.specs.World.{chan_of, chans_of}
use Rattle.its_shared.specs.Called.{channel_under}
use Rattle.its_shared.proofs.NumberLaws.{under}
use Rattle.call_basic.specs.Channels.{is_closed, is_free}

closed_by : (s : Store) (c : Channel) → is_closed c ≡ is_shut (chan_of s c)
closed_by s Closed = refl
closed_by s c = refl

pub closed : (s : Store) (j : Job) (n : ℕ) → is_closed (channel_under j n) ≡ is_shut (channel_at (chans_of s j) n)
closed s j n = closed_by s (channel_under j n) ∙ ap is_shut (under s j n)

pub free : (s : Store) (j : Job) (n : ℕ) → is_free j n ≡ (nat_lt n 16 && is_shut (channel_at (chans_of s j) n))
free s j n = ap (λ b. nat_lt n 16 && b) (closed s j n)
