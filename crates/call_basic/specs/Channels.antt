-- Whether a channel of some registers is closed, in the forms that code answers.
-- No promise rests on this.
use Rattle.std.specs.Prelude.{◌&&◌, ℕ, Bool, true, false, nat_lt}
use Rattle.its_records.specs.declared.jobs.Channel.{Channel}
use Rattle.its_records.specs.declared.jobs.Channel.TheVariants.{Closed}
use Rattle.its_records.specs.declared.jobs.Job.{Job}
use Rattle.its_shared.specs.Called.{channel_under}

abbrev pub is_closed : Channel → Bool
is_closed Closed = true
is_closed _ = false

-- a number that is that of a closed channel
abbrev pub is_free : Job → ℕ → Bool
is_free j n = nat_lt n 16 && is_closed (channel_under j n)
