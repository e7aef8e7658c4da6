-- A job whose call is at hand, and one whose `.IOT` from its console waits.
-- No promise rests on this.
use Rattle.std.specs.Prelude.{if◌then◌else◌, ◌≡◌, ◌==◌, ◌&&◌, ◌||◌, ℕ, Bool, true, false, Option, Some, None, is_none, length, unwrap_or}
use Rattle.its_word.specs.Core.{Core}
use Rattle.its_records.specs.declared.jobs.Channel.{Channel}
use Rattle.its_records.specs.declared.jobs.Channel.TheVariants.{TtyIn}
use Rattle.its_records.specs.declared.jobs.Job.{Job}
use Rattle.its_core.specs.Cores.{core_at}
use Rattle.its_jobs.specs.Table.{job_at}
use Rattle.its_plain.specs.Call.Tty.{is_other}
use Rattle.its_plain.specs.Unit.Interrupt.{deliverable}
use Rattle.its_plain.specs.Unit.{Called, unit}
use Rattle.its_shared.specs.Called.{bar_of, channel_under}
use Rattle.its_shared.specs.Parts.{console_at, holder_at}
use Rattle.pdp_exec.specs.Near.{near_call, near_site}
use Rattle.pdp_exec.specs.declared.near.Near.{Near}
use Rattle.its_direct.specs.declared.plain.Plain.{Plain}

-- the call at hand of a job that has this core, if it runs, no interrupt of it is deliverable, and
-- the word at its PC is such a call
abbrev pub call_of : Core → Option Job → Option Near
call_of c (Some j) = if j.stopped || deliverable j then None else near_call c j.pc
call_of c None = None

-- that of slot s
abbrev pub hand_at : Plain → ℕ → Option Near
hand_at p s = call_of (core_at p.core s) (job_at p.jobs s)

-- slot s's job is at a call, and no word but that at its PC is read on the way to it
pub record AtHand (p : Plain) (s : ℕ) (n : Near) : Type 0 where
  pub job : Job
  pub had : job_at p.jobs s ≡ Some job
  pub runs : job.stopped ≡ false
  pub quiet : deliverable job ≡ false
  pub unit : unit (core_at p.core s) job ≡ Called (near_site job.pc n)

-- whether a channel is for input of the console of its job
abbrev pub is_input : Channel → Bool
is_input TtyIn = true
is_input _ = false

-- whether a console gives slot s's job no byte: it has none, or another job holds it
abbrev pub is_silent : Plain → ℕ → ℕ → Bool
is_silent p s c = length (console_at p.consoles.items c).input == 0 || is_other s (holder_at p.holders c)

-- whether channel n of slot s's job, with these registers, is for input of its console, the word at
-- E can be stored, and the console gives no byte
abbrev pub lacks : Plain → ℕ → Job → ℕ → ℕ → Bool
lacks p s j e n = is_input (channel_under j n) && (is_none (bar_of (core_at p.core s) e) && is_silent p s (unwrap_or j.console 0))

-- whether such a call is `.IOT` through a channel of which this holds
abbrev pub lacks_near : Plain → ℕ → Job → ℕ → Option ℕ → Bool
lacks_near p s j e (Some n) = lacks p s j e n
lacks_near p s j e None = false

-- whether slot s has a job whose call, if it is this one, waits for input
abbrev pub lacks_input : Plain → ℕ → Near → Option Job → Bool
lacks_input p s n (Some j) = lacks_near p s j n.e n.channel
lacks_input p s n None = false
