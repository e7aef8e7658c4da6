-- What the laws of each part need of a machine, from what holds of one that can be saved.
use Rattle.std.specs.Prelude.{◌≡◌, ◌≤◌, ◌<◌, ℕ, ◌^◌, true, Option, Some, None, IfSome, is_some, nat_lt, refl}
use Rattle.std.proofs.Common.{sym, ◌∙◌, subst, arith, inl, inr}
use Rattle.std.proofs.lemmas.Bool.{cases_Bool}
use Rattle.std.proofs.lemmas.Bool.Decides.{nat_tests}
use Rattle.its_word.specs.Flags.{named_flags}
use Rattle.its_word.specs.Limits.{slots}
use Rattle.its_records.proofs.FreeLaws.{limit_few}
use Rattle.its_plain.specs.Machine.{Chan, Shut, TtyIn, TtyOut, Reads, Writes, On, Linked, Whole, Pipe, Machine, limit}
use Rattle.its_plain.specs.Machine.Change.{channel_in, console_in}
use Rattle.its_plain.specs.Operator.Clock.{alarm_in}
use Rattle.its_stepped.specs.Forest.{OnInferior, OnConsole, OnLink}
use Rattle.its_stepped.specs.Alarmed.{Coming}
use Rattle.its_saved.specs.WellFormed.{IsHollow, HollowIn, AliveIn, WellFormed}
use Rattle.its_saved.proofs.JobLaws.{JobFits}
use Rattle.its_saved.proofs.ChannelLaws.{ChanFits, Fits}
use Rattle.its_saved.proofs.LinkLaws.{Drafted, LinkFits}

module _ (m : Machine) (w : WellFormed m) where
  chan_fits : (k n : ℕ) (c : Chan) → channel_in (m.jobs k) n ≡ c → OnInferior m k c → OnConsole (console_in (m.jobs k)) c → OnLink m k n c → ChanFits m k n c
  chan_fits k n Shut e i o l = tt
  chan_fits k n TtyIn e i o l = by (m.jobs k) o
    where
      by : (q : Option Whole) → is_some (console_in q) ≡ true → IfSome q (λ q. is_some q.job.console ≡ true)
      by None h = tt
      by (Some q) h = h
  chan_fits k n TtyOut e i o l = by (m.jobs k) o
    where
      by : (q : Option Whole) → is_some (console_in q) ≡ true → IfSome q (λ q. is_some q.job.console ≡ true)
      by None h = tt
      by (Some q) h = h
  chan_fits k n (Reads names at) e i o l = w.types.read k n at names e
  chan_fits k n (Writes f) e i o l = tt
  chan_fits k n (On s write at) e i o l = i
  chan_fits k n (Linked j write) e i o l = l

  pub channels_fit : Fits m
  channels_fit = record {
    channels = λ k n. chan_fits k n (channel_in (m.jobs k) n) refl (w.forest.channels k n) (w.forest.consoles k n) (w.forest.links.channels k n);
    ends = w.forest.links.ends;
  }

  pub past_slots : (k : ℕ) → slots ≤ k → m.jobs k ≡ None
  past_slots k h = w.forest.few k (let v = limit_few m.version in omega arith)

  pub drafts_fit : Drafted m
  drafts_fit = record { files_room = w.types.few_blocks; past_channels = w.types.past_channels; past_slots = past_slots }

  pub link_fits : (l : ℕ) (p : Pipe) → m.links l ≡ Some p → LinkFits p
  link_fits l p e = record { alive = subst AliveIn e (w.tight.links l); few = w.types.few_words l p e }

  below : (k : ℕ) (q : Whole) → m.jobs k ≡ Some q → k < limit m
  below k q e = elim (cases_Bool (nat_lt k (limit m))) [
    | inl t ↦ (let h : k < limit m = grind (arith, nat_tests) in h)
    | inr t ↦ absurd (let h : limit m ≤ k = grind (arith, nat_tests) in let z = sym (w.forest.few k h) ∙ e in cc)
  ]

  pub job_fits : (k : ℕ) (q : Whole) → m.jobs k ≡ Some q → JobFits (limit m) k q (m.symbols k)
  job_fits k q e = record {
    below = below k q e;
    closed = w.types.closed k q e;
    addressed = subst (λ o. IfSome o (λ q. q.job.pc < 2 ^ 18)) e (w.addressed.each k);
    flagged = subst (λ o. IfSome o (λ q. named_flags q.job.flags ≡ q.job.flags)) e (w.flagged.each k);
    few = w.types.few_symbols k;
  }

  pub core_hollow : (k : ℕ) (q : Whole) → m.jobs k ≡ Some q → IsHollow q.core
  core_hollow k q e = subst HollowIn e (w.tight.cores k)

  pub alarm_comes : (k : ℕ) (q : Whole) → m.jobs k ≡ Some q → IfSome q.alarm (λ a. Coming m.clock a)
  alarm_comes k q e = subst (λ o. IfSome (alarm_in o) (λ a. Coming m.clock a)) e (w.alarmed.each k)
