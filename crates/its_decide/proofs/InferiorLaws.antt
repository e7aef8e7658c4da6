-- The inferior that a channel of the caller is on: the call reaches it, and sees its core.
use Rattle.std.specs.Prelude.{◌≡◌, ◌<◌, ℕ, Bool, true, Some, is_some, refl}
use Rattle.std.proofs.Common.{◌∙◌, ap, subst, inl, inr}
use Rattle.std.proofs.lemmas.Bool.{cases_lt}
use Rattle.its_word.specs.Core.{can_store, word_at}
use Rattle.its_word.specs.Limits.{slots}
use Rattle.its_records.specs.Tree.{least_free}
use Rattle.its_records.specs.declared.jobs.Channel.TheVariants.{Usr}
use Rattle.its_core.specs.Cores.{core_at}
use Rattle.its_frame.specs.declared.name.CallName.{CallName}
use Rattle.its_frame.specs.declared.name.CallName.TheVariants.{Corblk, Iot, Siot, Usrmem}
use Rattle.its_jobs.specs.Table.{job_at}
use Rattle.its_plain.specs.Call.Arguments.{input}
use Rattle.its_plain.specs.Call.Usr.{other_core}
use Rattle.its_plain.specs.Call.Decide.{call_named, reaching}
use Rattle.its_plain.specs.Machine.{core_of}
use Rattle.its_plain.specs.Machine.View.{job_at as job_seen, view}
use Rattle.its_plain.proofs.TargetLaws.{target_on}
use Rattle.its_shared.specs.Called.{channel_under}
use Rattle.its_decide.specs.Called.{looks, raw}
use Rattle.its_decide.specs.Fits.{SeenFits, OnJob}
use Rattle.its_decide.specs.Seen.{machine_seen}
use Rattle.its_decide.specs.Targets.{Targets}
use Rattle.its_decide.specs.declared.caller.Caller.{Caller}
use Rattle.its_shared.proofs.NumberLaws.{held, usr_number, usr_on}
use Rattle.its_shared.proofs.SeenLaws.{core_here, free_seen}

module _ (c : Caller) where
  stands : (n k at : ℕ) (b : Bool) → SeenFits c.seen.now → channel_under c.job.now n ≡ Usr k b at → is_some (job_at c.seen.now.jobs.now k) ≡ true
  stands n k at b fits e = subst (OnJob c.seen.now.jobs.now) (held c.seen.now.jobs.now c.slot n c.job.now (Usr k b at) c.stands e (λ z. cc))
      (fits.aimed c.slot n)

  few : (k : ℕ) → SeenFits c.seen.now → is_some (job_at c.seen.now.jobs.now k) ≡ true → k < slots
  few k fits h = elim (cases_lt k slots) [
    | inl lt ↦ lt
    | inr ge ↦ absurd (let e = ap is_some (fits.few k ge) in cc)
  ]

  -- the call reaches it
  pub targets : (m : CallName) (i k at : ℕ) (b : Bool) → SeenFits c.seen.now → c.ask.now.fail ≡ 0 → call_named c.ask.now.name ≡ Some m
      → reaching m ≡ Some i → channel_under c.job.now (input c.ask.now i) ≡ Usr k b at
      → Targets c (input c.ask.now i) k
  unfolding view
  targets m i k at b fits z e names on =
      let there = stands (input c.ask.now i) k at b fits on in
      record {
        number = usr_number c.job.now (input c.ask.now i) k at b on;
        few = few k fits there;
        core = ap (λ o. core_of (job_seen (machine_seen c.seen.now) o))
            (target_on (raw c) c.ask.now m i k at b z e names (usr_on c.seen.now.files.now c.job.now (input c.ask.now i) k at b on))
            ∙ core_here c.seen.now.files.now c.seen.now.core.now c.seen.now.jobs.now c.seen.now.alarms.now.items k there;
      }

  -- the calls that reach an inferior
  module _ (k at : ℕ) (b : Bool) (fits : SeenFits c.seen.now) (z : c.ask.now.fail ≡ 0) where
    pub iot_targets : call_named c.ask.now.name ≡ Some Iot → channel_under c.job.now (input c.ask.now 0) ≡ Usr k b at → Targets c (input c.ask.now 0) k
    iot_targets e on = targets Iot 0 k at b fits z e refl on

    pub siot_targets : call_named c.ask.now.name ≡ Some Siot → channel_under c.job.now (input c.ask.now 0) ≡ Usr k b at → Targets c (input c.ask.now 0) k
    siot_targets e on = targets Siot 0 k at b fits z e refl on

    pub usrmem_targets : call_named c.ask.now.name ≡ Some Usrmem → channel_under c.job.now (input c.ask.now 0) ≡ Usr k b at → Targets c (input c.ask.now 0) k
    usrmem_targets e on = targets Usrmem 0 k at b fits z e refl on

    pub corblk_targets : call_named c.ask.now.name ≡ Some Corblk → channel_under c.job.now (input c.ask.now 1) ≡ Usr k b at → Targets c (input c.ask.now 1) k
    corblk_targets e on = targets Corblk 1 k at b fits z e refl on

  -- its core
  pub other_core_is : (n k : ℕ) → Targets c n k → other_core (looks c) ≡ core_at c.seen.now.core.now k
  other_core_is n k t = t.core

  pub other_word : (n k at : ℕ) → Targets c n k → word_at (other_core (looks c)) at ≡ word_at (core_at c.seen.now.core.now k) at
  other_word n k at t = ap (λ d. word_at d at) t.core

  pub other_stored : (n k at : ℕ) → Targets c n k → can_store (other_core (looks c)) at ≡ can_store (core_at c.seen.now.core.now k) at
  other_stored n k at t = ap (λ d. can_store d at) t.core

  -- the least slot in which the call sees no job
  pub free_slot : SeenFits c.seen.now → least_free (looks c).limit (looks c).outlines ≡ least_free c.seen.now.jobs.now.limit (job_at c.seen.now.jobs.now)
  unfolding view
  free_slot fits = free_seen c.seen.now.files.now c.seen.now.core.now c.seen.now.jobs.now c.seen.now.alarms.now.items (looks c).limit fits.limited

-- a call reaches the inferior that its channel is on
pub ruleset targeted = (iot_targets, siot_targets, usrmem_targets, corblk_targets)
