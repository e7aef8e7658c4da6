-- A job whose call is at hand: its step is that call, which can be decoded.
use Rattle.std.specs.Prelude.{◌≡◌, ◌≢◌, ℕ, false, Option, Some, None, refl}
use Rattle.std.proofs.Common.{sym, ◌∙◌, subst}
use Rattle.its_records.specs.declared.jobs.Job.{Job}
use Rattle.its_core.specs.Cores.{core_at}
use Rattle.its_jobs.specs.Table.{job_at}
use Rattle.its_plain.specs.Call.Step.{transition}
use Rattle.its_plain.specs.Unit.Interrupt.{deliverable}
use Rattle.its_plain.specs.Unit.{Called, unit}
use Rattle.pdp_exec.specs.Near.{near_site}
use Rattle.pdp_exec.specs.declared.near.Near.{Near}
use Rattle.its_direct.specs.Plain.{machine_of}
use Rattle.its_direct.specs.Steps.{CallsAt}
use Rattle.its_direct.specs.Waiting.{AtHand}
use Rattle.its_direct.specs.declared.plain.Plain.{Plain}
use Rattle.its_direct.proofs.UserLaws.{calls_at}

-- a job with these registers is at a call that is at hand
pub record HandOf (p : Plain) (s : ℕ) (n : Near) (i : Job) : Type 0 where
  pub runs : i.stopped ≡ false
  pub quiet : deliverable i ≡ false
  pub unit : unit (core_at p.core s) i ≡ Called (near_site i.pc n)

pub hand_of : (p : Plain) (s : ℕ) (n : Near) (i : Job) → AtHand p s n → job_at p.jobs s ≡ Some i → HandOf p s n i
hand_of p s n i h had =
    let both : Some h.job ≡ Some i = sym h.had ∙ had in
    let same : h.job ≡ i = cc in
    subst (HandOf p s n) same (record { runs = h.runs; quiet = h.quiet; unit = h.unit })

pub hand_calls : (p : Plain) (s : ℕ) (n : Near) (i : Job) → AtHand p s n → job_at p.jobs s ≡ Some i
    → CallsAt (machine_of p) s (near_site i.pc n) (transition (machine_of p) s)
hand_calls p s n i h had =
    let o = hand_of p s n i h had in
    calls_at p p.core s i (near_site i.pc n) had o.runs o.quiet refl o.unit

pub hand_some : (p : Plain) (s : ℕ) (n : Near) (o : Option Job) → AtHand p s n → o ≡ job_at p.jobs s → o ≢ None
hand_some p s n o h is none = let wrong : None ≡ Some h.job = sym none ∙ is ∙ h.had in cc
