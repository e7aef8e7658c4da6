-- What contracts see of the jobs: for each slot a job, if it has one, and its superior; and the
-- limit below which jobs are made.
-- No promise rests on this.
use Rattle.std.specs.Prelude.{if◌then◌else◌, ◌≡◌, ◌≤◌, ◌<◌, ◌==◌, ◌||◌, ℕ, Bool, true, false, Option, None, List, length, slice_index_or, is_some, IfSome}
use Rattle.its_word.specs.Limits.{slots}
use Rattle.its_records.specs.Tree.{climbs_to, is_below}
use Rattle.its_records.specs.declared.jobs.Job.{Job}

pub record Table : Type 0 where
  pub jobs : List (Option Job)
  pub superiors : List (Option ℕ)
  pub limit : ℕ

-- the job of a slot
abbrev pub job_at : Table → ℕ → Option Job
job_at t k = slice_index_or t.jobs k None

-- the slot of the superior of a slot's job
abbrev pub superior_at : Table → ℕ → Option ℕ
superior_at t k = slice_index_or t.superiors k None

-- the superior of each slot, in the form of a list
abbrev pub superior_in : List (Option ℕ) → ℕ → Option ℕ
superior_in superiors k = slice_index_or superiors k None

-- a superior is a slot that has a job, and only a slot with a job has one; no job is reached from
-- itself
pub record IsTree (jobs : List (Option Job)) (superiors : List (Option ℕ)) : Type 0 where
  pub job_count : length jobs ≡ slots
  pub superior_count : length superiors ≡ slots
  pub below : (k : ℕ) → IfSome (slice_index_or superiors k None) (λ s. s < slots)
  pub standing : (k : ℕ) → IfSome (slice_index_or superiors k None) (λ s. is_some (slice_index_or jobs s None) ≡ true)
  pub owned : (k : ℕ) → slice_index_or jobs k None ≡ None → slice_index_or superiors k None ≡ None
  pub circle : (k : ℕ) → climbs_to (superior_in superiors) k slots (superior_in superiors k) ≡ false

-- what holds of the jobs at any time: they are a tree, and there is a place for each slot below the
-- limit
pub record IsJobs (jobs : List (Option Job)) (superiors : List (Option ℕ)) (limit : ℕ) : Type 0 where
  pub tree : IsTree jobs superiors
  pub few : limit ≤ slots

-- the slots of a job and of all below it
abbrev pub in_tree : (ℕ → Option ℕ) → ℕ → ℕ → Bool
in_tree superiors r k = (k == r) || is_below superiors r k

-- all is as before, but that what is gone is no more
pub record Without {X : Type 0} (gone : ℕ → Bool) (old new : ℕ → Option X) : Type 0 where
  pub each : (k : ℕ) → new k ≡ (if gone k then None else old k)

-- no slot has a job
pub record NoJobs (t : Table) : Type 0 where
  pub jobs : (k : ℕ) → job_at t k ≡ None
  pub superiors : (k : ℕ) → superior_at t k ≡ None
