-- A job of the plain machine by its parts, and functions that change at one place.
use Rattle.std.specs.Prelude.{◌≡◌, ◌≢◌, ℕ, zero, suc, Option, Some, None, List, option_map, replicate, slice_index_or, refl}
use Rattle.std.proofs.Common.{ap, ◌∙◌, sym, inl, inr}
use Rattle.std.proofs.lemmas.Bool.{cases_eq, eq-eqb, ne_eqb}
use Rattle.its_word.specs.Core.{Core, no_core}
use Rattle.its_word.specs.Only.{Only}
use Rattle.its_records.specs.Tree.{fresh_job}
use Rattle.its_records.specs.declared.jobs.Channel.TheVariants.{Closed}
use Rattle.its_records.specs.declared.jobs.Job.{Job}
use Rattle.its_core.specs.Cores.{Cores, core_at}
use Rattle.its_files.specs.Files.{Store}
use Rattle.its_jobs.specs.Table.{Table, job_at, superior_at}
use Rattle.its_plain.specs.Machine.Change.{on_slot}
use Rattle.its_plain.specs.Machine.{Whole, whole, changed}
use Rattle.its_shared.specs.Across.{channel_by}
use Rattle.its_shared.specs.Parts.{chan_of, chans_of, closed_channels, bare, alarm_at, raw_of, raw_at}

-- a job with its core, its registers, its superior and its alarm
abbrev pub raw_job : Store → Core → Job → Option ℕ → Option (ℕ × ℕ) → Whole
raw_job s c j superior alarm = record { core = c; job = bare j; superior = superior; channels = chans_of s j; alarm = alarm }

pub raw_some : (x : Store) (cores : Cores) (t : Table) (alarms : List (Option (ℕ × ℕ))) (s : ℕ) (j : Job) → job_at t s ≡ Some j
    → raw_at x cores t alarms s ≡ Some (raw_job x (core_at cores s) j (superior_at t s) (alarm_at alarms s))
raw_some x cores t alarms s j h = ap (raw_of x (core_at cores s) (superior_at t s) (alarm_at alarms s)) h

pub raw_none : (x : Store) (cores : Cores) (t : Table) (alarms : List (Option (ℕ × ℕ))) (s : ℕ) → job_at t s ≡ None → raw_at x cores t alarms s ≡ None
raw_none x cores t alarms s h = ap (raw_of x (core_at cores s) (superior_at t s) (alarm_at alarms s)) h

-- a function that is another but at one place
pub changed_only : {X : Type 0} (f : ℕ → X) (i : ℕ) (x : X) → Only f (changed f i x) i x
changed_only f i x = record { here = rw (eq-eqb i i refl); others = λ k ne. rw (ne_eqb k i ne) }

pub changed_at : {X : Type 0} (f g : ℕ → X) (s : ℕ) (x : X) → f s ≡ x → ((k : ℕ) → k ≢ s → f k ≡ g k) → (k : ℕ) → f k ≡ changed g s x k
changed_at f g s x here others k = elim (cases_eq k s) [
  | inl e ↦ ap f e ∙ here ∙ sym (ap (changed g s x) e ∙ (changed_only g s x).here)
  | inr ne ↦ others k ne ∙ sym ((changed_only g s x).others k ne)
]

pub on_slot_here : {X : Type 0} (jobs : ℕ → Option X) (s : ℕ) (h : X → X) → on_slot jobs s h s ≡ option_map h (jobs s)
on_slot_here jobs s h = rw (eq-eqb s s refl)

pub on_slot_other : {X : Type 0} (jobs : ℕ → Option X) (s k : ℕ) (h : X → X) → k ≢ s → on_slot jobs s h k ≡ jobs k
on_slot_other jobs s k h ne = rw (ne_eqb k s ne)

pub slot_at : {X : Type 0} (f g : ℕ → Option X) (s : ℕ) (h : X → X) → f s ≡ option_map h (g s) → ((k : ℕ) → k ≢ s → f k ≡ g k) → (k : ℕ)
    → f k ≡ on_slot g s h k
slot_at f g s h here others k = elim (cases_eq k s) [
  | inl e ↦ ap f e ∙ here ∙ sym (ap (on_slot g s h) e ∙ on_slot_here g s h)
  | inr ne ↦ others k ne ∙ sym (on_slot_other g s k h ne)
]

-- a job as it is made has no open channel
pub all_closed : (k n : ℕ) → slice_index_or (replicate k Closed) n Closed ≡ Closed
all_closed zero n = refl
all_closed (suc k) zero = refl
all_closed (suc k) (suc n) = all_closed k n

pub fresh_closed : (u n : ℕ) (console : Option ℕ) (i : ℕ) → channel_by (Some (fresh_job u n console)) i ≡ Closed
unfolding fresh_job
fresh_closed u n console i = all_closed 16 i

pub fresh_raw : (x : Store) (u n : ℕ) (superior console : Option ℕ)
    → raw_job x no_core (fresh_job u n console) superior None ≡ whole no_core (fresh_job u n console) superior
unfolding fresh_job closed_channels
fresh_raw x u n superior console = λ t. record (whole no_core (fresh_job u n console) superior) { channels = λ i. chan_of x (all_closed 16 i t) }
