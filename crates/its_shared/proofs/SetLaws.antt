-- One channel of one job is another: the channels, the jobs of the machine, and the facts on
-- numbers of files and drafts.
use Rattle.std.specs.Prelude.{◌≡◌, ◌≢◌, ◌<◌, ℕ, Bool, true, false, Option, Some, None, is_some, option_map, List, length, slice_set, slice_index_or, refl}
use Rattle.std.proofs.Common.{sym, ◌∙◌, ap, subst, inl, inr}
use Rattle.std.proofs.lemmas.Bool.{cases_eq, cases_Bool, both_ways}
use Rattle.std.proofs.lemmas.List.{get_or-set_same, get_or-set_other}
use Rattle.its_word.specs.Limits.{slots}
use Rattle.its_word.specs.Only.{Only, Same}
use Rattle.its_records.specs.declared.jobs.Channel.{Channel}
use Rattle.its_records.specs.declared.jobs.Channel.TheVariants.{Closed}
use Rattle.its_records.specs.declared.jobs.Job.{Job}
use Rattle.its_records.proofs.FreeLaws.{none_is}
use Rattle.its_core.specs.Cores.{Cores, core_at}
use Rattle.its_files.specs.Files.{Store}
use Rattle.its_jobs.specs.Table.{Table, job_at, superior_at}
use Rattle.its_plain.specs.Machine.Change.{on_slot}
use Rattle.its_plain.specs.Machine.{Chan}
use Rattle.its_plain.specs.Machine.Own.{on_channel}
use Rattle.its_shared.specs.Across.{channel_by, channel_at, reads_file, writes_draft, Across, IsElsewhere}
use Rattle.its_shared.specs.Channels.{OnlyChannel}
use Rattle.its_shared.specs.Parts.{alarm_at, bare, chan_of, raw_at, raw_of}
use Rattle.its_shared.proofs.AcrossLaws.{across_table}
use Rattle.its_shared.proofs.ChanLaws.{raw_alike, raw_set, elsewhere_unread, elsewhere_unwritten}
use Rattle.its_shared.proofs.KeptLaws.{Kept, moved_kept}
use Rattle.its_shared.proofs.PartLaws.{slot_at}
use Rattle.its_shared.proofs.TallyLaws.{OneChannel}

-- what is written at one place is what was there
pub only_same : {X : Type 0} (f g : ℕ → X) (s : ℕ) → Only f g s (f s) → Same f g
only_same f g s o = record {
  each = λ k. elim (cases_eq k s) [
    | inl e ↦ ap g e ∙ o.here ∙ ap f (sym e)
    | inr ne ↦ o.others k ne
  ];
}

-- a channel set, if there is a job, and if there is none; and one that is as it was
pub channel_put : (old new : Table) (s n : ℕ) (x : Channel) (j : Job) → job_at old s ≡ Some j → n < length j.channels
    → Only (job_at old) (job_at new) s (Some (record j { channels = slice_set j.channels n x }))
    → new.superiors ≡ old.superiors → OnlyChannel old new s n x
channel_put old new s n x j was lt b superiors = record {
  here = λ some. ap (λ o. channel_by o n) b.here ∙ get_or-set_same j.channels n x Closed lt;
  row = λ m ne. ap (λ o. channel_by o m) b.here ∙ get_or-set_other j.channels n m x Closed ne ∙ ap (λ o. channel_by o m) (sym was);
  job = ap (option_map bare) b.here ∙ sym (ap (option_map bare) was);
  rows = b.others;
  superiors = superiors;
}

pub channel_absent : (t : Table) (s n : ℕ) (x : Channel) → job_at t s ≡ None → OnlyChannel t t s n x
channel_absent t s n x none = record {
  here = λ some. absurd (both_ways (is_some (job_at t s)) (ap is_some none) some);
  row = λ m ne. refl;
  job = refl;
  rows = λ k ne. refl;
  superiors = refl;
}

pub channel_same : (old new : Table) (s n : ℕ) → new ≡ old → OnlyChannel old new s n (channel_at old s n)
channel_same old new s n e = subst (λ t. OnlyChannel old t s n (channel_at old s n)) (sym e)
    (record { here = λ some. refl; row = λ m ne. refl; job = refl; rows = λ k ne. refl; superiors = refl })

-- a channel that is not closed is that of a job
pub open_job : (t : Table) (s n : ℕ) (c : Channel) → channel_at t s n ≡ c → (c ≡ Closed → ⊥) → is_some (job_at t s) ≡ true
open_job t s n c was some = by_some (job_at t s) (λ e. some (sym was ∙ ap (λ o. channel_by o n) e))
  where
    by_some : (o : Option Job) → (o ≡ None → ⊥) → is_some o ≡ true
    by_some (Some j) h = refl
    by_some None h = absurd (h refl)

no_job : (i j : Option Job) → option_map bare i ≡ option_map bare j → is_some j ≡ false → i ≡ None
no_job None j e h = refl
no_job (Some i) None e h = cc
no_job (Some i) (Some j) e h = cc

module _ (old new : Table) (s n : ℕ) (x : Channel) (b : OnlyChannel old new s n x) where
  -- the channels, if the slot has a job, and if the channel is as it was
  pub one_channel : is_some (job_at old s) ≡ true → OneChannel (channel_at old) (channel_at new) s n x
  one_channel some = record { here = b.here some; row = b.row; rows = λ k ne m. ap (λ o. channel_by o m) (b.rows k ne) }

  pub same_channels : (is_some (job_at old s) ≡ true → channel_at old s n ≡ x) → (k m : ℕ) → channel_at new k m ≡ channel_at old k m
  same_channels was k m = elim (cases_eq k s) [
    | inl e ↦ ap (λ i. channel_at new i m) e ∙ here_same ∙ ap (λ i. channel_at old i m) (sym e)
    | inr ne ↦ ap (λ o. channel_by o m) (b.rows k ne)
  ]
    where
      here_same : channel_at new s m ≡ channel_at old s m
      here_same = elim (cases_Bool (is_some (job_at old s))) [
        | inl some ↦ elim (cases_eq m n) [
          | inl e ↦ ap (channel_at new s) e ∙ b.here some ∙ sym (was some) ∙ ap (channel_at old s) (sym e)
          | inr ne ↦ b.row m ne
        ]
        | inr none ↦ ap (λ o. channel_by o m) (no_job (job_at new s) (job_at old s) b.job none) ∙ sym (ap (λ o. channel_by o m) (none_is (job_at old s) none))
      ]

  pub none_before : (k : ℕ) → job_at new k ≡ None → job_at old k ≡ None
  none_before k none = elim (cases_eq k s) [
    | inl e ↦ ap (job_at old) e ∙ no_job (job_at old s) (job_at new s) (sym b.job) (ap is_some (sym (ap (job_at new) e) ∙ none))
    | inr ne ↦ sym (b.rows k ne) ∙ none
  ]

  -- the jobs of the machine, if all other channels are on what they were on
  pub raw_channel : (f u : Store) (c d : Cores) (alarms : List (Option (ℕ × ℕ))) (g : Chan → Chan) → Same (core_at c) (core_at d)
      → ((k m : ℕ) → (k ≡ s → m ≢ n) → chan_of u (channel_at new k m) ≡ chan_of f (channel_at old k m))
      → (is_some (job_at old s) ≡ true → chan_of u x ≡ g (chan_of f (channel_at old s n)))
      → (k : ℕ) → raw_at u d new alarms k ≡ on_slot (raw_at f c old alarms) s (on_channel n g) k
  raw_channel f u c d alarms g cores others here = slot_at _ _ s (on_channel n g)
      (parts_are s ∙ raw_set f u (core_at c s) (superior_at old s) (alarm_at alarms s) n g (job_at new s) (job_at old s) b.job
      (λ m ne. others s m (λ e. ne)) (λ some. ap (chan_of u) (b.here some) ∙ here some))
      (λ k ne. parts_are k ∙ ap (raw_of u (core_at c k) (superior_at old k) (alarm_at alarms k)) (b.rows k ne)
      ∙ raw_alike f u (core_at c k) (superior_at old k) (alarm_at alarms k) (job_at old k)
      (λ m. sym (ap (λ o. chan_of u (channel_by o m)) (b.rows k ne)) ∙ others k m (λ e. absurd (ne e))))
    where
      parts_are : (k : ℕ) → raw_at u d new alarms k ≡ raw_of u (core_at c k) (superior_at old k) (alarm_at alarms k) (job_at new k)
      parts_are k = λ i. raw_of u (cores.each k i) (slice_index_or (b.superiors i) k None) (alarm_at alarms k) (job_at new k)

  -- the facts on numbers, if the channel weighs as before
  module _ (f : Store) (across : Across f old) (ls : s < slots) (ln : n < 16) where
    pub set_kept : ((i : ℕ) → reads_file i (channel_at old s n) ≡ reads_file i x)
        → ((d : ℕ) → writes_draft d (channel_at old s n) ≡ writes_draft d x) → Kept f f old new s n
    set_kept read written = by_job (is_some (job_at old s)) refl
      where
        by_job : (some : Bool) → is_some (job_at old s) ≡ some → Kept f f old new s n
        by_job true e = moved_kept f old new s n (channel_at old s n) x across ls ln refl (one_channel e) read written
        by_job false e =
            let same = same_channels (λ some. absurd (both_ways (is_some (job_at old s)) e some)) in
            record { across = across_table f old new across same; chans = λ k m apart. ap (chan_of f) (same k m) }

    pub put_kept : IsElsewhere (channel_at old s n) → IsElsewhere x → Kept f f old new s n
    put_kept was is = set_kept
        (λ i. elsewhere_unread (channel_at old s n) was i ∙ sym (elsewhere_unread x is i))
        (λ d. elsewhere_unwritten (channel_at old s n) was d ∙ sym (elsewhere_unwritten x is d))
