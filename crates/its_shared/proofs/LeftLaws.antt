-- What is left of channels and superiors: of a channel that is closed, of channels on jobs that are
-- gone, and of the superior of a slot without a job.
use Rattle.std.specs.Prelude.{if◌then◌else◌, ◌≡◌, ◌≢◌, ℕ, Bool, true, false, Option, Some, None, List, option_map, refl}
use Rattle.std.proofs.Common.{sym, ◌∙◌, ap}
use Rattle.std.proofs.lemmas.Bool.{eq-eqb, ne_eqb}
use Rattle.its_word.specs.Core.{Core}
use Rattle.its_records.specs.declared.jobs.Channel.{Channel}
use Rattle.its_records.specs.declared.jobs.Channel.TheVariants.{Closed, Usr}
use Rattle.its_records.specs.declared.jobs.Job.{Job}
use Rattle.its_core.specs.Cores.{Cores, core_at}
use Rattle.its_files.specs.Files.{Store}
use Rattle.its_jobs.specs.Table.{Table, job_at, superior_at, IsTree}
use Rattle.its_plain.specs.Machine.Change.{channel_in, chan_after_removal, superior_in}
use Rattle.its_plain.specs.Machine.{Shut, On, Whole}
use Rattle.its_plain.specs.Machine.Own.{on_channel}
use Rattle.its_shared.specs.Across.{channel_left, reads_file, writes_draft}
use Rattle.its_shared.specs.Parts.{alarm_at, chan_of, raw_of, raw_at}
use Rattle.its_shared.proofs.AcrossLaws.{Alike}

-- the superiors of the raw jobs are those of the jobs
superior_by : (t : Store) (c : Core) (s : Option ℕ) (a : Option (ℕ × ℕ)) (o : Option Job) → (o ≡ None → s ≡ None) → superior_in (raw_of t c s a o) ≡ s
superior_by t c s a (Some j) h = refl
superior_by t c s a None h = sym (h refl)

pub raw_superior : (x : Store) (cores : Cores) (t : Table) (alarms : List (Option (ℕ × ℕ))) (k : ℕ) → IsTree t.jobs t.superiors
    → superior_in (raw_at x cores t alarms k) ≡ superior_at t k
raw_superior x cores t alarms k tree = superior_by x (core_at cores k) (superior_at t k) (alarm_at alarms k) (job_at t k) (tree.owned k)

-- a channel of a job that is closed, and any other
pub shut_here : (o : Option Whole) (n : ℕ) → channel_in (option_map (on_channel n (λ c. Shut)) o) n ≡ Shut
shut_here (Some q) n = rw (eq-eqb n n refl) refl
shut_here None n = refl

pub shut_there : (o : Option Whole) (n i : ℕ) → i ≢ n → channel_in (option_map (on_channel n (λ c. Shut)) o) i ≡ channel_in o i
shut_there (Some q) n i ne = rw (ne_eqb i n ne) refl
shut_there None n i ne = refl

-- channels on jobs count for no file and no draft, whether they are left or closed
abbrev left_if : Bool → Channel → Channel
left_if b c = if b then Closed else c

reads_if : (b : Bool) (f k at : ℕ) (w : Bool) → reads_file f (left_if b (Usr k w at)) ≡ 0
reads_if true f k at w = refl
reads_if false f k at w = refl

reads_left : (gone : ℕ → Bool) (f : ℕ) (c : Channel) → reads_file f (channel_left gone c) ≡ reads_file f c
reads_left gone f (Usr k w at) = reads_if (gone k) f k at w
reads_left gone f _ = refl

writes_if : (b : Bool) (d k at : ℕ) (w : Bool) → writes_draft d (left_if b (Usr k w at)) ≡ 0
writes_if true d k at w = refl
writes_if false d k at w = refl

writes_left : (gone : ℕ → Bool) (d : ℕ) (c : Channel) → writes_draft d (channel_left gone c) ≡ writes_draft d c
writes_left gone d (Usr k w at) = writes_if (gone k) d k at w
writes_left gone d _ = refl

pub left_alike : (gone : ℕ → Bool) (c d : Channel) → d ≡ channel_left gone c → Alike c d
left_alike gone c d e = record {
  closed = λ h. e ∙ ap (channel_left gone) h;
  read = λ f. ap (reads_file f) e ∙ reads_left gone f c;
  written = λ k. ap (writes_draft k) e ∙ writes_left gone k c;
}

-- and what the machine sees of them
chan_if : (s : Store) (b : Bool) (k at : ℕ) (w : Bool) → chan_of s (left_if b (Usr k w at)) ≡ (if b then Shut else On k w at)
chan_if s true k at w = refl
chan_if s false k at w = refl

pub left_chan : (s : Store) (gone : ℕ → Bool) (c : Channel) → chan_of s (channel_left gone c) ≡ chan_after_removal gone (chan_of s c)
left_chan s gone (Usr k w at) = chan_if s (gone k) k at w
left_chan s gone _ = refl
