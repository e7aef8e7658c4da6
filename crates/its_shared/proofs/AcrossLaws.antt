-- When the numbers in channels fit the files and drafts: if the channels weigh the same, and if
-- none is open.
use Rattle.std.specs.Prelude.{◌≡◌, ℕ, false, None}
use Rattle.std.proofs.Common.{sym, ◌∙◌, ap}
use Rattle.its_word.proofs.TableLaws.{get_or-filled}
use Rattle.its_records.specs.declared.jobs.Channel.{Channel}
use Rattle.its_records.specs.declared.jobs.Channel.TheVariants.{Closed}
use Rattle.its_jobs.specs.Table.{Table, NoJobs}
use Rattle.its_files.specs.Blocks.{numbers}
use Rattle.its_files.specs.Files.{Store, readers_by, no_files}
use Rattle.its_shared.specs.Across.{channel_by, channel_at, tally, reads_file, writes_draft, writers, Across}
use Rattle.its_shared.proofs.TallyLaws.{tally_alike, tally_same, tally_none}

-- a channel that weighs no other than another one for each file and draft, and is closed if that
-- one is
pub record Alike (c d : Channel) : Type 0 where
  pub closed : c ≡ Closed → d ≡ Closed
  pub read : (f : ℕ) → reads_file f d ≡ reads_file f c
  pub written : (e : ℕ) → writes_draft e d ≡ writes_draft e c

pub same_alike : (c d : Channel) → d ≡ c → Alike c d
same_alike c d e = record { closed = λ h. e ∙ h; read = λ f. ap (reads_file f) e; written = λ k. ap (writes_draft k) e }

pub across_alike : (s : Store) (t v : Table) → Across s t → ((k n : ℕ) → Alike (channel_at t k n) (channel_at v k n)) → Across s v
across_alike s t v a h = record {
  past_slots = λ k n le. (h k n).closed (a.past_slots k n le);
  past_numbers = λ k n le. (h k n).closed (a.past_numbers k n le);
  read = λ f. tally_alike (reads_file f) (channel_at t) (channel_at v) (λ k n. (h k n).read f) ∙ a.read f;
  written = λ d. tally_alike (writes_draft d) (channel_at t) (channel_at v) (λ k n. (h k n).written d) ∙ a.written d;
}

pub across_table : (s : Store) (t v : Table) → Across s t → ((k n : ℕ) → channel_at v k n ≡ channel_at t k n) → Across s v
across_table s t v a same = across_alike s t v a (λ k n. same_alike (channel_at t k n) (channel_at v k n) (same k n))

-- no channel is open, and there is no file and no draft
nothing_read : (f : ℕ) → tally (reads_file f) (λ k n. Closed) ≡ 0
unfolding tally
nothing_read f = tally_none (λ k n. Closed)

nothing_written : (d : ℕ) → tally (writes_draft d) (λ k n. Closed) ≡ 0
unfolding tally
nothing_written d = tally_none (λ k n. Closed)

pub no_across : (t : Table) → NoJobs t → Across no_files t
no_across t none = record {
  past_slots = λ k n le. closed k n;
  past_numbers = λ k n le. closed k n;
  read = λ f. tally_same (reads_file f) (λ k n. Closed) (channel_at t) closed ∙ nothing_read f ∙ sym (ap readers_by (get_or-filled numbers f None));
  written = λ d. tally_same (writes_draft d) (λ k n. Closed) (channel_at t) closed ∙ nothing_written d
      ∙ sym (ap (λ e. writers e false) (get_or-filled numbers d None));
}
  where
    closed : (k n : ℕ) → channel_at t k n ≡ Closed
    closed k n = ap (λ o. channel_by o n) (none.jobs k)
