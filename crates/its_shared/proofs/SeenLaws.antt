-- What a call sees of cores, channels and files, by the numbers of slots and files.
use Rattle.std.specs.Prelude.{◌≡◌, ◌<◌, ◌≤◌, ◌+◌, ◌^◌, ℕ, true, Option, Some, None, IfSome, is_some, option_map, List, [], ◌∷◌, length, slice_get, slice_index_or, refl}
use Rattle.std.proofs.Common.{sym, ◌∙◌, ap, arith, inl, inr}
use Rattle.std.proofs.lemmas.Bool.{cases_lt}
use Rattle.std.proofs.lemmas.Option.{slice_get_within}
use Rattle.std.proofs.lemmas.List.{get_or_past, length-map}
use Rattle.std.proofs.lemmas.List.Sums.{get_or-le-sum_by}
use Rattle.its_word.specs.Core.{Core, no_core, pages_mapped}
use Rattle.its_records.specs.Tree.{least_free}
use Rattle.its_records.specs.declared.jobs.Job.{Job}
use Rattle.its_records.proofs.FreeLaws.{least_alike}
use Rattle.its_word.proofs.PageLaws.{pages_mapped-same}
use Rattle.its_core.specs.Cores.{Cores, core_at}
use Rattle.its_files.specs.Blocks.{Stored, blocks, free_blocks, blocks_for, blocks_used, text_at}
use Rattle.its_files.specs.Files.{Store, IsStore, directory, entry_at, file_at, is_file, names_at, words_at, words_by as words_of_entry}
use Rattle.its_files.specs.declared.entry.Entry.{Entry}
use Rattle.its_jobs.specs.Table.{Table, job_at, superior_at}
use Rattle.its_plain.specs.Call.File.{channels_by, file_named, words_by}
use Rattle.its_plain.specs.Machine.{core_of}
use Rattle.its_plain.specs.Machine.View.{outline}
use Rattle.its_shared.specs.Across.{channel_at, channel_by}
use Rattle.its_shared.specs.Parts.{alarm_at, chan_of, raw_at, raw_of}
use Rattle.its_shared.proofs.StoreLaws.{named_self}

channel_seen : (s : Store) (c : Core) (u : Option ℕ) (a : Option (ℕ × ℕ)) (o : Option Job) (n : ℕ)
    → channels_by (option_map outline (raw_of s c u a o)) n ≡ chan_of s (channel_by o n)
channel_seen s c u a (Some j) n = refl
channel_seen s c u a None n = refl

core_by : (s : Store) (c : Core) (u : Option ℕ) (a : Option (ℕ × ℕ)) (o : Option Job) → (o ≡ None → c ≡ no_core) → core_of (raw_of s c u a o) ≡ c
core_by s c u a (Some j) blank = refl
core_by s c u a None blank = sym (blank refl)

outline_some : (s : Store) (c : Core) (u : Option ℕ) (a : Option (ℕ × ℕ)) (o : Option Job) → is_some (option_map outline (raw_of s c u a o)) ≡ is_some o
outline_some s c u a (Some j) = refl
outline_some s c u a None = refl

module _ (s : Store) (cores : Cores) (t : Table) (alarms : List (Option (ℕ × ℕ))) where
  -- the channels of all jobs
  pub chan_seen : (k n : ℕ) → channels_by (option_map outline (raw_at s cores t alarms k)) n ≡ chan_of s (channel_at t k n)
  chan_seen k n = channel_seen s (core_at cores k) (superior_at t k) (alarm_at alarms k) (job_at t k) n

  -- the core of a slot
  core_seen : (k : ℕ) → (job_at t k ≡ None → core_at cores k ≡ no_core) → core_of (raw_at s cores t alarms k) ≡ core_at cores k
  core_seen k blank = core_by s (core_at cores k) (superior_at t k) (alarm_at alarms k) (job_at t k) blank

  pub core_here : (k : ℕ) → is_some (job_at t k) ≡ true → core_of (raw_at s cores t alarms k) ≡ core_at cores k
  core_here k h = core_seen k (λ e. absurd (let i = sym h ∙ ap is_some e in cc))

  -- the pages of all jobs
  pub pages_seen : ((k : ℕ) → job_at t k ≡ None → core_at cores k ≡ no_core)
      → pages_mapped (λ k. core_of (raw_at s cores t alarms k)) ≡ pages_mapped (core_at cores)
  pages_seen blank = pages_mapped-same (core_at cores) (λ k. core_of (raw_at s cores t alarms k)) (record { each = λ k. core_seen k (blank k) })

  -- the least slot in which the call sees no job
  pub free_seen : (limit : ℕ) → t.limit ≡ limit → least_free limit (λ k. option_map outline (raw_at s cores t alarms k)) ≡ least_free t.limit (job_at t)
  free_seen limit e =
      let outlines = λ (k : ℕ). option_map outline (raw_at s cores t alarms k) in
      ap (λ (n : ℕ). least_free n outlines) (sym e)
      ∙ least_alike t.limit outlines (job_at t) (λ k. outline_some s (core_at cores k) (superior_at t k) (alarm_at alarms k) (job_at t k))

-- the words of a file, under its names
pub seen_words : (s : Store) (f : ℕ) → IsStore s → is_file (entry_at s f) ≡ true → words_by (file_named (names_at s f) (directory s)) ≡ words_at s f
seen_words s f whole e = ap words_by (named_self s whole f e)

-- how many files there are
pub seen_count : (s : Store) → length (directory s) ≡ length s.order
seen_count s = length-map s.order (file_at s)

-- a file that has a word at a position has few words
few_by : (ws : List ℕ) (at : ℕ) → length ws ≤ 2 ^ 18 → IfSome (slice_get ws at) (λ w. at < 2 ^ 18)
few_by ws at few = go (slice_get ws at) refl
  where
    go : (o : Option ℕ) → slice_get ws at ≡ o → IfSome o (λ w. at < 2 ^ 18)
    go None e = tt
    go (Some w) e = let l = slice_get_within ws at w e in omega arith

text_few : (s : Stored) (id : ℕ) → blocks_used s ≤ blocks → length (text_at s.texts id) ≤ 2 ^ 18
text_few s id used = elim (cases_lt id (length s.texts)) [
  | inl lt ↦
      let m = get_or-le-sum_by (λ t. blocks_for (length t)) s.texts id [] lt in
      omega arith
  | inr ge ↦ let e = ap length (get_or_past s.texts id [] ge) in omega arith
]

words_few : (e : Option Entry) (ws : List ℕ) → length ws ≤ 2 ^ 18 → length (words_of_entry e ws) ≤ 2 ^ 18
words_few None ws h = omega arith
words_few (Some e) ws h = h

pub few_words : (s : Store) (f at : ℕ) → length (free_blocks s.stored.chains) + blocks_used s.stored ≡ blocks
    → IfSome (slice_get (words_at s f) at) (λ w. at < 2 ^ 18)
few_words s f at e = few_by (words_at s f) at (words_few (entry_at s f) (text_at s.stored.texts f) (text_few s.stored f (omega arith)))

-- three names
pub three : (ns : List ℕ) (a b c : ℕ) → length ns ≡ 3 → a ≡ slice_index_or ns 0 a → b ≡ slice_index_or ns 1 b → c ≡ slice_index_or ns 2 c
    → a ∷ b ∷ c ∷ [] ≡ ns
three (i ∷ j ∷ k ∷ []) a b c l d x y = λ t. d t ∷ x t ∷ y t ∷ []
three (i ∷ j ∷ k ∷ m ∷ ns) a b c l d x y = absurd (omega arith)
three _ a b c l d x y = cc
