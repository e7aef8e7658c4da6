-- A world that the monitor keeps, with no job inside a call and no close half made, has a plain
-- machine that can be saved.
use Rattle.std.specs.Prelude.{◌≡◌, ◌<◌, ◌≤◌, ◌^◌, ℕ, suc, Option, Some, None, IfSome, List, [], ◌∷◌, length, map, replicate, refl}
use Rattle.std.proofs.Common.{sym, ◌∙◌, ap, subst, arith, inl, inr}
use Rattle.std.proofs.lemmas.Bool.{cases_lt}
use Rattle.std.proofs.lemmas.List.{get_or_past}
use Rattle.its_word.specs.ArrayVec.{ArrayVec}
use Rattle.its_word.specs.Console.{quiet_console}
use Rattle.its_word.specs.Core.{Core, IsWhole, word_at}
use Rattle.its_word.specs.Limits.{slots, consoles, most_pages, most_symbols}
use Rattle.its_records.specs.Links.{most_links, most_link_words}
use Rattle.its_records.specs.declared.jobs.Channel.{Channel}
use Rattle.its_records.specs.declared.jobs.Channel.TheVariants.{Closed, TtyIn, TtyOut, Reading, Writing, Usr, Link}
use Rattle.its_records.specs.declared.jobs.Job.{Job}
use Rattle.its_core.specs.Cores.{core_at}
use Rattle.its_jobs.specs.Table.{job_at, superior_at}
use Rattle.its_files.specs.Files.{Store, file_at}
use Rattle.its_pipes.specs.Pipes.{piped}
use Rattle.its_plain.specs.Call.File.{most_files}
use Rattle.its_plain.specs.Call.Link.{words_in}
use Rattle.its_plain.specs.Machine.{Pipe, Symbol, Whole, Machine, core_of}
use Rattle.its_plain.specs.Operator.Clock.{alarm_in}
use Rattle.its_stepped.specs.Address.{Addressed}
use Rattle.its_shared.specs.Across.{channel_by, channel_at}
use Rattle.its_shared.specs.Parts.{closed_channels}
use Rattle.its_world.specs.Tidy.{Tidy}
use Rattle.its_world.specs.World.{alarm_at, bare, chan_of, console_at, holder_at, no_symbols, plain_of, raw_at, raw_of, state_of, symbols_at}
use Rattle.its_world.specs.declared.world.World.{World}
use Rattle.its_world.proofs.MappedLaws.{core_raw, mapped_raw}
use Rattle.its_world.proofs.StateLaws.{raw_job, raw_none}
use Rattle.its_world.proofs.StorageLaws.{chan_is, files_are, shows, store_unmarked}
use Rattle.its_monitor.specs.Kept.{Kept}
use Rattle.its_monitor.specs.Settled.{IsSettled}
use Rattle.its_saved.specs.WellFormed.{AllApart, FewBytes, KeptByTypes}
use Rattle.its_saved.specs.Readable.{AllSymbols, AllWorded, JobWorded, PipeWorded, WholeWorded, Worded, WordedOn}
use Rattle.its_saved.specs.Narrow.{AreAddressed, Narrow}
use Rattle.its_saving.specs.Keeping.{IsWord, JobKeeps, JobWords, NamesTo, PartsKeep, PlacedOn, SymbolsKeep}
use Rattle.its_saving.proofs.ApartLaws.{blocks_few, files_apart, files_few, read_stands}
use Rattle.its_saving.proofs.BoundLaws.{core_words, file_past}

-- the parts of the raw machine
jobs_are : (w : World) (k : ℕ) → (state_of w).raw.jobs k ≡ raw_at w.files w.core w.jobs w.alarms.items k
unfolding state_of
jobs_are w k = refl

symbols_are : (w : World) (k : ℕ) → (state_of w).raw.symbols k ≡ symbols_at w.symbols.items k
unfolding state_of
symbols_are w k = refl

links_are : (w : World) (l : ℕ) → (state_of w).raw.links l ≡ piped w.pipes l
unfolding state_of
links_are w l = refl

consoles_are : (w : World) (c : ℕ) → (state_of w).raw.consoles c ≡ console_at w.consoles.items c
unfolding state_of
consoles_are w c = refl

holders_are : (w : World) (c : ℕ) → (state_of w).raw.holders c ≡ holder_at w.holders c
unfolding state_of
holders_are w c = refl

version_is : (w : World) → (state_of w).raw.version ≡ w.version
unfolding state_of
version_is w = refl

-- a job of the raw machine, and a slot without one
channels_by : (f : Store) (c : Core) (u : Option ℕ) (a : Option (ℕ × ℕ)) (o : Option Job) (q : Whole) → raw_of f c u a o ≡ Some q
    → q.job.channels ≡ replicate 16 Closed
unfolding closed_channels
channels_by f c u a (Some j) q e = let x : raw_job f c j u a ≡ q = cc in ap (λ (y : Whole). y.job.channels) (sym x)
channels_by f c u a None q e = cc

gone_by : (f : Store) (c : Core) (u : Option ℕ) (a : Option (ℕ × ℕ)) (o : Option Job) → raw_of f c u a o ≡ None → o ≡ None
gone_by f c u a (Some j) e = cc
gone_by f c u a None e = refl

-- a job of the raw machine, by its registers
record Raw (f : Store) (c : Core) (u : Option ℕ) (a : Option (ℕ × ℕ)) (o : Option Job) (q : Whole) : Type 0 where
  job : Job
  at : o ≡ Some job
  is : raw_job f c job u a ≡ q

raw_by : (f : Store) (c : Core) (u : Option ℕ) (a : Option (ℕ × ℕ)) (o : Option Job) (q : Whole) → raw_of f c u a o ≡ Some q → Raw f c u a o q
raw_by f c u a (Some j) q e = record { job = j; at = refl; is = cc }
raw_by f c u a None q e = absurd cc

bare_words : (j : Job) → JobWords j → JobWords (bare j)
bare_words j h = record {
  uname = h.uname;
  jname = h.jname;
  pend1 = h.pend1;
  pend2 = h.pend2;
  mask1 = h.mask1;
  mask2 = h.mask2;
  defer1 = h.defer1;
  defer2 = h.defer2;
}

console_few : (o : Option ℕ) → IfSome o (λ c. c < 8) → IfSome o (λ c. c ≤ 7)
console_few (Some c) h = omega arith
console_few None h = tt

worded_job : (j : Job) → JobWords j → IfSome j.console (λ c. c < 8) → JobWorded j
worded_job j h c = record {
  uname = h.uname;
  jname = h.jname;
  pend1 = h.pend1;
  pend2 = h.pend2;
  mask1 = h.mask1;
  mask2 = h.mask2;
  defer1 = h.defer1;
  defer2 = h.defer2;
  console = console_few j.console c;
}

if_some : {X : Type 0} (o : Option X) (P : X → Type 0) → ((x : X) → o ≡ Some x → P x) → IfSome o P
if_some (Some x) P h = h x refl
if_some None P h = tt

placed_by : (o : Option Job) (n : ℕ) → n < 16 → IfSome o JobKeeps → PlacedOn (channel_by o n)
placed_by (Some j) n lt h = h.places.each n lt
placed_by None n lt h = tt

-- symbols
no_symbol : SymbolsKeep []
no_symbol = record { names = record { each = λ k l. absurd (let z : k < 0 = l in omega arith) }; few = omega arith }

all_symbols : (xs : List Symbol) (n : ℕ) → length xs ≡ n → NamesTo xs n → AreAddressed xs → AllSymbols xs
all_symbols [] n e h a = tt
all_symbols (x ∷ xs) n e h a = (
  (h.each 0 (let l : suc (length xs) ≡ n = e in omega arith), a.0),
  all_symbols xs (length xs) refl (record { each = λ k l. h.each (suc k) (let m : suc (length xs) ≡ n = e in omega arith) }) a.1,
)

module _ (w : World) (p : PartsKeep w) (tidy : Tidy w) where
  job_below : (k : ℕ) (q : Whole) → (state_of w).raw.jobs k ≡ Some q → k < slots
  job_below k q e = elim (cases_lt k slots) [
    | inl lt ↦ lt
    | inr ge ↦
        let n = p.tree.job_count in
        let none : job_at w.jobs k ≡ None = get_or_past w.jobs.jobs k None (omega arith) in
        let bad : None ≡ Some q = sym (raw_none w k none) ∙ sym (jobs_are w k) ∙ e in
        absurd cc
  ]

  core_is : (k : ℕ) (q : Whole) → (state_of w).raw.jobs k ≡ Some q → core_at w.core k ≡ q.core
  core_is k q e = sym (core_raw w k tidy) ∙ ap core_of e

  symbols_keep : (k : ℕ) → SymbolsKeep (symbols_at w.symbols.items k)
  symbols_keep k = elim (cases_lt k slots) [
    | inl lt ↦ (p.each_slot.each k lt).symbols
    | inr ge ↦
        let n = w.lists in
        let e : symbols_at w.symbols.items k ≡ [] = ap (λ (y : ArrayVec Symbol). y.items) (get_or_past w.symbols.items k no_symbols (omega arith)) in
        subst SymbolsKeep (sym e) no_symbol
  ]

  past_console : (c : ℕ) → consoles ≤ c → console_at w.consoles.items c ≡ quiet_console
  past_console c past = let n = w.consoles_count in get_or_past w.consoles.items c quiet_console (omega arith)

  bytes_few : (c : ℕ) → FewBytes (console_at w.consoles.items c)
  bytes_few c = elim (cases_lt c consoles) [
    | inl lt ↦ p.each_console.each c lt
    | inr ge ↦ subst FewBytes (sym (past_console c ge)) (record { input = omega arith; output = omega arith })
  ]

  words_few : (l : ℕ) (x : Pipe) → (state_of w).raw.links l ≡ Some x → length x.words ≤ most_link_words
  words_few l x e = subst (λ o. length (words_in o) ≤ most_link_words) (sym (links_are w l) ∙ e) (p.few_words l)

  -- what the types keep
  pub raw_types : w.files.mark ≡ None → KeptByTypes (state_of w).raw
  raw_types unmarked = record {
    cores = λ k q e. subst IsWhole (core_is k q e) (p.cores k (job_below k q e));
    closed = λ k q e. channels_by w.files (core_at w.core k) (superior_at w.jobs k) (alarm_at w.alarms.items k) (job_at w.jobs k) q (sym (jobs_are w k) ∙ e);
    few_pages = subst (λ n. n ≤ most_pages) (sym (mapped_raw w tidy)) p.pages;
    few_symbols = λ k. subst (λ (xs : List Symbol). length xs ≤ most_symbols) (sym (symbols_are w k)) (symbols_keep k).few;
    nameless = λ k e. symbols_are w k ∙ tidy.nameless k
        (gone_by w.files (core_at w.core k) (superior_at w.jobs k) (alarm_at w.alarms.items k) (job_at w.jobs k) (sym (jobs_are w k) ∙ e));
    apart = subst (AllApart []) (sym (files_are w)) (files_apart w.files p.store);
    few_files = subst (λ fs. length fs ≤ most_files) (sym (files_are w)) (files_few w.files p.store);
    few_blocks = blocks_few w.files p.store (state_of w).raw w.jobs (shows w) tidy.across unmarked p.room;
    read = λ k n at names e. read_stands w.files p.store (state_of w).raw w.jobs (shows w) tidy.across k n at names (sym (chan_is w k n) ∙ e);
    past_channels = λ k n le. chan_is w k n ∙ ap (chan_of w.files) (tidy.across.past_numbers k n le);
    few_words = words_few;
    past_links = λ l le. links_are w l ∙ p.past_links l le;
    few_bytes = λ c. subst FewBytes (sym (consoles_are w c)) (bytes_few c);
    past_consoles = λ c le. consoles_are w c ∙ past_console c le;
    past_holders = λ c le. holders_are w c ∙ p.past_holders c le;
  }

  -- words, and what else the grammar asks
  all_worded : (ids : List ℕ) → AllWorded (map (file_at w.files) ids)
  all_worded [] = tt
  all_worded (id ∷ ids) = (file_past w.files id p.store p.each_file, all_worded ids)

  job_keeps : (k : ℕ) → IfSome (job_at w.jobs k) JobKeeps
  job_keeps k = elim (cases_lt k slots) [
    | inl lt ↦ (p.each_slot.each k lt).job
    | inr ge ↦ let n = p.tree.job_count in subst (λ o. IfSome o JobKeeps) (sym (get_or_past w.jobs.jobs k None (omega arith))) tt
  ]

  worded_on : (c : Channel) → PlacedOn c → WordedOn (chan_of w.files c)
  worded_on Closed h = tt
  worded_on TtyIn h = tt
  worded_on TtyOut h = tt
  worded_on (Reading f at) h = ((file_past w.files f p.store p.each_file).names, h)
  worded_on (Writing d) h = file_past w.files d p.store p.each_file
  worded_on (Usr k write at) h = h
  worded_on (Link l write) h = tt

  placed : (k n : ℕ) → PlacedOn (channel_at w.jobs k n)
  placed k n = elim (cases_lt n 16) [
    | inl lt ↦ placed_by (job_at w.jobs k) n lt (job_keeps k)
    | inr ge ↦ subst PlacedOn (sym (tidy.across.past_numbers k n ge)) tt
  ]

  links_worded : (l : ℕ) → IfSome (piped w.pipes l) PipeWorded
  links_worded l = elim (cases_lt l most_links) [
    | inl lt ↦ p.each_link.each l lt
    | inr ge ↦ subst (λ o. IfSome o PipeWorded) (sym (p.past_links l ge)) tt
  ]

  -- each console of a job is one of eight; and what no type says
  module _ (consoled : (k : ℕ) → IfSome ((state_of w).raw.jobs k) (λ q. IfSome q.job.console (λ c. c < 8))) (narrow : Narrow (state_of w).raw) where
    whole_worded : (k : ℕ) (q : Whole) → (state_of w).raw.jobs k ≡ Some q → WholeWorded q
    whole_worded k q e =
        let lt = job_below k q e in
        let r = raw_by w.files (core_at w.core k) (superior_at w.jobs k) (alarm_at w.alarms.items k) (job_at w.jobs k) q (sym (jobs_are w k) ∙ e) in
        let h : JobKeeps r.job = subst (λ o. IfSome o JobKeeps) r.at (job_keeps k) in
        let words : JobWords q.job = subst JobWords (ap (λ (y : Whole). y.job) r.is) (bare_words r.job h.words) in
        record {
          core = subst (λ c. (a : ℕ) → IfSome (word_at c a) IsWord) (core_is k q e) (core_words w.core k (p.cores k lt) (p.each_slot.each k lt).core);
          job = worded_job q.job words (subst (λ o. IfSome o (λ (y : Whole). IfSome y.job.console (λ c. c < 8))) e (consoled k));
          alarm = subst (λ o. IfSome (alarm_in o) (λ a. a.1 < 2 ^ 36)) e (narrow.alarms k);
        }

    pub raw_worded : Worded (state_of w).raw
    raw_worded = record {
      version = subst (λ v. (1 ≤ v) × (v ≤ 2)) (sym (version_is w)) w.numbered;
      files = subst AllWorded (sym (files_are w)) (all_worded w.files.order);
      jobs = λ k. if_some ((state_of w).raw.jobs k) WholeWorded (whole_worded k);
      symbols = λ k. all_symbols ((state_of w).raw.symbols k) (length (symbols_at w.symbols.items k)) (ap (λ (xs : List Symbol). length xs) (symbols_are w k))
          (subst (λ xs. NamesTo xs (length (symbols_at w.symbols.items k))) (sym (symbols_are w k)) (symbols_keep k).names) (narrow.symbols k);
      channels = λ k n. subst WordedOn (sym (chan_is w k n)) (worded_on (channel_at w.jobs k n) (placed k n));
      links = λ l. subst (λ o. IfSome o PipeWorded) (sym (links_are w l)) (links_worded l);
      consoles = narrow.bytes;
    }

-- a world that is settled: its raw machine is the plain one
pub kept_types : (w : World) → PartsKeep w → Kept w → IsSettled (state_of w) → KeptByTypes (plain_of w)
kept_types w p k s = subst KeptByTypes s.machine (raw_types w p k.tidy (store_unmarked w s.mark))

pub kept_addressed : (w : World) → Kept w → Addressed (plain_of w)
kept_addressed w k = record { each = k.addressed }

pub kept_worded : (w : World) → PartsKeep w → Kept w → IsSettled (state_of w) → Narrow (plain_of w) → Worded (plain_of w)
kept_worded w p k s n = subst Worded s.machine (raw_worded w p k.tidy
    (subst (λ (m : Machine). (i : ℕ) → IfSome (m.jobs i) (λ q. IfSome q.job.console (λ c. c < 8))) (sym s.machine) k.consoled)
    (subst Narrow (sym s.machine) n))
