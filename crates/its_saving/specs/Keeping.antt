-- What the types of the parts of a world keep, as facts: how many there are of each, and that words
-- have 36 bits and positions 32. Loops find it of one part after another.
-- No promise rests on this.
use Rattle.std.specs.Prelude.{◌≡◌, ◌<◌, ◌+◌, ◌≤◌, ◌^◌, ℕ, None, IfSome, List, length, slice_get, slice_index_or}
use Rattle.its_word.specs.Console.{Console}
use Rattle.its_word.specs.Core.{IsWhole, word_at, pages_mapped}
use Rattle.its_word.specs.Limits.{slots, consoles, most_pages, most_symbols}
use Rattle.its_records.specs.Links.{most_links, most_link_words}
use Rattle.its_records.specs.declared.jobs.Channel.{Channel}
use Rattle.its_records.specs.declared.jobs.Channel.TheVariants.{Closed, Reading, Usr}
use Rattle.its_records.specs.declared.jobs.Job.{Job}
use Rattle.its_core.specs.Cores.{Cores, core_at}
use Rattle.its_jobs.specs.Table.{IsTree, job_at}
use Rattle.its_files.specs.Blocks.{blocks, blocks_used, numbers}
use Rattle.its_files.specs.Files.{Store, IsStore, file_at}
use Rattle.its_pipes.specs.Pipes.{Piping, piped}
use Rattle.its_plain.specs.Machine.{Symbol}
use Rattle.its_plain.specs.Call.Link.{words_in}
use Rattle.its_shared.specs.Parts.{console_at, holder_at, symbols_at}
use Rattle.its_world.specs.declared.world.World.{World}
use Rattle.its_saved.specs.WellFormed.{FewBytes}
use Rattle.its_saved.specs.Readable.{FileWorded, PipeWorded}

abbrev pub IsWord : ℕ → Type 0
IsWord w = w < 2 ^ 36

-- the first n words of a text; those of a core below address n; and the names of the first n
-- symbols
pub record TextTo (ws : List ℕ) (n : ℕ) : Type 0 where
  pub each : (k : ℕ) → k < n → IfSome (slice_get ws k) IsWord

pub record CoreTo (m : Cores) (s n : ℕ) : Type 0 where
  pub each : (a : ℕ) → a < n → IfSome (word_at (core_at m s) a) IsWord

-- n words of a core from an address on
pub record WordsFrom (m : Cores) (s from n : ℕ) : Type 0 where
  pub each : (k : ℕ) → k < n → IfSome (word_at (core_at m s) (from + k)) IsWord

pub record NamesTo (xs : List Symbol) (n : ℕ) : Type 0 where
  pub each : (k : ℕ) → k < n → IfSome (slice_get xs k) (λ x. x.0 < 2 ^ 36)

-- the registers of a job that are words; and the positions of its first n channels
pub record JobWords (j : Job) : Type 0 where
  pub uname : j.uname < 2 ^ 36
  pub jname : j.jname < 2 ^ 36
  pub pend1 : j.pend1 < 2 ^ 36
  pub pend2 : j.pend2 < 2 ^ 36
  pub mask1 : j.mask1 < 2 ^ 36
  pub mask2 : j.mask2 < 2 ^ 36
  pub defer1 : j.defer1 < 2 ^ 36
  pub defer2 : j.defer2 < 2 ^ 36

abbrev pub PlacedOn : Channel → Type 0
PlacedOn (Reading f at) = at < 2 ^ 32
PlacedOn (Usr s w at) = at < 2 ^ 32
PlacedOn _ = Unit {0}

pub record PlacesTo (cs : List Channel) (n : ℕ) : Type 0 where
  pub each : (k : ℕ) → k < n → PlacedOn (slice_index_or cs k Closed)

pub record JobKeeps (j : Job) : Type 0 where
  pub words : JobWords j
  pub places : PlacesTo j.channels 16

-- a slot, with the symbols of its job
pub record SymbolsKeep (xs : List Symbol) : Type 0 where
  pub names : NamesTo xs (length xs)
  pub few : length xs ≤ most_symbols

pub record SlotKeeps (w : World) (s : ℕ) : Type 0 where
  pub core : CoreTo w.core s (2 ^ 18)
  pub job : IfSome (job_at w.jobs s) JobKeeps
  pub symbols : SymbolsKeep (symbols_at w.symbols.items s)

-- the slots, the numbers of files and drafts, those of links and those of consoles below n
pub record SlotsTo (w : World) (n : ℕ) : Type 0 where
  pub each : (s : ℕ) → s < n → SlotKeeps w s

pub record FilesTo (f : Store) (n : ℕ) : Type 0 where
  pub each : (id : ℕ) → id < n → FileWorded (file_at f id)

pub record LinksTo (p : Piping) (n : ℕ) : Type 0 where
  pub each : (l : ℕ) → l < n → IfSome (piped p l) PipeWorded

pub record ConsolesTo (cs : List Console) (n : ℕ) : Type 0 where
  pub each : (c : ℕ) → c < n → FewBytes (console_at cs c)

-- what the parts of a world say of themselves at any time, and what loops find of them
pub record PartsKeep (w : World) : Type 0 where
  pub cores : (s : ℕ) → s < slots → IsWhole (core_at w.core s)
  pub pages : pages_mapped (core_at w.core) ≤ most_pages
  pub tree : IsTree w.jobs.jobs w.jobs.superiors
  pub store : IsStore w.files
  pub room : blocks_used w.files.stored ≤ blocks
  pub past_links : (l : ℕ) → most_links ≤ l → piped w.pipes l ≡ None
  pub few_words : (l : ℕ) → length (words_in (piped w.pipes l)) ≤ most_link_words
  pub past_holders : (c : ℕ) → consoles ≤ c → holder_at w.holders c ≡ None
  pub each_slot : SlotsTo w slots
  pub each_file : FilesTo w.files numbers
  pub each_link : LinksTo w.pipes most_links
  pub each_console : ConsolesTo w.consoles.items consoles
