-- A machine that can be saved: what every run keeps of its machine, and what the types of its parts
-- keep.
-- No promise rests on this.
use Rattle.std.specs.Prelude.{◌≡◌, ◌≤◌, ◌<◌, ◌+◌, ℕ, true, false, Option, Some, None, IfSome, List, [], ◌∷◌, ◌++◌, length, replicate, slice_index_or}
use Rattle.its_word.specs.Flags.{named_flags}
use Rattle.its_word.specs.Limits.{consoles, most_pages, most_symbols}
use Rattle.its_word.specs.Console.{Console, most_waiting}
use Rattle.its_word.specs.Core.{Core, Page, IsWhole, page_of}
use Rattle.its_word.specs.Directory.{same_names}
use Rattle.its_records.specs.Links.{most_links, most_link_words, is_alive}
use Rattle.its_records.specs.declared.jobs.Channel.TheVariants.{Closed}
use Rattle.its_plain.specs.Machine.{Names, File, Chan, Shut, Reads, Writes, Pipe, Whole, Machine, no_bytes, mapped}
use Rattle.its_plain.specs.Machine.Change.{channel_in}
use Rattle.its_plain.specs.Call.File.{most_files, most_blocks, blocks_used, has_file}
use Rattle.its_plain.specs.Operator.Clock.{clock_end}
use Rattle.its_plain.specs.Operator.Files.{channels_of}
use Rattle.its_stepped.specs.Forest.{Forest}
use Rattle.its_stepped.specs.Alarmed.{Alarmed}
use Rattle.its_stepped.specs.Address.{Addressed}

-- the first 16 words of page 0 are 0: their addresses are those of the accumulators, so nothing can
-- reach them
pub record IsHollow (c : Core) : Type 0 where
  pub hollow : (p : Page) → page_of c 0 ≡ Some p → (j : ℕ) → j < 16 → slice_index_or p.words j 0 ≡ 0

abbrev pub HollowIn : Option Whole → Type 0
HollowIn o = IfSome o (λ q. IsHollow q.core)

-- one of the ends of a link is open
abbrev pub AliveIn : Option Pipe → Type 0
AliveIn o = IfSome o (λ p. is_alive p.link ≡ true)

-- page 0 of each core is hollow, and each link has an open end
pub record Tight (m : Machine) : Type 0 where
  pub cores : (k : ℕ) → HollowIn (m.jobs k)
  pub links : (l : ℕ) → AliveIn (m.links l)

-- the flags of each job are ones that a PC word has
pub record Flagged (m : Machine) : Type 0 where
  pub each : (k : ℕ) → IfSome (m.jobs k) (λ q. named_flags q.job.flags ≡ q.job.flags)

-- none of these files has these names
abbrev pub NoneNamed : Names → List File → Type 0
NoneNamed n [] = Unit {0}
NoneNamed n (f ∷ fs) = (same_names n f.names ≡ false) × NoneNamed n fs

-- no file has the names of one before it, the first ones among them
abbrev pub AllApart : List File → List File → Type 0
AllApart done [] = Unit {0}
AllApart done (f ∷ fs) = NoneNamed f.names done × AllApart (done ++ f ∷ []) fs

-- at most 64 bytes wait each way
pub record FewBytes (x : Console) : Type 0 where
  pub input : length x.input ≤ most_waiting
  pub output : length x.output ≤ most_waiting

-- what the types keep: of jobs and their symbols; of files and channels; of links; and of
-- consoles
pub record KeptByTypes (m : Machine) : Type 0 where
  pub cores : (k : ℕ) (q : Whole) → m.jobs k ≡ Some q → IsWhole q.core
  pub closed : (k : ℕ) (q : Whole) → m.jobs k ≡ Some q → q.job.channels ≡ replicate 16 Closed
  pub few_pages : mapped m ≤ most_pages
  pub few_symbols : (k : ℕ) → length (m.symbols k) ≤ most_symbols
  pub nameless : (k : ℕ) → m.jobs k ≡ None → m.symbols k ≡ []
  pub apart : AllApart [] m.files
  pub few_files : length m.files ≤ most_files
  pub few_blocks : blocks_used m.files (channels_of m) ≤ most_blocks
  pub read : (k n at : ℕ) (names : Names) → channel_in (m.jobs k) n ≡ Reads names at → has_file names m.files ≡ true
  pub past_channels : (k n : ℕ) → 16 ≤ n → channel_in (m.jobs k) n ≡ Shut
  pub few_words : (l : ℕ) (p : Pipe) → m.links l ≡ Some p → length p.words ≤ most_link_words
  pub past_links : (l : ℕ) → most_links ≤ l → m.links l ≡ None
  pub few_bytes : (c : ℕ) → FewBytes (m.consoles c)
  pub past_consoles : (c : ℕ) → consoles ≤ c → m.consoles c ≡ no_bytes
  pub past_holders : (c : ℕ) → consoles ≤ c → m.holders c ≡ None

-- a machine that can be saved
pub record WellFormed (m : Machine) : Type 0 where
  pub timed : m.clock < clock_end
  pub forest : Forest m
  pub alarmed : Alarmed m
  pub addressed : Addressed m
  pub flagged : Flagged m
  pub tight : Tight m
  pub types : KeptByTypes m

-- the names of files, of drafts and of files that are read are three words each, as their types
-- say. The machine that the lines build does not depend on it, but a line of a session has three
-- names
abbrev pub IsNamed : Names → Type 0
IsNamed n = length n ≡ 3

abbrev pub AllNamed : List File → Type 0
AllNamed [] = Unit {0}
AllNamed (f ∷ fs) = IsNamed f.names × AllNamed fs

abbrev pub NamedOn : Chan → Type 0
NamedOn (Reads names at) = IsNamed names
NamedOn (Writes f) = IsNamed f.names
NamedOn _ = Unit {0}

pub record Named (m : Machine) : Type 0 where
  pub files : AllNamed m.files
  pub channels : (k n : ℕ) → NamedOn (channel_in (m.jobs k) n)
