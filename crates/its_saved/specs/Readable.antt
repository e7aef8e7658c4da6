-- What has to hold of a machine so that the grammar reads each of its lines: what the types of its
-- words and numbers keep.
-- No promise rests on this.
use Rattle.std.specs.Prelude.{◌≤◌, ◌<◌, ℕ, ◌^◌, IfSome, List, [], ◌∷◌}
use Rattle.its_word.specs.Console.{Console}
use Rattle.its_word.specs.Core.{word_at}
use Rattle.its_records.specs.declared.jobs.Job.{Job}
use Rattle.its_plain.specs.Machine.{File, Chan, Reads, Writes, On, Symbol, Pipe, Whole, Machine}
use Rattle.its_plain.specs.Machine.Change.{channel_in}

abbrev pub AllBelow : ℕ → List ℕ → Type 0
AllBelow n [] = Unit {0}
AllBelow n (w ∷ ws) = (w < n) × AllBelow n ws

pub record FileWorded (f : File) : Type 0 where
  pub names : AllBelow (2 ^ 36) f.names
  pub words : AllBelow (2 ^ 36) f.words

abbrev pub AllWorded : List File → Type 0
AllWorded [] = Unit {0}
AllWorded (f ∷ fs) = FileWorded f × AllWorded fs

abbrev pub AllSymbols : List Symbol → Type 0
AllSymbols [] = Unit {0}
AllSymbols (x ∷ xs) = ((x.0 < 2 ^ 36) × (x.1 < 2 ^ 18)) × AllSymbols xs

abbrev pub WordedOn : Chan → Type 0
WordedOn (Reads names at) = AllBelow (2 ^ 36) names × (at < 2 ^ 32)
WordedOn (Writes f) = FileWorded f
WordedOn (On s write at) = at < 2 ^ 32
WordedOn _ = Unit {0}

pub record JobWorded (j : Job) : Type 0 where
  pub uname : j.uname < 2 ^ 36
  pub jname : j.jname < 2 ^ 36
  pub pend1 : j.pend1 < 2 ^ 36
  pub pend2 : j.pend2 < 2 ^ 36
  pub mask1 : j.mask1 < 2 ^ 36
  pub mask2 : j.mask2 < 2 ^ 36
  pub defer1 : j.defer1 < 2 ^ 36
  pub defer2 : j.defer2 < 2 ^ 36
  pub console : IfSome j.console (λ c. c ≤ 7)

pub record WholeWorded (q : Whole) : Type 0 where
  pub core : (a : ℕ) → IfSome (word_at q.core a) (λ w. w < 2 ^ 36)
  pub job : JobWorded q.job
  pub alarm : IfSome q.alarm (λ a. a.1 < 2 ^ 36)

pub record PipeWorded (p : Pipe) : Type 0 where
  pub x : p.link.x < 2 ^ 36
  pub y : p.link.y < 2 ^ 36
  pub words : AllBelow (2 ^ 36) p.words

pub record BytesWorded (x : Console) : Type 0 where
  pub input : AllBelow 128 x.input
  pub output : AllBelow 128 x.output

pub record Worded (m : Machine) : Type 0 where
  pub version : (1 ≤ m.version) × (m.version ≤ 2)
  pub files : AllWorded m.files
  pub jobs : (k : ℕ) → IfSome (m.jobs k) WholeWorded
  pub symbols : (k : ℕ) → AllSymbols (m.symbols k)
  pub channels : (k n : ℕ) → WordedOn (channel_in (m.jobs k) n)
  pub links : (l : ℕ) → IfSome (m.links l) PipeWorded
  pub consoles : (c : ℕ) → BytesWorded (m.consoles c)
