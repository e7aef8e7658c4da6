-- Who may see what: when two machines look alike to a job; and the tables that all jobs share, at
-- which its calls look as well (docs/MACHINE.md, "Who may see what").
-- A promise rests on this.
use Rattle.std.specs.Prelude.{◌≡◌, ◌==◌, ◌&&◌, ℕ, Bool, true, false, Option, Some, None, List, find, length, nat_lt, option_map, unwrap_or, Ok}
use Rattle.std.specs.List.{list_any, range_with_len}
use Rattle.its_word.specs.Limits.{slots, most_pages}
use Rattle.its_records.specs.Links.{most_links}
use Rattle.its_records.specs.Tree.{least_free}
use Rattle.its_records.specs.declared.calls.Ask.{Ask}
use Rattle.its_records.specs.declared.calls.Site.{Site}
use Rattle.its_frame.specs.declared.name.CallName.{CallName}
use Rattle.its_frame.specs.declared.name.CallName.TheVariants.{Open, Close, Iot, Siot, Ttylnd, Delete, Rename, Uclose, Corblk}
use Rattle.its_plain.specs.Call.Arguments.{input}
use Rattle.its_plain.specs.Call.Basic.{channel_at, is_superior}
use Rattle.its_plain.specs.Call.File.{disk_device, most_files, is_full, file_named, has_file, is_read, names_from}
use Rattle.its_plain.specs.Call.Link.{link_device, link_named}
use Rattle.its_plain.specs.Call.Step.{Transition}
use Rattle.its_plain.specs.Call.Usr.{usr_device, has_names}
use Rattle.its_plain.specs.Machine.Change.{channel_in, superiors, console_in, is_gone}
use Rattle.its_plain.specs.Call.Decide.{call_named}
use Rattle.its_plain.specs.Call.Decode.{ask}
use Rattle.its_plain.specs.Unit.Interrupt.{deliverable}
use Rattle.its_plain.specs.Machine.{Names, Chan, Reads, Writes, On, Linked, Whole, Machine, mapped, limit}
use Rattle.its_plain.specs.Operator.Files.{channels_of}
use Rattle.its_plain.specs.Machine.Own.{names_of}
use Rattle.its_plain.specs.Unit.{Called, unit}
use Rattle.its_plain.specs.Machine.View.{Outline, outline}

-- what a job sees through a channel: the inferior, the file or the link that it is on
abbrev pub SameThrough : Machine → Machine → Chan → Type 0
SameThrough m n (On s write at) = n.jobs s ≡ m.jobs s
SameThrough m n (Reads x at) = file_named x n.files ≡ file_named x m.files
SameThrough m n (Linked k write) = n.links k ≡ m.links k
SameThrough m n _ = Unit {0}

-- and at its console, if it has one: the bytes there, and who holds it
abbrev pub SameAt : Machine → Machine → Option ℕ → Type 0
SameAt m n (Some c) = (n.consoles c ≡ m.consoles c) × (n.holders c ≡ m.holders c)
SameAt m n None = Unit {0}

-- two machines look alike to job j: the job is the same, and so are what it sees through its
-- channels and at its console, and the clock
pub record Alike (j : ℕ) (m n : Machine) : Type 0 where
  pub own : n.jobs j ≡ m.jobs j
  pub channels : (i : ℕ) → SameThrough m n (channel_in (m.jobs j) i)
  pub console : SameAt m n (console_in (m.jobs j))
  pub clock : n.clock ≡ m.clock

-- the tables that all jobs share. Pages: whether all jobs together have as many as there can be
abbrev pub SamePages : Machine → Machine → Type 0
SamePages m n = nat_lt (mapped n) most_pages ≡ nat_lt (mapped m) most_pages

-- blocks of files and drafts: whether there is one for the next word of a draft with these words
abbrev pub SameBlocks : Machine → Machine → List ℕ → Type 0
SameBlocks m n words = is_full n.files (channels_of n) words ≡ is_full m.files (channels_of m) words

-- the directory: the file with these names; whether there is one; whether any channel reads it; and
-- whether there can be one more
abbrev pub SameFile : Machine → Machine → Names → Type 0
SameFile m n x = file_named x n.files ≡ file_named x m.files

abbrev pub SameThere : Machine → Machine → Names → Type 0
SameThere m n x = has_file x n.files ≡ has_file x m.files

abbrev pub SameRead : Machine → Machine → Names → Type 0
SameRead m n x = is_read x (channels_of n) ≡ is_read x (channels_of m)

abbrev pub SameCount : Machine → Machine → Type 0
SameCount m n = nat_lt (length n.files) most_files ≡ nat_lt (length m.files) most_files

-- jobs: which inferior of job j has these names; whether any job has them; and which slot is free
abbrev pub outlines_of : Machine → ℕ → Option Outline
outlines_of m k = option_map outline (m.jobs k)

abbrev pub inferior_in : Machine → ℕ → ℕ → ℕ → Option ℕ
inferior_in m j u x = find (λ k. has_names u x (outlines_of m k) && is_superior j (outlines_of m k)) (range_with_len 0 slots)

abbrev pub any_in : Machine → ℕ → ℕ → Bool
any_in m u x = list_any (λ k. has_names u x (outlines_of m k)) (range_with_len 0 slots)

pub record SameNamed (j : ℕ) (m n : Machine) (u x : ℕ) : Type 0 where
  pub inferior : inferior_in n j u x ≡ inferior_in m j u x
  pub job : (s : ℕ) → inferior_in m j u x ≡ Some s → n.jobs s ≡ m.jobs s
  pub any : any_in n u x ≡ any_in m u x
  pub free : least_free (limit n) (outlines_of n) ≡ least_free (limit m) (outlines_of m)

-- links: which has these names, and that link; and which number is free
pub record SameLinked (m n : Machine) (x y : ℕ) : Type 0 where
  pub named : link_named n.links x y ≡ link_named m.links x y
  pub link : (k : ℕ) → link_named m.links x y ≡ Some k → n.links k ≡ m.links k
  pub free : least_free most_links n.links ≡ least_free most_links m.links

-- the tree: whether the holder of the console is an inferior; and which jobs are below an inferior
abbrev pub SameHolder : ℕ → Machine → Machine → Option ℕ → Type 0
SameHolder j m n (Some h) = is_superior j (outlines_of n h) ≡ is_superior j (outlines_of m h)
SameHolder j m n None = Unit {0}

abbrev pub SameTree : Machine → Machine → Chan → Type 0
SameTree m n (On s write at) = (k : ℕ) → is_gone (superiors n) s k ≡ is_gone (superiors m) s k
SameTree m n _ = Unit {0}

-- a draft into which a word goes, and one that is closed
abbrev pub SameDraft : Machine → Machine → Chan → Type 0
SameDraft m n (Writes f) = SameBlocks m n f.words
SameDraft m n _ = Unit {0}

abbrev pub SameClosed : Machine → Machine → Chan → Type 0
SameClosed m n (Writes f) = SameThere m n f.names × (SameRead m n f.names × SameCount m n)
SameClosed m n _ = Unit {0}

abbrev pub SameOpened : ℕ → Machine → Machine → Ask → Bool → Bool → Bool → Type 0
SameOpened j m n a true usr link = SameFile m n (names_from a 2)
SameOpened j m n a false true link = SameNamed j m n (input a 2) (input a 3)
SameOpened j m n a false false true = SameLinked m n (input a 2) (input a 3)
SameOpened j m n a false false false = Unit {0}

-- the tables that a call looks at, by its name. A call that is not named here looks at none
abbrev pub TablesFor : ℕ → Machine → Machine → Whole → Ask → Option CallName → Type 0
TablesFor j m n q a (Some Open) = SameOpened j m n a (input a 1 == disk_device) (input a 1 == usr_device) (input a 1 == link_device)
TablesFor j m n q a (Some Close) = SameClosed m n (channel_at q.channels (input a 0))
TablesFor j m n q a (Some Iot) = SameDraft m n (channel_at q.channels (input a 0))
TablesFor j m n q a (Some Siot) = SameDraft m n (channel_at q.channels (input a 0))
TablesFor j m n q a (Some Delete) = SameThere m n (names_from a 1) × SameRead m n (names_from a 1)
TablesFor j m n q a (Some Rename) = SameFile m n (names_from a 1) × (SameRead m n (names_from a 1) × SameThere m n (names_of (input a 3) (input a 4) (input a 5)))
TablesFor j m n q a (Some Ttylnd) = SameHolder j m n (m.holders (unwrap_or q.job.console 0))
TablesFor j m n q a (Some Uclose) = SameTree m n (channel_at q.channels (input a 0))
TablesFor j m n q a (Some Corblk) = SamePages m n
TablesFor j m n q a _ = Unit {0}

-- the next step of job j is a call that asks for this
pub record Calls (m : Machine) (j : ℕ) (q : Whole) (a : Ask) : Type 0 where
  pub is : m.jobs j ≡ Some q
  pub runs : q.job.stopped ≡ false
  pub quiet : deliverable q.job ≡ false
  pub site : Site
  pub unit_is : unit q.core q.job ≡ Called site
  pub ask_is : ask q.core site ≡ Ok a

-- the tables that the next step of job j looks at are the same
abbrev pub SameTables : ℕ → Machine → Machine → Type 0
SameTables j m n = (q : Whole) (a : Ask) → Calls m j q a → TablesFor j m n q a (call_named a.name)

-- two steps of job j are alike to it: the machines after them look alike, the same bytes and words
-- are moved, and both are a part of a call that goes on, or neither is
pub record AlikeSteps (j : ℕ) (t u : Transition) : Type 0 where
  pub machine : Alike j t.machine u.machine
  pub moves : u.moves ≡ t.moves
  pub part : u.part ≡ t.part

-- two steps that are alike, or no step in both
abbrev pub AlikeBy : ℕ → Option Transition → Option Transition → Type 0
AlikeBy j (Some t) (Some u) = AlikeSteps j t u
AlikeBy j None None = Unit {0}
AlikeBy j _ _ = ⊥
