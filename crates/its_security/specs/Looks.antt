-- Who may see what: all that a step of a job looks at outside its own job, a line for each call
-- (docs/MACHINE.md, "Who may see what"; docs/CALLS.md says what each call does). A unit and a
-- delivery look at nothing else, nor does a call that has no line.
-- A promise rests on this.
use Rattle.std.specs.Prelude.{◌≡◌, ◌==◌, ◌||◌, ℕ, Bool, true, false, not, Option, Some, None, length, nat_lt, slice_get, unwrap_or}
use Rattle.its_word.specs.Core.{word_at, can_store}
use Rattle.its_word.specs.Console.{most_waiting}
use Rattle.its_records.specs.Links.{most_links}
use Rattle.its_records.specs.Tree.{least_free}
use Rattle.its_records.specs.declared.calls.Ask.{Ask}
use Rattle.its_frame.specs.Variables.{variable_named}
use Rattle.its_frame.specs.declared.name.CallName.{CallName}
use Rattle.its_frame.specs.declared.name.CallName.TheVariants.{Sleep, Usrvar, Open, Close, Iot, Siot, Finish, Listen, Ttylnd, Access, Fillen, Delete, Rename, Usrmem, Corblk, Realt}
use Rattle.its_frame.specs.declared.variable.Variable.{Variable}
use Rattle.its_plain.specs.Call.Arguments.{input}
use Rattle.its_plain.specs.Call.Basic.{channel_at, is_superior, value_of_other}
use Rattle.its_plain.specs.Call.Core.{makes, has_page}
use Rattle.its_plain.specs.Call.File.{disk_device, is_output, file_named, words_by, names_from}
use Rattle.its_plain.specs.Call.Link.{link_device, words_in, is_end_closed, is_unread, is_crowded, can_open, link_named}
use Rattle.its_plain.specs.Call.Step.{Transition}
use Rattle.its_plain.specs.Call.Tty.{is_other, is_empty}
use Rattle.its_plain.specs.Call.Usr.{usr_device}
use Rattle.its_plain.specs.Call.Decide.{call_named}
use Rattle.its_plain.specs.Machine.{Names, Chan, Shut, TtyIn, TtyOut, Reads, Writes, On, Linked, Whole, Machine, core_of, limit}
use Rattle.its_plain.specs.Machine.Own.{names_of}
use Rattle.its_security.specs.Alike.{Calls, SamePages, SameBlocks, SameThere, SameRead, SameCount, outlines_of, inferior_in, any_in}

-- In all that follows, m and n are two machines, and what is named is the same in both. j is the
-- slot of the job, q the job, and a what its call asks for.

-- the clock
abbrev pub SameClock : Machine → Machine → Type 0
SameClock m n = n.clock ≡ m.clock

-- input from the console of the job, if it has one: the first byte that waits, and whether another
-- job holds the console
abbrev pub SameInput : ℕ → Machine → Machine → Option ℕ → Type 0
SameInput j m n (Some c) = (slice_get (n.consoles c).input 0 ≡ slice_get (m.consoles c).input 0) × (is_other j (n.holders c) ≡ is_other j (m.holders c))
SameInput j m n None = Unit {0}

-- output to it: whether there is room for a byte, and whether another job holds the console
abbrev pub SameRoom : ℕ → Machine → Machine → Option ℕ → Type 0
SameRoom j m n (Some c) = (nat_lt (length (n.consoles c).output) most_waiting ≡ nat_lt (length (m.consoles c).output) most_waiting) × (is_other j (n.holders c) ≡ is_other j (m.holders c))
SameRoom j m n None = Unit {0}

-- FINISH: whether a byte of output waits there, even if another job holds the console
abbrev pub SameDrained : Machine → Machine → Option ℕ → Type 0
SameDrained m n (Some c) = is_empty (n.consoles c).output ≡ is_empty (m.consoles c).output
SameDrained m n None = Unit {0}

-- LISTEN: also how many bytes of input wait, even if another job holds the console
abbrev pub SameHeard : Machine → Machine → Option ℕ → Type 0
SameHeard m n (Some c) = SameDrained m n (Some c) × (length (n.consoles c).input ≡ length (m.consoles c).input)
SameHeard m n None = Unit {0}

-- TTYLND: whether the job holds its console, and whether it may take it: from nobody, from itself,
-- or from an inferior
abbrev pub may_take : Machine → ℕ → Option ℕ → Bool
may_take m j (Some h) = (h == j) || is_superior j (outlines_of m h)
may_take m j None = true

abbrev pub holds : ℕ → Option ℕ → Bool
holds j (Some h) = h == j
holds j None = false

abbrev pub SameHolder : ℕ → Machine → Machine → Option ℕ → Type 0
SameHolder j m n (Some c) = (holds j (n.holders c) ≡ holds j (m.holders c)) × (may_take n j (n.holders c) ≡ may_take m j (m.holders c))
SameHolder j m n None = Unit {0}

-- the word of a file at a position, and how many words it has
abbrev pub SameWord : Machine → Machine → Names → ℕ → Type 0
SameWord m n x at = slice_get (words_by (file_named x n.files)) at ≡ slice_get (words_by (file_named x m.files)) at

abbrev pub SameLength : Machine → Machine → Names → Type 0
SameLength m n x = length (words_by (file_named x n.files)) ≡ length (words_by (file_named x m.files))

-- the word at an address of the job of slot s, and whether a word can be stored there
abbrev pub SameAddress : Machine → Machine → ℕ → ℕ → Type 0
SameAddress m n s at = word_at (core_of (n.jobs s)) at ≡ word_at (core_of (m.jobs s)) at

abbrev pub SameStore : Machine → Machine → ℕ → ℕ → Type 0
SameStore m n s at = can_store (core_of (n.jobs s)) at ≡ can_store (core_of (m.jobs s)) at

-- a link: for who writes, whether it is read any more, and whether it is full; for who reads, its
-- first word, and whether more can come
abbrev pub SameEnd : Machine → Machine → ℕ → Bool → Type 0
SameEnd m n k true = (is_unread (n.links k) ≡ is_unread (m.links k)) × (is_crowded (n.links k) ≡ is_crowded (m.links k))
SameEnd m n k false = (slice_get (words_in (n.links k)) 0 ≡ slice_get (words_in (m.links k)) 0) × (is_end_closed true (n.links k) ≡ is_end_closed true (m.links k))

-- `.IOT` and SIOT, by what their channel is on
abbrev pub SameTransfer : ℕ → Machine → Machine → Option ℕ → Chan → Type 0
SameTransfer j m n console Shut = Unit {0}
SameTransfer j m n console TtyIn = SameInput j m n console
SameTransfer j m n console TtyOut = SameRoom j m n console
SameTransfer j m n console (Reads x at) = SameWord m n x at
SameTransfer j m n console (Writes f) = SameBlocks m n f.words
SameTransfer j m n console (On s false at) = SameAddress m n s at
SameTransfer j m n console (On s true at) = SameStore m n s at
SameTransfer j m n console (Linked k write) = SameEnd m n k write

-- USRVAR, USRMEM and CORBLK through a channel on an inferior: the value of a variable; the word at
-- an address, and whether a word can be stored there; whether a page is there
abbrev pub SameVariable : Machine → Machine → Chan → Option Variable → Type 0
SameVariable m n (On s write at) (Some y) = value_of_other s y (n.jobs s) ≡ value_of_other s y (m.jobs s)
SameVariable m n _ _ = Unit {0}

abbrev pub SamePlace : Machine → Machine → Chan → ℕ → Type 0
SamePlace m n (On s write at) p = SameAddress m n s p × SameStore m n s p
SamePlace m n _ p = Unit {0}

abbrev pub SamePage : Machine → Machine → Chan → ℕ → Type 0
SamePage m n (On s write at) k = has_page (core_of (n.jobs s)) k ≡ has_page (core_of (m.jobs s)) k
SamePage m n _ k = Unit {0}

-- ACCESS and FILLEN of a channel that reads a file: how many words the file has
abbrev pub SameText : Machine → Machine → Chan → Type 0
SameText m n (Reads x at) = SameLength m n x
SameText m n _ = Unit {0}

-- CLOSE of a draft: whether a file has its names, whether that is read, and whether the directory
-- is full
abbrev pub SameClosed : Machine → Machine → Chan → Type 0
SameClosed m n (Writes f) = SameThere m n f.names × (SameRead m n f.names × SameCount m n)
SameClosed m n _ = Unit {0}

-- OPEN of USR: the inferior with these names, whether any job has them, and which slot is free
pub record SameJobs (j : ℕ) (m n : Machine) (u x : ℕ) : Type 0 where
  pub inferior : inferior_in n j u x ≡ inferior_in m j u x
  pub any : any_in n u x ≡ any_in m u x
  pub free : least_free (limit n) (outlines_of n) ≡ least_free (limit m) (outlines_of m)

-- OPEN of LNK: the link with these names, whether that end of it was never opened, and which
-- number is free
pub record SameLinks (m n : Machine) (x y : ℕ) (write : Bool) : Type 0 where
  pub named : link_named n.links x y ≡ link_named m.links x y
  pub unopened : (k : ℕ) → link_named m.links x y ≡ Some k → can_open write (n.links k) ≡ can_open write (m.links k)
  pub free : least_free most_links n.links ≡ least_free most_links m.links

-- this, if a test holds
abbrev pub When : Bool → Type 0 → Type 0
When true X = X
When false X = Unit {0}

-- OPEN, by its device: DSK, USR, LNK, or any other. A draft needs no file
abbrev pub SameOpening : ℕ → Machine → Machine → Ask → Bool → Bool → Bool → Type 0
SameOpening j m n a true usr link = When (not (is_output (unwrap_or a.control 0))) (SameThere m n (names_from a 2))
SameOpening j m n a false true link = SameJobs j m n (input a 2) (input a 3)
SameOpening j m n a false false true = SameLinks m n (input a 2) (input a 3) (unwrap_or a.control 0 == 1)
SameOpening j m n a false false false = Unit {0}

-- what an argument that names a channel names
abbrev pub named_by : Whole → Ask → ℕ → Chan
named_by q a k = channel_at q.channels (input a k)

-- what a call looks at, by its name
abbrev pub Looks : ℕ → Machine → Machine → Whole → Ask → Option CallName → Type 0
Looks j m n q a (Some Sleep) = SameClock m n
Looks j m n q a (Some Realt) = SameClock m n
Looks j m n q a (Some Usrvar) = SameVariable m n (named_by q a 0) (variable_named (input a 1))
Looks j m n q a (Some Usrmem) = SamePlace m n (named_by q a 0) (input a 1)
Looks j m n q a (Some Corblk) = SamePage m n (named_by q a 1) (input a 2) × When (makes (input a 0)) (SamePages m n)
Looks j m n q a (Some Open) = SameOpening j m n a (input a 1 == disk_device) (input a 1 == usr_device) (input a 1 == link_device)
Looks j m n q a (Some Close) = SameClosed m n (named_by q a 0)
Looks j m n q a (Some Iot) = SameTransfer j m n q.job.console (named_by q a 0)
Looks j m n q a (Some Siot) = SameTransfer j m n q.job.console (named_by q a 0)
Looks j m n q a (Some Finish) = SameDrained m n q.job.console
Looks j m n q a (Some Listen) = SameHeard m n q.job.console
Looks j m n q a (Some Ttylnd) = SameHolder j m n q.job.console
Looks j m n q a (Some Access) = SameText m n (named_by q a 0)
Looks j m n q a (Some Fillen) = SameText m n (named_by q a 0)
Looks j m n q a (Some Delete) = SameThere m n (names_from a 1) × SameRead m n (names_from a 1)
Looks j m n q a (Some Rename) = SameThere m n (names_from a 1) × (SameRead m n (names_from a 1) × SameThere m n (names_of (input a 3) (input a 4) (input a 5)))
Looks j m n q a _ = Unit {0}

-- what the next step of job j looks at, whatever call it is
abbrev pub LooksAlike : ℕ → Machine → Machine → Type 0
LooksAlike j m n = (q : Whole) (a : Ask) → Calls m j q a → Looks j m n q a (call_named a.name)

-- two steps that leave the same job in slot j, or no step in both
abbrev pub OwnBy : ℕ → Option Transition → Option Transition → Type 0
OwnBy j (Some t) (Some u) = u.machine.jobs j ≡ t.machine.jobs j
OwnBy j None None = Unit {0}
OwnBy j _ _ = ⊥
